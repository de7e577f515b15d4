pub mod Putting
pub mod Sizes
pub mod Back
pub mod Sections
