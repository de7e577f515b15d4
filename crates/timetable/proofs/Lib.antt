pub mod Stances
pub mod Loops
pub mod Cells
pub mod Sources
pub mod Ways
pub mod Strides
pub mod Hindrances
