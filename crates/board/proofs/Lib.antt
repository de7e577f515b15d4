pub mod Cells
pub mod Answering
pub mod Planning
pub mod Trying
pub mod Publishing
