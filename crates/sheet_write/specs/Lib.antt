pub mod Writing
pub mod Pages
