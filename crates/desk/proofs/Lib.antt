pub mod Equals
pub mod Lines
