pub mod Noting
pub mod Unmarked
pub mod Telling
