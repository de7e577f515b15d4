pub mod Days
pub mod Found
pub mod Parts
pub mod Hindrances
