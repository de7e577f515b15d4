pub mod Desk
pub mod Meanings
pub mod Lawful
pub mod Reported
pub mod Ahead
