pub mod Lows
pub mod Leavings
