pub mod Numbers
pub mod Running
pub mod Faithful
pub mod Lotting
pub mod Counted
pub mod Staging
pub mod Accepted
pub mod Whole
