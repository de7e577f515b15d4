pub mod Relieved
pub mod Graced
