pub mod Folds
pub mod Same
pub mod Slips
pub mod Exact
pub mod Whole
