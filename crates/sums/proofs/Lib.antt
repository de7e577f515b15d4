pub mod Adding
pub mod Weights
