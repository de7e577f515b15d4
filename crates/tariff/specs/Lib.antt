pub mod Tolls
pub mod Prices
pub mod Minutes
pub mod Ranks
pub mod Numbers
pub mod Pairs
