pub mod Charges
pub mod Columns
