pub mod Totals
pub mod Alike
