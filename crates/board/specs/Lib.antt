pub mod Kept
pub mod Tables
pub mod Refusals
pub mod Ledger
pub mod Calls
pub mod Published
