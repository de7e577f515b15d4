pub mod Faults
pub mod Numbers
pub mod Records
pub mod Sections
pub mod Lots
pub mod Sheets
pub mod Lent
