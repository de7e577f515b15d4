pub mod Rules
pub mod Sheets
pub mod Bytes
pub mod Laid
pub mod Sorts
