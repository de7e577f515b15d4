pub mod Orders
pub mod Lent
pub mod Notes
pub mod Asking
pub mod Law
