pub mod Dues
pub mod Room
pub mod Down
