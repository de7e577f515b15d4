pub mod Strikes
pub mod Owing
