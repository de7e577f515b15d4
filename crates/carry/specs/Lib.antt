pub mod Laws
pub mod Handed
pub mod Worked
pub mod Hundredths
