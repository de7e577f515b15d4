pub mod Words
pub mod Outcomes
pub mod Hands
pub mod Turns
pub mod Tariffs
pub mod Room
pub mod Answers
