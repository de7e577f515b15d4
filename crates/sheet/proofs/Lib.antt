pub mod Stretches
pub mod Laying
