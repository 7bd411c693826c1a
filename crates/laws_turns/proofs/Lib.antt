pub mod Turns
pub mod Opens
