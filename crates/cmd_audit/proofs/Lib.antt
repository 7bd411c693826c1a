pub mod Refused
pub mod Passing
