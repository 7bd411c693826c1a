pub mod Passing
pub mod Telling
pub mod Widening
