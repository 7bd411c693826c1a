pub mod Lefts
pub mod Passing
