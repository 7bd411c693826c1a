pub mod Types
pub mod Escapes
pub mod Lengths
pub mod Runs
