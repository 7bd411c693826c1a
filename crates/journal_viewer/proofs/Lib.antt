pub mod Verdicts
pub mod WordBytes
