pub mod Counts
pub mod Opens
