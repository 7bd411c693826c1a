pub mod Begins
pub mod Starting
