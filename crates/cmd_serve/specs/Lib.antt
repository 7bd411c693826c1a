pub mod Starting
pub mod Leading
pub mod Leaving
