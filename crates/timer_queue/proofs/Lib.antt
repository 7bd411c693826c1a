pub mod Schedules
pub mod Places
pub mod Members
pub mod Swaps
pub mod Contents
pub mod Rows
pub mod Merged
