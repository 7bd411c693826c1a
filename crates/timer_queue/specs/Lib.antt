pub mod Timers
pub mod Content
pub mod Sorted
