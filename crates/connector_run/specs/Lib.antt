pub mod Phases
pub mod Running
pub mod Leaving
pub mod Waits
pub mod Opening
