pub mod Lines
pub mod Numbers
pub mod Steps
pub mod Groups
pub mod Readings
pub mod Playable
