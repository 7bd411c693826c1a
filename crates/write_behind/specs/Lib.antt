pub mod Queues
pub mod Writers
pub mod Modes
pub mod Facts
