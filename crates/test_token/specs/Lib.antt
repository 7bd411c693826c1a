pub mod Passes
pub mod Logs
pub mod Events
