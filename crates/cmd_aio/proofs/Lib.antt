pub mod Lines
pub mod Events
pub mod Connections
pub mod Unstopped
pub mod Waits
pub mod Runs
