pub mod Echo
pub mod Connections
pub mod Handlers
pub mod Runs
