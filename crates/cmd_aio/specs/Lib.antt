pub mod Words
pub mod Starting
pub mod Connections
pub mod Runs
pub mod Finishing
pub mod Leaving
pub mod Statuses
