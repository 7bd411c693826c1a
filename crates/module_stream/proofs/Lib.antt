pub mod Rows
pub mod Alone
pub mod Steps
pub mod Formats
pub mod Giving
pub mod Passes
pub mod Settling
