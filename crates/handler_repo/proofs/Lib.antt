pub mod Counts
pub mod Lists
pub mod Entries
pub mod Steps
