pub mod Records
pub mod Notes
pub mod Numbers
pub mod Moments
pub mod Entries
pub mod Scripts
