pub mod Outcome
pub mod Journals
pub mod Statuses
pub mod Ran
