pub mod Words
pub mod Runs
pub mod Statuses
pub mod Endings
pub mod Starting
pub mod Answers
pub mod Telling
pub mod Laws
