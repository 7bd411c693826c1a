pub mod Kinds
pub mod Postings
pub mod Passes
pub mod Rule
pub mod Words
pub mod Steps
