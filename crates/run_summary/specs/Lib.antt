pub mod Summaries
pub mod Adding
