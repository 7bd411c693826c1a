pub mod Feeds
pub mod Counting
