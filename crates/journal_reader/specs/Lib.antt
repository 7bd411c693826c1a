pub mod Limits
pub mod Journals
pub mod Reading
pub mod Parts
pub mod Records
pub mod FirstLines
pub use Rattle.log_handler
pub use Rattle.journal_text
