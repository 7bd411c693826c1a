pub mod Logs
pub mod Rule
pub mod Calls
pub use Rattle.list_lemmas
pub use Rattle.cdr_record
