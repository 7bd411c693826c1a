pub mod Audits
pub mod Laws
pub use Rattle.journal_reader
