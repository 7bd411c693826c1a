pub mod Told
pub mod Laws
pub use Rattle.laws_reports
pub use Rattle.log_handler
