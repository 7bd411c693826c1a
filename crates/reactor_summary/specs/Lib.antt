pub mod Summary
pub mod Tells
pub mod Rules
pub mod Laws
pub use Rattle.ev_types
pub use Rattle.reactor_journal
