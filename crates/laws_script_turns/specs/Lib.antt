pub mod Grouped
pub mod Laws
pub use Rattle.acceptor
pub use Rattle.event_script
