pub mod Opens
pub mod Laws
pub use Rattle.reactor_summary
pub use Rattle.list_lemmas
