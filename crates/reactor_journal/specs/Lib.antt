pub mod Event
pub mod Past
pub mod Follow
pub mod Laws
pub mod Held
pub use Rattle.ev_types
