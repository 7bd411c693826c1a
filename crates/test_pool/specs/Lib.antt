pub mod Members
pub mod Callers
pub use Rattle.tp_reactor
