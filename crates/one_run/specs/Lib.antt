pub mod Phases
pub mod Running
pub mod Opening
pub use Rattle.one_net.specs.bounded_input
pub use Rattle.one_net
