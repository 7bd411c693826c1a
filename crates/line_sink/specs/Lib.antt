pub mod LineSink
pub mod Faults
pub use Rattle.sink_buffer
pub use Rattle.reactor_model.specs.reactor_journal
pub use Rattle.reactor_model
