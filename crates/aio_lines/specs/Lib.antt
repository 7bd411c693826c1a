pub mod Lines
pub mod Watch
pub use Rattle.line_sink
