pub mod Lines
pub mod Scripts
pub mod Reading
pub mod Parsing
pub mod Playable
pub use Rattle.script_net
