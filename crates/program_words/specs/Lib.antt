pub use Rattle.cmd_line
pub mod Parting
pub mod Calling
pub mod Laws
