pub mod Codes
pub mod Commands
pub mod FaultLines
pub mod Laws
