pub mod Cuts
pub mod Dispatching
pub mod Turns
