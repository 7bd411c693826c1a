pub mod Held
pub mod Priority
