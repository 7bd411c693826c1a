pub mod Dashes
pub mod Options
pub mod Parts
pub mod Keeping
