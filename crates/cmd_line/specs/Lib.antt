pub mod Numbers
pub mod Given
pub mod Options
pub mod Lines
pub mod Ranges
pub mod Parse
pub mod Rows
