pub mod Parsed
pub mod PutItems
pub mod Begins
pub mod Leaves
pub mod Lines
mod Among
mod ItemLines
