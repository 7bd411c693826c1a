pub mod Windows
pub mod Pipelines
pub mod Shown
pub mod Displays
pub mod Endings
