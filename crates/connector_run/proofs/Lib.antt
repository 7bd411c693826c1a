pub mod Serving
pub mod Ending
pub mod Leaving
pub mod Beginning
pub mod Waits
