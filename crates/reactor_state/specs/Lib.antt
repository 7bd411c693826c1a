pub mod Rises
pub mod Tables
pub mod Sound
pub mod State
