pub mod Lines
pub mod Boxes
pub mod Exchanges
pub mod Caller
pub mod Kept
