pub mod Codes
pub mod Keeps
pub mod Lists
pub mod Draws
pub mod Kin
pub mod Drains
pub mod Closing
