pub mod Texts
pub mod Gathering
