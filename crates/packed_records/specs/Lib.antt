pub mod Packing
pub mod Gathering
