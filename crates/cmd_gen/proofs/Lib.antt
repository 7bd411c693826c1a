pub mod Leaves
pub mod Known
