pub mod Terms
pub mod Served
pub mod Laws
