pub mod Endings
pub mod Views
pub mod Laws
