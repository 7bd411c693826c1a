pub mod Laws
pub mod Statuses
