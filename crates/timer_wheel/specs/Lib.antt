pub mod Spokes
pub mod Content
pub mod Chains
pub mod Index
pub mod Linked
