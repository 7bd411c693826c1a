pub mod Chains
pub mod Marking
pub mod Lanes
pub mod Bars
pub mod Handles
