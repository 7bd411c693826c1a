pub mod Sums
pub mod Stories
pub mod Registered
pub mod Handlers
pub mod Totals
pub mod Grouped
pub mod Read
