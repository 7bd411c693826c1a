pub mod Sums
pub mod Times
