pub mod Seats
pub mod Index
pub mod Cells
