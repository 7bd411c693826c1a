pub mod Records
pub mod Scripts
pub mod Pieces
pub mod Texts
pub mod Laws
pub mod Rows
