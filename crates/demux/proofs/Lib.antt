pub mod Parting
pub mod Playing
