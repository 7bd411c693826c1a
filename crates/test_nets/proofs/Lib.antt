pub mod Idling
pub mod Upcalls
pub mod Beginning
pub mod InTurn
pub mod TwoOut
