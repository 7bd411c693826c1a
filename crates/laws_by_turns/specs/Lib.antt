pub mod ByTurns
pub mod Laws
