pub mod Moves
pub mod Sifts
pub mod Firsts
pub mod Removals
pub mod Clear
