pub mod Borrowed
pub mod Decoding
pub mod Feeding
pub mod Grammar
pub mod Laws
pub mod Spelling
pub use Rattle.ev_types
