pub mod Texts
pub mod Written
pub mod Gathers
pub mod Direct
pub mod Short
pub mod Growing
