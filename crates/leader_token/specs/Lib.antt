pub mod Boxed
pub mod Lists
pub mod Passes
pub mod Rule
pub mod Words
pub use Rattle.list_lemmas
