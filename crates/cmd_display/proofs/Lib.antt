pub mod Lists
pub mod Ending
pub mod Putting
pub mod Records
pub mod Texts
pub mod Endings
