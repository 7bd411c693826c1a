pub mod EntryKinds
pub mod Telling
pub mod Starting
pub mod Reading
pub mod Agains
pub mod Counting
pub mod Short
