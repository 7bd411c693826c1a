pub mod Texts
pub mod JournalSink
pub mod Faults
pub mod Names
pub mod Rows
pub mod Tables
pub mod Held
pub mod Lent
