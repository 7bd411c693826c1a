pub mod Lines
pub mod Courses
pub mod Journals
pub mod Outcome
pub mod Endings
pub mod Serving
