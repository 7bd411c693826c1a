pub mod Same
pub mod Courses
pub mod Reports
pub mod Quiet
pub mod Leaving
pub mod Entering
pub mod Moves
pub mod One
