pub mod Courses
pub mod Serving
pub mod Accounts
