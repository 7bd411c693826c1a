pub mod Courses
pub mod Accepting
pub mod Serving
pub mod Accounts
