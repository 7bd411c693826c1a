pub mod Taking
pub mod Closing
pub mod Playing
pub mod Offered
pub mod Steps
