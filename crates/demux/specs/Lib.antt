pub mod PlayEnd
pub mod PlayNet
pub mod PlayRoom
pub mod PlayKeeps
