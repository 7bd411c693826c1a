pub mod Seats
pub mod Moves
pub mod Dispatch
pub mod Ends
pub mod Steps
pub mod Kept
pub mod Start
pub mod Started
pub mod Closed
pub mod SettledHistory
pub mod Owed
pub mod Returned
pub mod SettleEvent
pub mod Removed
pub mod Stopped
pub mod Opened
pub mod Registered
pub mod Begun
pub mod Quiet
pub mod Suspension
pub mod Masking
pub mod Posted
pub mod Scheduling
pub mod Cancelling
mod PollWait
mod PollDue
mod PollReady
mod Polls
pub mod Acted
pub mod Refused
pub mod ActsOf
pub mod HandOver
pub mod Frames
pub mod Still
pub mod Watched
pub mod WaitNumbers
pub mod Over
