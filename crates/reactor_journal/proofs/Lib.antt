mod Worked
mod WorkedTurns
pub mod Basics
pub mod OneOpen
pub mod Fates
pub mod HadLaw
pub mod Alive
pub mod Timers
pub mod Closing
pub mod Turning
pub mod Steps
pub mod Picking
pub mod Armed
pub mod Live
pub mod Rising
