pub mod Handlers
pub mod Idle
pub mod Play
pub mod RoundRobin
