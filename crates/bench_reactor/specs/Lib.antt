pub mod CoreRuns
pub mod SlowNet
