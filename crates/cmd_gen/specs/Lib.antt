pub mod Asking
pub mod Summing
pub mod Generating
pub use Rattle.cmd_replay
pub use Rattle.laws_gen.specs.laws_script_runs
