pub mod Chains
pub use Rattle.laws_script_runs.specs.laws_by_turns
pub use Rattle.laws_script_runs.specs.laws_script_turns
pub use Rattle.laws_script_runs
