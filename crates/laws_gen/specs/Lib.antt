pub mod Runs
pub mod Reading
pub use Rattle.laws_script_complete.specs.laws_script_runs
