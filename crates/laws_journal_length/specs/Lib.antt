pub mod Few
pub mod Laws
pub use Rattle.laws_one_worker.specs.laws_script_serial
pub use Rattle.laws_one_worker
