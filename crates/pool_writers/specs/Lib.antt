pub mod Writers
pub mod Seats
pub use Rattle.task_server
