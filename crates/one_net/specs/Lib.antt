pub mod OneEnd
pub mod OneKeeps
pub mod StoryOfEnd
pub mod Watched
pub mod OneNet
pub use Rattle.bounded_input
