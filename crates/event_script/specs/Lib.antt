pub mod Script
pub mod Stories
pub mod Grammar
pub use Rattle.ev_base.specs.ev_types
pub use Rattle.ev_base
pub use Rattle.text_parts
