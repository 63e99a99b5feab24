pub use Rattle.emit_parts.specs as of_emit_parts
pub mod Walk
pub mod Marks
