pub use Rattle.emit_equality.specs as of_emit_equality
pub mod Found
pub mod Known
