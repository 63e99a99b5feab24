pub use Rattle.emit_code.specs as of_emit_code
pub mod Ways
