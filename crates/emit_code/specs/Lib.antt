pub use Rattle.emit_rows.specs.of_machine_rows as of_machine_rows
pub use Rattle.emit_rows.specs as of_emit_rows
pub mod PlacesOf
pub mod Tags
