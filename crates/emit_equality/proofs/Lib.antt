pub use Rattle.emit_code.proofs as of_emit_code
pub mod Pushed
