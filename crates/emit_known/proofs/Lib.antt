pub use Rattle.emit_equality.proofs as of_emit_equality
pub mod Finding
pub mod Walking
pub mod Writing
