pub use Rattle.prog_leaves.proofs.of_ir_uses as of_ir_uses
pub use Rattle.prog_leaves.proofs.of_record_order as of_record_order
pub use Rattle.prog_leaves.proofs.of_prog_parts as of_prog_parts
pub mod Added
