pub use Rattle.prog_pats.proofs.of_ir_uses as of_ir_uses
pub use Rattle.prog_pats.proofs.of_record_order as of_record_order
pub use Rattle.prog_pats.proofs.of_prog_parts as of_prog_parts
pub mod Going
pub mod Inside
pub mod Nodes
pub mod Typing
