pub use Rattle.record_order.proofs.of_ir_uses as of_ir_uses
pub use Rattle.record_order.proofs as of_record_order
pub use Rattle.prog_parts.proofs as of_prog_parts
pub mod Nodes
pub mod Rows
