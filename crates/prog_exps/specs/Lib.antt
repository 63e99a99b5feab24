pub use Rattle.prog_leaves.specs.of_ir_uses as of_ir_uses
pub use Rattle.prog_leaves.specs.of_record_order as of_record_order
pub use Rattle.prog_leaves.specs as of_prog_leaves
pub use Rattle.prog_leaves.specs.of_prog_parts as of_prog_parts
