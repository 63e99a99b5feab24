pub use Rattle.prog_pats.specs.of_ir_uses as of_ir_uses
pub use Rattle.prog_pats.specs.of_record_order as of_record_order
pub use Rattle.prog_pats.specs.of_prog_parts as of_prog_parts
pub mod Functions
pub mod Places
pub mod Right
pub mod Rows
