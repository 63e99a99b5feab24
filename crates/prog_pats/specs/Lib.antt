pub use Rattle.record_order.specs.of_ir_uses as of_ir_uses
pub use Rattle.record_order.specs as of_record_order
pub use Rattle.prog_parts.specs as of_prog_parts
pub mod Fits
