pub use Rattle.record_order.specs.of_ir_uses as of_ir_uses
pub use Rattle.record_order.specs as of_record_order
pub mod Fits
pub mod Reads
pub mod Walk
