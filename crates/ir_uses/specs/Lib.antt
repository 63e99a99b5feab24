pub use Rattle.ir_known.specs.of_ir_poly as of_ir_poly
pub use Rattle.prog_check.specs as of_prog_check
pub mod Uses
pub mod Puts
pub mod Shapes
pub mod Rows
pub mod Fields
