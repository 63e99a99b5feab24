pub use Rattle.ir_tables.specs as of_ir_tables
pub use Rattle.ir_tables.specs.of_ir_poly as of_ir_poly
pub mod TreeOf
pub mod Readings
pub mod Weights
