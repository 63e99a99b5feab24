pub use Rattle.ir_mono.specs.of_ir_poly as of_ir_poly
pub use Rattle.ir_mono.specs as of_ir_mono
pub mod Explicit
pub mod Laws
