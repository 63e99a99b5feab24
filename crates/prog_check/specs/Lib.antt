pub use Rattle.ir_poly.specs as of_ir_poly
pub use Rattle.ir_poly.specs.of_ir_values as of_ir_values
pub mod Same
pub mod Deciding
pub mod Checking
pub mod Binders
pub mod Program
pub mod Laws
