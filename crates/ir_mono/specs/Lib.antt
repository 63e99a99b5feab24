pub use Rattle.ir_poly.specs as of_ir_poly
pub use Rattle.ir_poly.specs.of_ir_plain as of_ir_plain
pub use Rattle.ir_poly.specs.of_ir_values as of_ir_values
pub mod Types
pub mod Growing
pub mod Mono
pub mod Typing
pub mod Explicit
pub mod Values
pub mod WellFormed
pub mod Laws
