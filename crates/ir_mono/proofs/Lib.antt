pub use Rattle.ir_poly.proofs.of_ir_values as of_ir_values
pub use Rattle.ir_poly.proofs as of_ir_poly
pub use Rattle.ir_poly.proofs.of_ir_plain as of_ir_plain
pub mod Values
pub mod Comparing
pub mod Rows
pub mod Performed
pub mod Sound
pub mod Bound
pub mod Examples
pub mod Growing
