pub use Rattle.ir_poly.proofs as of_ir_poly
pub use Rattle.ir_poly.proofs.of_ir_values as of_ir_values
pub mod SameLemmas
pub mod DecidingLemmas
pub mod Sound
pub mod Complete
pub mod BindersLemmas
pub mod ProgramLemmas
pub mod Refused
