pub use Rattle.ir_uses.proofs as of_ir_uses
pub mod Halves
pub mod Tables
