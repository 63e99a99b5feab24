pub use Rattle.ir_mono.proofs.of_ir_poly as of_ir_poly
pub use Rattle.ir_mono.proofs as of_ir_mono
pub mod Below
pub mod Never
