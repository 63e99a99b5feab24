pub use Rattle.ir_mono.proofs.of_ir_plain as of_ir_plain
pub use Rattle.ir_mono.proofs as of_ir_mono
pub mod Member
pub mod Sets
pub mod Solved
pub mod Known
pub mod Examples
