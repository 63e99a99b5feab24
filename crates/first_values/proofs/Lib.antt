pub use Rattle.ir_values.proofs as of_ir_values
pub use Rattle.ir_values.proofs.of_mlc_runs as of_mlc_runs
pub use Rattle.ir_values.proofs.of_mlc_prims as of_mlc_prims
pub mod Lemmas
pub mod RaisingLemmas
mod Examples
