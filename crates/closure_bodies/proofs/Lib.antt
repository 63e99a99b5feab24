pub use Rattle.closure_steps.proofs.of_capture_table as of_capture_table
pub use Rattle.closure_steps.proofs as of_closure_steps
pub use Rattle.closure_steps.proofs.of_closure_parts as of_closure_parts
pub mod Arms
pub mod Loops
pub mod Nodes
