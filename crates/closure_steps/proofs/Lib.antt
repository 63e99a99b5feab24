pub use Rattle.closure_parts.proofs.of_capture_table as of_capture_table
pub use Rattle.closure_parts.proofs as of_closure_parts
pub mod Rolls
pub mod Leading
pub mod Switching
pub mod Stepping
pub mod Pushing
pub mod Members
