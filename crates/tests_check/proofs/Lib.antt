pub use Rattle.record_order.proofs.of_ir_uses as of_ir_uses
pub use Rattle.record_order.proofs as of_record_order
pub mod Lists
pub mod Names
pub mod Openings
pub mod Steps
pub mod Groups
pub mod Exps
pub mod Lets
pub mod Values
pub mod Atoms
pub mod Rolls
pub mod Operations
pub mod Cases
pub mod Binding
pub mod Ends
pub mod Walking
