pub use Rattle.core_rules.proofs.of_ty_basis as of_ty_basis
pub use Rattle.core_rules.proofs.of_sml_tree as of_sml_tree
pub use Rattle.ir_poly.proofs.of_ir_values as of_ir_values
pub use Rattle.core_rules.proofs as of_core_rules
pub use Rattle.ir_poly.proofs as of_ir_poly
pub mod Agreeing
pub mod Related
pub mod LookUps
pub mod Same
pub mod Matching
pub mod Performing
pub mod Declared
pub mod Chains
pub mod Kept
pub mod Initial
mod Example
mod Ordered
mod Fields
