pub use Rattle.core_rules.specs.of_ty_basis as of_ty_basis
pub use Rattle.core_rules.specs.of_sml_tree as of_sml_tree
pub use Rattle.ir_poly.specs.of_ir_values as of_ir_values
pub use Rattle.core_rules.specs as of_core_rules
pub use Rattle.ir_poly.specs as of_ir_poly
pub mod Scopes
pub mod Resolves
pub mod Parts
pub mod Laws
