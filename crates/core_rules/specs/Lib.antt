pub use Rattle.ty_basis.specs as of_ty_basis
pub use Rattle.sml_tree.specs as of_sml_tree
pub mod Words
pub mod Objects
pub mod Values
pub mod Match
pub mod Eval
pub mod Initial
pub mod Meaning
pub mod Scoping
pub mod Choices
pub mod Elaborated
pub mod Restrictions
pub mod Unbound
pub mod Typing
pub mod Cuts
pub mod Principal
pub mod Project
pub mod Closing
pub mod Fits
pub mod Laws
pub mod Bases
