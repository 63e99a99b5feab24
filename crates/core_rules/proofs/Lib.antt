pub use Rattle.ty_basis.proofs as of_ty_basis
pub use Rattle.sml_tree.proofs as of_sml_tree
mod Words
pub mod Runs
mod Broken
mod Readings
mod Lost
mod Projects
pub mod Growing
mod Statics
mod Typings
pub mod Refused
pub mod Basics
mod Cutting
mod MoreRuns
mod Printed
pub mod MoreTypings
pub mod Assigned
mod Annotated
mod Doubling
mod BoundTwice
pub mod Generic
mod Identity
pub mod Closing
mod Escapes
pub mod LookUps
pub mod Fitting
pub mod FittingDecs
pub mod FittingInitial
pub mod Expansive
pub mod Bound
pub mod BoundProperly
