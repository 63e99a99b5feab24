pub use Rattle.ty_table.specs.of_ty_core as of_ty_core
pub use Rattle.ty_table.specs as of_ty_table
pub mod Rows
pub mod Substitution
pub mod Weight
pub mod Props
pub mod SlotsOf
pub mod Finding
pub mod Forces
pub mod Tasks
pub mod Parts
pub mod Solve
pub mod Changes
pub mod Task
pub mod Walk
pub mod Compared
pub mod Held
pub mod HeldProps
pub mod Limits
pub mod LimitProps
pub mod Lowering
pub mod Said
pub mod Fields
pub mod Sizes
pub mod Places
