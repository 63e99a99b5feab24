pub use Rattle.ty_solve.specs as of_ty_solve
pub mod Steps
pub mod Images
pub mod Renamed
pub mod Put
