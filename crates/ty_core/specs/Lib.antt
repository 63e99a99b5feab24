pub use Rattle.mlc_names.specs as of_mlc_names
pub mod Types
pub mod Marks
pub mod TypesOf
pub mod Statics
pub mod Laws
