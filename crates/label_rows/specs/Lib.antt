pub use Rattle.mlc_names.specs as of_mlc_names
pub mod Order
pub mod Sorting
