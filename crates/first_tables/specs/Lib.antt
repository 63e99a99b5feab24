pub use Rattle.first_values.specs as of_first_values
pub mod TablesOf
pub mod Exceptions
