pub use Rattle.prog_check.specs as of_prog_check
pub mod Asked
pub mod Fits
pub mod Laws
