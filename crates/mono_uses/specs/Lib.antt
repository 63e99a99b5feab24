pub use Rattle.mono_fits.specs as of_mono_fits
pub mod Nodes
pub mod Shaped
