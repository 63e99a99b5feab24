pub use Rattle.mono_operations.specs as of_mono_operations
pub mod Walk
