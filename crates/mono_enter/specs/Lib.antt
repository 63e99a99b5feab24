pub use Rattle.mono_state.specs as of_mono_state
pub mod Scanning
pub mod Entering
pub mod Walked
pub mod Laws
