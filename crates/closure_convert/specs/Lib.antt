pub use Rattle.flow_sets.specs as of_flow_sets
pub mod Scope
pub mod Closed
pub mod Capture
pub mod Counts
pub mod Laws
