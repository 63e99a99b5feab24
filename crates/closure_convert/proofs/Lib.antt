pub use Rattle.flow_sets.proofs as of_flow_sets
pub mod Cut
pub mod Captured
pub mod Numbered
pub mod Few
pub mod Curried
