pub use Rattle.closure_bodies.proofs.of_closure_parts as of_closure_parts
pub mod Adding
pub mod Entering
pub mod Holding
pub mod Least
pub mod Listing
pub mod Making
pub mod Parts
pub mod Strings
pub mod Walking
