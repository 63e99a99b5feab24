pub use Rattle.match_steps.specs as of_match_steps
pub use Rattle.match_steps.specs.of_match_types as of_match_types
pub mod Ways
pub mod Making
pub mod Made
pub mod Joining
pub mod Rows
