pub use Rattle.match_types.specs as of_match_types
pub mod Steps
pub mod Made
