pub use Rattle.core_rules.specs as of_core_rules
pub mod Entries
