pub use Rattle.general_vals.specs.of_general_worlds as of_general_worlds
pub use Rattle.rec_groups.specs as of_rec_groups
pub mod Entries
pub mod Inside
pub mod Outside
pub mod Scoped
pub mod Values
pub mod Whole
