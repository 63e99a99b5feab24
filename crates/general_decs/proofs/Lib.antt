pub use Rattle.general_vals.proofs.of_general_worlds as of_general_worlds
pub use Rattle.rec_groups.proofs as of_rec_groups
pub mod Tyvars
pub mod Opening
pub mod Marks
pub mod Groups
pub mod Together
pub mod Functions
pub mod Adding
pub mod Shown
pub mod Showing
pub mod Leading
pub mod Beginning
pub mod Lowering
pub mod Declaring
pub mod Finishing
pub mod Valued
pub mod Making
pub mod Stepping
