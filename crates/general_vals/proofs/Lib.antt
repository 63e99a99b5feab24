pub use Rattle.general_worlds.proofs as of_general_worlds
pub mod Collecting
pub mod Closing
pub mod Ending
pub mod Settling
