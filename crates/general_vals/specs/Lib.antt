pub use Rattle.general_worlds.specs as of_general_worlds
pub mod Closing
pub mod Settling
