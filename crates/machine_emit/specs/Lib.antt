pub use Rattle.image_size.specs.of_image_law as of_image_law
pub use Rattle.image_size.specs as of_image_size
pub mod Begin
pub mod Contract
pub mod Labels
