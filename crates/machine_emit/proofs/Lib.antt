pub use Rattle.image_size.proofs.of_image_law as of_image_law
pub use Rattle.image_size.proofs as of_image_size
pub mod Emitted
pub mod Funs
pub mod SetPlaces
pub mod Whole
pub mod Only
pub mod Reading
