pub use Rattle.image_law.proofs as of_image_law
pub mod Texts
