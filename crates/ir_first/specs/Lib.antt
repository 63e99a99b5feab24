pub mod Tree
pub mod Meaning
pub mod Continued
pub mod Whole
pub mod WellFormed
pub mod Size
pub mod Laws
