pub mod Rising
pub mod Tags
pub mod Constants
pub mod Converted
pub mod Whole
pub mod Laws
