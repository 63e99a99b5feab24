pub mod Build
pub mod Laws
