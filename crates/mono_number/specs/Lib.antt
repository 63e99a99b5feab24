pub mod Walking
pub mod Moves
pub mod Laws
