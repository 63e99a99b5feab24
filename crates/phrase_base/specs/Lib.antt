pub mod Gives
pub mod Left
pub mod TypesRead
