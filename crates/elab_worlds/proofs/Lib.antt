pub mod Names
pub mod Coming
pub mod Final
pub mod Ending
pub mod Ordering
