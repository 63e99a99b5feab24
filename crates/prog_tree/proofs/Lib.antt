pub mod ExpOf
pub mod Sums
pub mod Weighing
