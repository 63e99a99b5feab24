pub mod Counts
pub mod Gather
pub mod Chain
pub mod Arguments
pub mod Marking
