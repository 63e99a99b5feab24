pub mod SameRuns
pub mod Follows
