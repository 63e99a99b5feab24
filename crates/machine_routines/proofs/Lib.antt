mod IntWords
pub mod Seams
pub mod LayoutLemmas
pub mod Leads
pub mod Steps
pub mod Stands
pub mod Compares
pub mod Finds
pub mod Sizes
mod Examples
