pub mod UniqueLemmas
pub mod Examples
