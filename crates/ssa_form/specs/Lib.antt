pub mod Labels
pub mod Programs
pub mod Scoped
