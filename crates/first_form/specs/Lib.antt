pub mod Programs
pub mod Scoped
