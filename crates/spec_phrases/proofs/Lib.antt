pub mod Turns
pub mod WhereParts
pub mod Form
