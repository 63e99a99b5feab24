pub mod Noted
pub mod Unguarded
