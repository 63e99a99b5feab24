pub mod Logs
pub mod Flags
pub mod TableLemmas
pub mod CallLemmas
