pub mod Logs
pub mod ListLemmas
pub mod OntoLemmas
