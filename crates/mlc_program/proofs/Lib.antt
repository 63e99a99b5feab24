pub mod Carried
pub mod CommandWords
pub mod Compiling
pub mod Exiting
pub mod Tellings
