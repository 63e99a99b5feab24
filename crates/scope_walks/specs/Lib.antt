pub mod Closing
pub mod Functions
pub mod Projects
