pub mod Code
pub mod FaultLine
pub mod File
pub mod Files
