pub mod CoreRead
pub mod StrsRead
