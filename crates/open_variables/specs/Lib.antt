pub mod Open
pub mod Looking
