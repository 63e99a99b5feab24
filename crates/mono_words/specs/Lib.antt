pub mod Words
pub mod Seen
pub mod Made
pub mod Laws
