pub mod Numbering
pub mod Given
pub mod Moving
pub mod Wording
pub mod Heads
pub mod NamesApart
