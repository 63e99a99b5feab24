pub mod Placing
pub mod Adding
pub mod AddingRows
pub mod Declared
pub mod Written
