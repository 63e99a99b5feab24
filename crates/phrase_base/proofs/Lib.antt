pub mod Words
pub mod Loop
pub mod Listing
pub mod Elements
pub mod Shorter
pub mod Lists
