pub mod Reversed
pub mod Asking
pub mod Declaring
pub mod Walks
pub mod Opening
pub mod Pairs
pub mod FewSo
