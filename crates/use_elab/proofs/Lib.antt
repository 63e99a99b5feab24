pub mod Trees
pub mod Primitives
pub mod Uses
pub mod Making
pub mod Putting
