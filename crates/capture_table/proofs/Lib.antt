pub mod Growing
pub mod Walking
pub mod Placing
pub mod Agree
pub mod Binders
pub mod Twice
pub mod StepBinds
pub mod Curried
pub mod Parts
pub mod Levels
mod Examples
