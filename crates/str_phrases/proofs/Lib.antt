pub mod Growing
pub mod Sealing
pub mod Opening
pub mod Declaring
pub mod Locals
pub mod Binding
pub mod Making
