pub mod Shapes
pub mod Decs
pub mod Inside
pub mod Groups
