pub mod BindingsRead
pub mod DeclarationsRead
pub mod ExpressionsRead
pub mod HeadsRead
pub mod PatternsRead
pub mod Ties
pub mod TypesRead
pub mod VidPlace
