pub mod DescsRead
pub mod ListsRead
pub mod FormsRead
