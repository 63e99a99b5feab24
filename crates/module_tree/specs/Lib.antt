pub mod ReadModules
pub mod Scope
pub mod ModuleDepth
pub mod ModuleGrammar
pub mod BareModules
pub mod ModuleBare
