pub mod Examples
pub mod BareExamples
pub mod TyLemmas
pub mod NoTree
pub mod FixityLemmas
pub mod Walks
pub mod PhraseExamples
