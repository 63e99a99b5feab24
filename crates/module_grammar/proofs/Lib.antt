mod SourceExamples
mod NoSource
pub mod SpecSound
pub mod SigSound
pub mod StrSound
pub mod SourceSound
pub mod Shorter
pub mod SpecComplete
pub mod SigComplete
pub mod StrComplete
pub mod SourceComplete
pub mod SpecFar
pub mod SigFar
pub mod StrFar
pub mod SourceFar
pub mod Paths
pub mod SpecOver
pub mod SigOver
pub mod StrOver
pub mod SourceOver
