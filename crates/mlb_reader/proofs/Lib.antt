pub mod CountLemmas
mod Examples
pub mod FileLemmas
pub mod Folders
pub mod KnownLemmas
pub mod LoadLemmas
pub mod MlbLemmas
mod OneProject
pub mod RefusalLemmas
pub mod SegmentLemmas
pub mod SourceLemmas
mod TopLemmas
pub mod Within
pub mod WithinBinds
pub mod WithinChains
pub mod WithinExpressions
pub mod WithinForms
pub mod WithinPatterns
pub mod WithinRests
pub mod WithinTerminals
pub mod WithinTokens
mod WithinTops
pub mod WithinWeaker
