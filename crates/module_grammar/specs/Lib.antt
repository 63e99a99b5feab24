pub mod Signatures
pub mod Structures
pub mod Sources
pub mod Laws
pub mod PartialSignatures
pub mod PartialModules
