pub use Rattle.pat_elab.proofs as of_pat_elab
pub use Rattle.pat_elab.proofs.of_elab_context as of_elab_context
pub mod Knowing
pub mod Over
pub mod Within
pub mod Lowering
pub mod Joining
pub mod Calling
pub mod Recording
pub mod Turns
pub mod Leaves
pub mod Nodes
pub mod CallingShapes
pub mod Sizes
pub mod Once
pub mod Using
pub mod Entering
pub mod JoiningRules
pub mod Finishing
pub mod JoiningChains
pub mod Chains
pub mod Building
pub mod Listing
pub mod Choosing
pub mod EnteringFunctions
pub mod FinishingFunctions
pub mod Clausing
