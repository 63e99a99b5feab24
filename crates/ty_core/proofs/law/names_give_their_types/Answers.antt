use Rattle.ty_core.proofs.Functions.{names-give-their-types}
use Rattle.ty_core.proofs.law.names_give_their_types.Goals as goal

pub returns : goal.returns
returns c = names-give-their-types
