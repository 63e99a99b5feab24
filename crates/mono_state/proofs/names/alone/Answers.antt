use Rattle.std.proofs.Common.{ap, ◌∙◌, []}
use Rattle.monomorphise.specs.Monomorphise.{copy_of}
use Rattle.mono_state.proofs.Going.{if-both}
use Rattle.mono_state.proofs.Naming.{nothing-at}
use Rattle.mono_state.proofs.names.alone.Goals as goal

pub returns-clause-is : goal.returns-clause-is
returns-clause-is c = if-both c.copy_at.result (λ n a b. λ H l. a H l ∙ ap (copy_of c.args.variable) (nothing-at l (b []).open_.nothing)) c.copy_at.ensures.is c.copy_at.ensures.goes
