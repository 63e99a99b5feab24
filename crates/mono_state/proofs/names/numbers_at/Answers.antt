use Rattle.std.proofs.Common.{sym, []}
use Rattle.mono_state.proofs.Growing.{got-or, got-none}
use Rattle.mono_state.proofs.names.numbers_at.Goals as goal

pub returns-in-Some : goal.returns-in-Some
returns-in-Some c = sym (got-or c.args.lists.now c.args.list [] _ (sym c.in-Some.ensures))

pub returns-in-None : goal.returns-in-None
returns-in-None c = sym (got-none c.args.lists.now c.args.list [] (sym c.in-None.ensures))
