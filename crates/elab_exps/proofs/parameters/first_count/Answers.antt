use Rattle.std.proofs.Common.{length, sym, ap, ◌∙◌}
use Rattle.elab_exps.proofs.Taking.{no-clauses, some-clauses}
use Rattle.elab_exps.proofs.parameters.first_count.Goals as goal

pub returns-then-is_empty : goal.returns-then-is_empty
returns-then-is_empty c = no-clauses c.args.clauses.now (sym c.is_empty.ensures ∙ c.if-is_empty.true)

pub returns : goal.returns
returns c = ap length c.deref-pats.ensures.value ∙ some-clauses c.args.clauses.now c.index-clauses-0.result (sym c.is_empty.ensures ∙ c.if-is_empty.false)
