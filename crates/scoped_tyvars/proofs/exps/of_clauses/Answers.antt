use Rattle.std.proofs.Common.{refl, ap, ◌++◌, ◌∙◌}
use Rattle.std.specs.Prelude.{flat_map}
use Rattle.scoped_tyvars.specs.Unguarded.{clause_tyvars, pat_tyvars}
use Rattle.scoped_tyvars.proofs.Listing.{both-parts, list-ends, list-next}
use Rattle.scoped_tyvars.proofs.exps.of_clauses.Goals as goal

pub loop-i-init : goal.loop-i-init
loop-i-init c = refl

pub loop-i-preserved : goal.loop-i-preserved
loop-i-preserved c =
    list-next clause_tyvars c.args.clauses.now c.loop-i.i c.index-clauses-i.result c.loop-i.found.items _ _ c.loop-i-test.true c.index-clauses-i.is c.loop-i.invariant (both-parts c.loop-i.found.items _ _ _ _ _ (c.in_ok-of_all.ensures ∙ ap (λ l. c.loop-i.found.items ++ flat_map pat_tyvars l) c.deref.ensures.value) c.in_ok-of_exp.ensures refl)

pub returns : goal.returns
returns c = list-ends clause_tyvars c.args.clauses.now c.loop-i.i c.loop-i.found.items _ c.loop-i-test.false c.loop-i.invariant
