use Rattle.std.proofs.Common.{refl, ap, ◌++◌, ◌∙◌}
use Rattle.std.specs.Prelude.{flat_map}
use Rattle.scoped_tyvars.specs.Unguarded.{clause_tyvars, function_tyvars}
use Rattle.scoped_tyvars.proofs.Listing.{list-ends, list-next}
use Rattle.scoped_tyvars.proofs.exps.of_functions.Goals as goal

pub loop-i-init : goal.loop-i-init
loop-i-init c = refl

pub loop-i-preserved : goal.loop-i-preserved
loop-i-preserved c =
    list-next function_tyvars c.args.functions.now c.loop-i.i c.index-functions-i.result c.loop-i.found.items _ _ c.loop-i-test.true c.index-functions-i.is c.loop-i.invariant (c.in_ok-of_clauses.ensures ∙ ap (λ l. c.loop-i.found.items ++ flat_map clause_tyvars l) c.deref.ensures.value)

pub returns : goal.returns
returns c = list-ends function_tyvars c.args.functions.now c.loop-i.i c.loop-i.found.items _ c.loop-i-test.false c.loop-i.invariant
