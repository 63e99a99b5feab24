use Rattle.std.proofs.Common.{length, sym, ◌∙◌, arith}
use Rattle.std.proofs.lemmas.Bool.{eqb-true, eqb-false}
use Rattle.pattern_tests.proofs.Loops.{right-none, right-begun}
use Rattle.pattern_tests.proofs.patterns.open_right.Goals as goal

pub returns-then-is_empty : goal.returns-then-is_empty
returns-then-is_empty c = right-none c.args.work.now c.args.made.now c.args.parts.now c.args.u c.args.atom c.args.atom (eqb-true (length c.args.parts.now) 0 (sym c.is_empty.ensures ∙ c.if-is_empty.true))

pub returns : goal.returns
returns c =
    let some = eqb-false (length c.args.parts.now) 0 (sym c.is_empty.ensures ∙ c.if-is_empty.false) in
    right-begun c.args.parts.now c.index-parts-0.result c.args.u c.args.atom _ _ (omega (arith, some)) c.index-parts-0.is c.in_ok-joint.ensures c.in_ok-first.ensures
