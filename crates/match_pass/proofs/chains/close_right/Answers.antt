use Rattle.std.proofs.Common.{arith}
use Rattle.general_bindings.proofs.of_pattern_tests.Chains.{no-items}
use Rattle.match_pass.proofs.Rights.{right-whole, right-closed, right-never, right-end}
use Rattle.match_pass.proofs.chains.close_right.Goals as goal

pub loop-left-init : goal.loop-left-init
loop-left-init c = record { within = omega arith; made = λ start before whole h. right-whole whole c.args.joins.now h }

pub loop-left-preserved : goal.loop-left-preserved
loop-left-preserved c = record {
  within = omega (arith, c.loop-left.invariant.within);
  made = λ start before whole h.
      right-closed whole c.args.joins.now c.loop-left.left _ c.index-joins-left.result c.loop-left.openings.items _ c.in-Some.opening c.in-Some.operand _ (omega arith) c.loop-left.invariant.within
      c.index-joins-left.is c.in-Some.ensures.items (c.loop-left.invariant.made start before whole h) c.in_ok-value.ensures;
}

pub returns-in_default : goal.returns-in_default
returns-in_default c = λ start before whole h.
    right-never whole c.args.joins.now c.loop-left.left c.loop-left.openings.items (omega arith) c.loop-left.invariant.within
    (no-items c.loop-left.openings.items (omega (arith, c.loop-left.openings.ok.0, c.in_default.ensures.cases.0))) (c.loop-left.invariant.made start before whole h)

pub returns : goal.returns
returns c = λ start before whole h. right-end whole c.args.joins.now c.loop-left.left _ (omega arith) (c.loop-left.invariant.made start before whole h)
