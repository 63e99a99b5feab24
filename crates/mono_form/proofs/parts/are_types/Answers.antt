use Rattle.std.proofs.Common.{◌<◌, arith}
use Rattle.mono_form.proofs.Rows.{next, stops, ends, read-number}
use Rattle.mono_form.proofs.parts.are_types.Goals as goal

pub returns-then-not-is : goal.returns-then-not-is
returns-then-not-is c =
    stops (λ p. p < c.args.len) c.args.numbers.now c.loop-i.i c.is_type-is.result c.loop-i-test.true (read-number c.args.len c.args.numbers.now c.loop-i.i _ _ c.is_type-is.ensures c.loop-i-test.true) c.if-not-is.true

pub loop-i-preserved : goal.loop-i-preserved
loop-i-preserved c =
    next (λ p. p < c.args.len) c.args.numbers.now c.loop-i.i c.is_type-is.result c.loop-i-test.true (read-number c.args.len c.args.numbers.now c.loop-i.i _ _ c.is_type-is.ensures c.loop-i-test.true) c.if-not-is.false
    c.loop-i.invariant

pub returns : goal.returns
returns c = ends (λ p. p < c.args.len) c.args.numbers.now c.loop-i.i (omega arith) c.loop-i.invariant
