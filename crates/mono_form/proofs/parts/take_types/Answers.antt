use Rattle.std.proofs.Common.{ℕ, Option, arith}
use Rattle.mono_form.specs.Parts.{TakesBelow}
use Rattle.mono_form.proofs.Rows.{next-turned, stops-turned, ends-turned}
use Rattle.mono_form.proofs.parts.take_types.Goals as goal

pub returns-then-not-is : goal.returns-then-not-is
returns-then-not-is c =
    stops-turned (λ (k : ℕ × Option ℕ). TakesBelow c.args.len k.1) c.args.constructors.now c.loop-i.i c.takes_type_at-is.result (omega arith) c.takes_type_at-is.ensures c.if-not-is.true

pub loop-i-preserved : goal.loop-i-preserved
loop-i-preserved c =
    next-turned (λ (k : ℕ × Option ℕ). TakesBelow c.args.len k.1) c.args.constructors.now c.loop-i.i c.takes_type_at-is.result (omega arith) c.takes_type_at-is.ensures c.if-not-is.false c.loop-i.invariant

pub returns : goal.returns
returns c = ends-turned (λ (k : ℕ × Option ℕ). TakesBelow c.args.len k.1) c.args.constructors.now c.loop-i.i (omega arith) c.loop-i.invariant
