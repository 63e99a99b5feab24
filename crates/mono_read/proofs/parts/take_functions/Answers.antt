use Rattle.plain_tree.specs.declared.tree.Parameter.{Parameter}
use Rattle.std.proofs.Common.{get_or, refl}
use Rattle.mono_read.proofs.Stacked.{one-taken, all-taken}
use Rattle.mono_read.proofs.parts.take_functions.Goals as goal

pub loop-i-preserved : goal.loop-i-preserved
loop-i-preserved c = λ types strings.
    let none : Parameter = record { variable = 0; ty = 0 } in
    one-taken types strings c.args.heads.now c.loop-i.i none (get_or c.args.heads.now c.loop-i.i none) _ _ _ c.loop-i.made.items c.push.new.self.items c.in_ok-function.function c.loop-i-test.true refl c.in_ok-push.ensures.items (c.in_ok-function.ensures.taken types strings)
    c.in_ok-function.ensures.variable c.in_ok-function.ensures.ty (c.loop-i.invariant types strings)

pub returns : goal.returns
returns c = λ types strings. all-taken types strings c.args.heads.now c.loop-i.i _ _ c.loop-i.made.items c.loop-i-test.false (c.loop-i.invariant types strings)
