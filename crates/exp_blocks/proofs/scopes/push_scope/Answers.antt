use Rattle.exp_blocks.proofs.Binding.{scope-none, scope-next}
use Rattle.exp_blocks.proofs.scopes.push_scope.Goals as goal

pub loop-i-init : goal.loop-i-init
loop-i-init c = scope-none c.args.scope.now

pub loop-i-preserved : goal.loop-i-preserved
loop-i-preserved c =
    let e = c.in_ok-push.ensures in
    scope-next c.args.scope.now c.loop-i.scope c.push.new.self c.args.all.now c.loop-i.i _ c.in_ok-push.field-0 c.loop-i-test.true e.new e.pushed e.kept c.loop-i.invariant
