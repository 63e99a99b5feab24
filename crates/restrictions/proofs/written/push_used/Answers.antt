use Rattle.std.proofs.Common.{refl}
use Rattle.sml_tree.specs.TreeOf.{type_bind_of}
use Rattle.restrictions.specs.Written.{used_of}
use Rattle.restrictions.proofs.Lists.{pushed-last, pushed-next}
use Rattle.restrictions.proofs.written.push_used.Goals as goal

pub loop-i-init : goal.loop-i-init
loop-i-init c = refl

pub loop-i-preserved : goal.loop-i-preserved
loop-i-preserved c =
    pushed-next (λ b. used_of (type_bind_of b)) (λ u. u.items) c.args.binds.now c.loop-i.i c.index-binds-i.result c.loop-i.used.items _ c.in_ok-one.one _ c.loop-i-test.true c.index-binds-i.is
    c.loop-i.invariant c.in_ok-push.ensures.items c.in_ok-one.ensures

pub returns : goal.returns
returns c = pushed-last (λ b. used_of (type_bind_of b)) (λ u. u.items) c.args.binds.now c.loop-i.i c.loop-i.used.items _ c.loop-i-test.false c.loop-i.invariant
