use Rattle.std.proofs.Common.{◌-◌, get_or, refl}
use Rattle.restrictions.proofs.Noting.{onto-first, onto-last, onto-next, read-last}
use Rattle.restrictions.proofs.once.note_all.Goals as goal

pub loop-i-init : goal.loop-i-init
loop-i-init c = onto-first c.args.keys.now _ c.args.noted.now refl

pub loop-i-preserved : goal.loop-i-preserved
loop-i-preserved c =
    onto-next c.args.keys.now c.loop-i.i (get_or c.args.keys.now (c.loop-i.i - 1) 0) c.args.noted.now c.loop-i.noted c.bind.new.self c.loop-i.invariant c.loop-i-test.true
    (read-last c.args.keys.now c.loop-i.i _ _ c.loop-i.invariant.most c.loop-i-test.true) c.in_ok-bind.ensures.bound

pub returns : goal.returns
returns c = onto-last c.args.keys.now c.loop-i.i c.args.noted.now c.loop-i.noted c.loop-i.invariant c.loop-i-test.false
