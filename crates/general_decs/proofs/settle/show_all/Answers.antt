use Rattle.std.proofs.Common.{◌∙◌, refl, arith}
use Rattle.elab_steps.proofs.Growing.{grows_same, grows_on}
use Rattle.general_decs.proofs.Showing.{flag-at, keeps-on, keeps-same, made-there, shown-ends, shown-next, shown-none}
use Rattle.general_decs.proofs.settle.show_all.Goals as goal

pub loop-i-init : goal.loop-i-init
loop-i-init c = record {
  grows = grows_same c.args.state.now;
  keeps = keeps-same c.args.state.now;
  next = refl;
  tidy = λ m t. t;
  shown = λ m t. shown-none c.args.state.now m c.args.list c.args.some _ c.new-values.ensures.items;
}

pub show-requires : goal.show-requires
show-requires c = made-there c.args.state.now c.loop-i.state c.args.bound.now c.loop-i.i c.index-bound-i.result c.requires.made c.loop-i.invariant.keeps c.loop-i-test.true c.index-bound-i.is

pub loop-i-preserved : goal.loop-i-preserved
loop-i-preserved c = let e = c.in_ok-value.ensures in record {
  grows = grows_on c.args.state.now c.loop-i.state c.show.new.state c.loop-i.invariant.grows e.grows;
  keeps = keeps-on c.args.state.now c.loop-i.state c.show.new.state c.loop-i.invariant.keeps e.keeps;
  next = e.next ∙ c.loop-i.invariant.next;
  tidy = λ m t. e.tidy m (c.loop-i.invariant.tidy m t);
  shown = λ m t.
      shown-next c.args.state.now c.loop-i.state c.show.new.state m c.args.list c.args.some c.args.bound.now c.args.flags.now c.loop-i.values.items _ c.loop-i.i c.index-bound-i.result
      _ c.in_ok-value.value c.loop-i-test.true (let a = c.requires.count in let b = c.loop-i-test.true in omega (arith, a, b)) c.index-bound-i.is (flag-at c.args.flags.now c.loop-i.i _ (let a = c.requires.count in let b = c.loop-i-test.true in omega (arith, a, b)))
      c.loop-i.invariant.grows c.loop-i.invariant.keeps e.grows (c.loop-i.invariant.shown m t) (e.shown m (c.loop-i.invariant.tidy m t)) c.in_ok-push.ensures.items;
}

pub returns-clause-shown : goal.returns-clause-shown
returns-clause-shown c m t =
    shown-ends c.args.state.now c.loop-i.state m c.args.list c.args.some c.args.bound.now c.args.flags.now c.loop-i.values.items c.loop-i.i c.loop-i-test.false c.requires.count
    (c.loop-i.invariant.shown m t)
