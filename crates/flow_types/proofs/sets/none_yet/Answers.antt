use Rattle.std.proofs.Common.{ap, ◌∙◌, arith}
use Rattle.flow_types.specs.Kinds.{empty_sets}
use Rattle.flow_types.proofs.Entered.{empty-next, longer}
use Rattle.flow_types.proofs.sets.none_yet.Goals as goal

pub loop-alloc-preserved : goal.loop-alloc-preserved
loop-alloc-preserved c = record {
  within = let h = c.loop-alloc-test.true in let e = c.len.ensures in let l = longer c.loop-alloc.sets.items c.push.new.self.items _ c.in_ok-push.ensures.items in omega (arith, h, e, l);
  empty = empty-next c.loop-alloc.sets.items c.push.new.self.items c.new.result c.in_ok-push.ensures.items c.new.ensures.items c.loop-alloc.invariant.empty;
}

pub returns : goal.returns
returns c = let h = c.loop-alloc-test.false in let e = c.len.ensures in let w = c.loop-alloc.invariant.within in c.loop-alloc.invariant.empty ∙ ap empty_sets (omega (arith, h, e, w))
