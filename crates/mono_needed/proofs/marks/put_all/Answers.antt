use Rattle.std.proofs.Common.{add-one, ◌∙◌, arith}
use Rattle.mono_needed.proofs.Marking.{added-step, added-whole}
use Rattle.mono_needed.proofs.marks.put_all.Goals as goal

pub loop-i-preserved : goal.loop-i-preserved
loop-i-preserved c = rw add-one (record {
  marked = c.in_ok-put.ensures.marked;
  put = added-step c.args.needed.now.items c.args.numbers.now c.loop-i.i _ c.loop-i.needed.items _ c.loop-i-test.true c.loop-i.invariant.put c.in_ok-put.ensures.put;
})

pub returns-clause-added : goal.returns-clause-added
returns-clause-added c = c.loop-i.invariant.put ∙ added-whole c.args.needed.now.items c.args.numbers.now c.loop-i.i (omega arith)
