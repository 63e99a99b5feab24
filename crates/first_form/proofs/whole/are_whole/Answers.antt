use Rattle.first_tree.specs.TreeOf.{fun_of}
use Rattle.ir_first.specs.Whole.{FunIsWhole}
use Rattle.first_known.proofs.Flags.{both-is}
use Rattle.first_form.proofs.ScopedLemmas.{all-mapped-more}
use Rattle.first_form.proofs.whole.are_whole.Goals as goal

pub loop-i-preserved : goal.loop-i-preserved
loop-i-preserved c =
    all-mapped-more FunIsWhole fun_of c.args.funs.now c.loop-i.i c.index-funs-i.result c.index-funs-i.result c.loop-i.all c.both-whole.result c.both-all.result c.loop-i-test.true c.index-funs-i.is
    c.loop-i.invariant (both-is c.both-whole.result c.is_whole.result c.has_whole.result c.both-whole.ensures c.is_whole.ensures c.has_whole.ensures) c.both-all.ensures
