use Rattle.first_tables.specs.TablesOf.{tables_of}
use Rattle.ssa_tree.specs.TreeOf.{fun_of}
use Rattle.ssa_form.specs.Scoped.{FunScoped}
use Rattle.ssa_form.proofs.ScopedLemmas.{all-mapped-more}
use Rattle.ssa_form.proofs.scoped.are_scoped.Goals as goal

pub loop-i-preserved : goal.loop-i-preserved
loop-i-preserved c =
    all-mapped-more (FunScoped (tables_of c.args.tables.now) c.args.arities.now) fun_of c.args.funs.now c.loop-i.i c.index-funs-i.result c.index-funs-i.result c.loop-i.all c.in_ok-here.here c.both-all.result
    c.loop-i-test.true c.index-funs-i.is c.loop-i.invariant c.in_ok-here.ensures c.both-all.ensures
