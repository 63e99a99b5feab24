use Rattle.std.proofs.Common.{map, subst, arith}
use Rattle.std.proofs.lemmas.List.{take_all}
use Rattle.ssa_tree.specs.TreeOf.{fun_of}
use Rattle.ssa_tree.specs.Exceptions.{funs_make}
use Rattle.emit_known.specs.Found.{Adds}
use Rattle.emit_known.proofs.Finding.{found-all, funs-next}
use Rattle.emit_known.proofs.exceptions.exceptions_of.Goals as goal

pub loop-i-preserved : goal.loop-i-preserved
loop-i-preserved c =
    funs-next c.args.funs.now c.loop-i.i c.index-funs-i.result c.loop-i-test.true c.args.tables.now.initial.items c.loop-i.found.items c.add_body.new.found.items fun_of c.loop-i.invariant
    c.in_ok-add_body.ensures

pub returns : goal.returns
returns c =
    found-all c.args.tables.now.initial.items (funs_make (map fun_of c.args.funs.now)) c.loop-i.found.items
    (subst (λ l. Adds c.args.tables.now.initial.items (funs_make (map fun_of l)) c.loop-i.found.items) (take_all c.loop-i.i c.args.funs.now (omega arith)) c.loop-i.invariant)
