use Rattle.std.proofs.Common.{sym, ap, ◌∙◌, arith}
use Rattle.final_types.proofs.Bounding.{done-small}
use Rattle.final_types.proofs.Viewing.{done-node}
use Rattle.final_types.proofs.node.plain_node.Goals as goal

pub returns-then-limit_of : goal.returns-then-limit_of
returns-then-limit_of c = λ k p e.
    let d = ap (λ l. l.level) (sym c.limit_of.ensures) ∙ c.if-limit_of.true in
    done-node c.args.solver.now c.args.v k p (done-small c.args.solver.now.limits.items c.args.v (omega (arith, c.args.solver.now.limits.ok.0)) d) e d
