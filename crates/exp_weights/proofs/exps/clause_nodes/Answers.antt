use Rattle.std.proofs.Common.{arith}
use Rattle.exp_weights.specs.Own.{own_of}
use Rattle.exp_weights.proofs.DecNodes.{clause-one, clause-many}
use Rattle.exp_weights.proofs.exps.clause_nodes.Goals as goal

pub returns-then-pats-eq1 : goal.returns-then-pats-eq1
returns-then-pats-eq1 c p =
    let e = clause-one p c.args.pats.now (own_of c.args.exp.now) c.if-pats-eq1.true in
    let r = c.pats_nodes.ensures in let f = c.exp_nodes.ensures in let u = c.saturating_add-inside.ensures in let q = c.saturating_add.ensures in omega (arith, e, r, f, u, q)

pub returns : goal.returns
returns c p =
    let e = clause-many p c.args.pats.now (own_of c.args.exp.now) c.if-pats-eq1.false in
    let r = c.pats_nodes.ensures in let f = c.exp_nodes.ensures in let u = c.saturating_add-inside.ensures in let q = c.saturating_add-2.ensures in omega (arith, e, r, f, u, q)
