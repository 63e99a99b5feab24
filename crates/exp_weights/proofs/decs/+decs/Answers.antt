use Rattle.std.proofs.Common.{rules, sum_by, sym, ap, ◌∙◌, arith}
use Rattle.std.proofs.lemmas.List.{take_all}
use Rattle.exp_weights.specs.Nodes.{capped}
use Rattle.exp_weights.specs.Sums.{dec_nodes}
use Rattle.exp_weights.proofs.DecNodes.{outer-sum, local-nodes, declarations-nodes}
use Rattle.exp_weights.proofs.decs.+decs.Goals as goal

pub decs_nodes-returns : goal.decs_nodes-returns
decs_nodes-returns t c = let e = outer-sum c.args.decs.now in
    c.loop-i.invariant ∙ ap (λ ds. capped (sum_by dec_nodes ds)) (take_all c.loop-i.i c.args.decs.now (search rules)) ∙ ap capped (sym e)

pub dec_nodes-returns-in-Local : goal.dec_nodes-returns-in-Local
dec_nodes-returns-in-Local t c =
    rw (c.in-Local.is)
    (let e = local-nodes c.in-Local.field-0 c.in-Local.inner c.in-Local.outer in let q = c.saturating_add-in-Local.ensures in
    let u = c.saturating_add.ensures in
    let f = rw c.deref.ensures.value at c.decs_nodes.ensures in
    let r = rw c.deref-in-Local.ensures.value at c.decs_nodes-in-Local.ensures in omega (arith, e, q, u, f, r))

pub dec_nodes-returns-in-Declarations : goal.dec_nodes-returns-in-Declarations
dec_nodes-returns-in-Declarations t c =
    rw (c.in-Declarations.is)
    (let e = declarations-nodes c.in-Declarations.field-0 c.in-Declarations.inside in let q = c.saturating_add-in-Declarations.ensures in
    let r = rw c.deref-in-Declarations.ensures.value at c.decs_nodes-in-Declarations.ensures in omega (arith, e, q, r))
