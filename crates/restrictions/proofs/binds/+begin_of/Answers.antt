use Rattle.std.proofs.Common.{ap, ◌∙◌, arith}
use Rattle.sml_tree.specs.TreeOf.{ty_of}
use Rattle.sml_tree.specs.declared.tree.Ty.{Ty}
use Rattle.core_rules.specs.Restrictions.{ty_place}
use Rattle.restrictions.proofs.Types.{begins-Arrow, begins-Arrow-alone}
use Rattle.restrictions.proofs.binds.+begin_of.Goals as goal

pub returns-then-len-eq0 : goal.returns-then-len-eq0
returns-then-len-eq0 t c =
    let n = c.in-Arrow.parts.ok.0 in
    let m = c.len.ensures in
    let z = c.if-len-eq0.true in
    c.begin_of.ensures ∙ ap (λ (x : Ty). ty_place (ty_of x)) c.deref.ensures
    ∙ begins-Arrow-alone c.args.ty.now c.in-Arrow.place c.in-Arrow.first c.in-Arrow.parts c.in-Arrow.is (omega (arith, n, m, z))

pub returns-else-len-eq0 : goal.returns-else-len-eq0
returns-else-len-eq0 t c =
    let n = c.in-Arrow.parts.ok.0 in
    let m = c.len.ensures in
    let z = c.if-len-eq0.false in
    begins-Arrow c.args.ty.now c.in-Arrow.place c.in-Arrow.first c.in-Arrow.parts c.in-Arrow.is (omega (arith, n, m, z))
