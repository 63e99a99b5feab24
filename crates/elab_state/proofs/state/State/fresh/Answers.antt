use Rattle.std.proofs.Common.{refl, sym, subst, arith}
use Rattle.ty_instance.proofs.Going.{whole}
use Rattle.elab_state.specs.Steps.{Begins}
use Rattle.elab_state.proofs.Extending.{extends-by}
use Rattle.elab_state.proofs.Solving.{said-at, limit-at, more-variables, generic-less, falls-less}
use Rattle.elab_state.proofs.state.State.fresh.Goals as goal

pub returns-clause-extends : goal.returns-clause-extends
returns-clause-extends c =
    let s = c.args.self.now.solver in
    let e = c.in_ok-variable.ensures in
    λ l. extends-by l c.args.self.now _ refl refl refl refl (subst (Begins s.subst.types) (sym e.types) (whole s.subst.types))
    (λ D g h. generic-less _ _ _ _ _ _ _ _ e.types e.marked e.limited s.each_has_one _ D g h)
    (let n = more-variables _ _ _ _ _ _ _ _ e.types e.marked e.limited s.each_has_one in omega arith)
    (falls-less _ _ _ _ _ _ _ _ e.types e.marked e.limited s.each_has_one)

pub returns-clause-says : goal.returns-clause-says
returns-clause-says c =
    let s = c.args.self.now.solver in
    let e = c.in_ok-variable.ensures in
    said-at _ _ _ _ _ _ _ _ e.types e.marked e.limited s.each_has_one _ e.next

pub returns-clause-limited : goal.returns-clause-limited
returns-clause-limited c =
    let s = c.args.self.now.solver in
    let e = c.in_ok-variable.ensures in
    limit-at _ _ _ _ _ _ _ _ e.types e.marked e.limited s.each_has_one _ e.next
