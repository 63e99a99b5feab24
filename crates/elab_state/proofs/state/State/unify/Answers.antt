use Rattle.std.proofs.Common.{refl, sym, subst, arith}
use Rattle.ty_instance.proofs.Going.{whole}
use Rattle.elab_state.specs.Steps.{Begins}
use Rattle.elab_state.proofs.Extending.{extends-by}
use Rattle.elab_state.proofs.Solving.{unified-before, unified-equal}
use Rattle.elab_state.proofs.state.State.unify.Goals as goal

pub returns-clause-extends : goal.returns-clause-extends
returns-clause-extends c =
    let s = c.args.self.now.solver in
    let e = c.in_ok-unify.ensures in
    λ l. extends-by l c.args.self.now _ refl refl refl refl (subst (Begins s.subst.types) (sym e.types) (whole s.subst.types))
    (λ D g h. unified-before _ _ _ _ _ _ c.args.a c.args.b e.types e.same_length s.subst.below c.unify.new.self.subst.below c.requires.a_below c.requires.b_below
    e.general e.limits e.fall _ D g h)
    (let n = e.same_length in omega arith)
    (λ v i. e.fall v)

pub returns-clause-equal : goal.returns-clause-equal
returns-clause-equal c =
    let s = c.args.self.now.solver in
    let e = c.in_ok-unify.ensures in
    λ D g h. unified-equal _ _ _ _ _ _ c.args.a c.args.b e.types e.same_length s.subst.below c.unify.new.self.subst.below c.requires.a_below c.requires.b_below
    e.general e.limits e.fall _ D g h
