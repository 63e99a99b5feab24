use Rattle.std.proofs.Common.{suc, ap, subst, ◌∙◌}
use Rattle.pattern_tests.specs.of_match_types.Views.{Stands}
use Rattle.pattern_tests.proofs.of_match_types.Seeing.{stands-on, keeps-on}
use Rattle.general_bindings.specs.General.{over_scope, whole}
use Rattle.general_bindings.proofs.Recording.{recording-given}
use Rattle.general_bindings.proofs.bindings.record_body.Goals as goal

pub returns-clause-gives : goal.returns-clause-gives
returns-clause-gives c = λ f inner.
    let d = c.in_ok-found.ensures in
    let t = c.in_ok-ty.ensures in
    let w = c.in_ok-whole.ensures in
    let o = c.in_ok-other.ensures in
    recording-given c.in_ok-body.body c.args.pat.now c.args.u c.args.value c.in_ok-ty.ty c.in_ok-found.found.items c.deref.result.now c.deref-2.result.now f c.deref.ensures.value c.deref-2.ensures.value d.next d.keeps d.spots d.tests t.is t.next
    t.keeps w.is w.next w.keeps w.puts o.keeps o.gives c.in_ok-body.ensures c.in_ok-body-2.ensures inner

pub returns-clause-next : goal.returns-clause-next
returns-clause-next c = λ v. c.in_ok-other.ensures.next ∙ ap suc (c.in_ok-whole.ensures.next ∙ ap suc (c.in_ok-ty.ensures.next ∙ c.in_ok-found.ensures.next v))

pub returns-clause-ty : goal.returns-clause-ty
returns-clause-ty c =
    stands-on c.record_type.new.work _ c.in_ok-ty.ty (over_scope (whole c.in_ok-found.found.items)) (keeps-on _ _ _ c.in_ok-whole.ensures.keeps c.in_ok-other.ensures.keeps)
    (subst (λ l. Stands c.record_type.new.work c.in_ok-ty.ty (over_scope (whole l))) c.deref.ensures.value c.in_ok-ty.ensures.is)
