use Rattle.std.proofs.Common.{length, map, sym, ap, subst, ◌∙◌}
use Rattle.std.proofs.lemmas.List.{length-map}
use Rattle.sml_tree.specs.TreeOf.{data_bind_of, type_bind_of}
use Rattle.elab_types.specs.Reading.{Holds}
use Rattle.elab_types.specs.declared.scope.TypeScope.{TypeScope}
use Rattle.elab_types.proofs.Keeping.{holds_later}
use Rattle.elab_state.specs.States.{types_in}
use Rattle.datatype_equality.specs.Respects.{Respects}
use Rattle.datatype_forms.specs.Abbreviated.{binds_with}
use Rattle.datatype_forms.specs.Arguments.{all_arguments}
use Rattle.datatype_forms.specs.Best.{AreMarked}
use Rattle.datatype_forms.proofs.Best.{best_are, marks_counted}
use Rattle.datatype_forms.proofs.chosen.best_names.Goals as goal

pub marked_arguments-requires-clause-holds : goal.marked_arguments-requires-clause-holds
marked_arguments-requires-clause-holds c =
    subst (Holds (types_in c.check_in_use.new.state)) (sym c.in_ok-check_in_use.ensures.scope)
    (holds_later (types_in c.args.state.now) (types_in c.check_in_use.new.state) c.args.scope.now c.in_ok-check_in_use.ensures.are.read.step.grows.types c.requires.holds)

pub marked_arguments-requires-clause-none : goal.marked_arguments-requires-clause-none
marked_arguments-requires-clause-none c = ap (λ (z : TypeScope). z.tyvars) c.in_ok-check_in_use.ensures.scope ∙ c.requires.none

pub marked_names-requires : goal.marked_names-requires
marked_names-requires c =
    ap length c.deref-2.ensures.value ∙ marks_counted c.check_in_use.new.state c.marked_arguments.new.state c.check_in_use.new.scope c.args.first (map type_bind_of c.args.abbreviations.now)
    (map data_bind_of c.args.binds.now) c.in_ok-arguments.arguments _ c.in_ok-arguments.ensures.are (c.in_ok-marks.ensures.length ∙ ap length c.deref.ensures.value) ∙ length-map c.args.binds.now data_bind_of

pub returns-clause-are : goal.returns-clause-are
returns-clause-are c =
    let same = c.deref.ensures.value in
    best_are c.args.state.now c.check_in_use.new.state c.marked_arguments.new.state c.args.scope.now c.args.first (map type_bind_of c.args.abbreviations.now) (map data_bind_of c.args.binds.now)
    c.in_ok-marks.marks.items _ c.in_ok-arguments.arguments (length c.deref.result.now) c.requires.holds c.in_ok-check_in_use.ensures.are
    (subst (λ s. AreMarked c.check_in_use.new.state s c.args.first (binds_with c.args.abbreviations.now c.args.binds.now) c.marked_arguments.new.state c.in_ok-arguments.arguments)
    c.in_ok-check_in_use.ensures.scope c.in_ok-arguments.ensures.are) (ap length same) c.in_ok-marks.ensures.length
    (subst (λ kss. Respects c.args.first (types_in c.marked_arguments.new.state) (all_arguments 0 (map (λ ks. ks.items) kss)) c.in_ok-marks.marks.items) same c.in_ok-marks.ensures.respects)
    (λ rs l r. c.in_ok-marks.ensures.greatest rs l
    (subst (λ kss. Respects c.args.first (types_in c.marked_arguments.new.state) (all_arguments 0 (map (λ ks. ks.items) kss)) rs) (sym same) r))
    (c.in_ok-names.ensures ∙ ap (λ qs. Rattle.core_rules.specs.Elaborated.names_of c.args.first qs (map data_bind_of c.args.binds.now)) c.deref-2.ensures.value)

pub returns-clause-scope : goal.returns-clause-scope
returns-clause-scope c = c.in_ok-arguments.ensures.scope ∙ c.in_ok-check_in_use.ensures.scope
