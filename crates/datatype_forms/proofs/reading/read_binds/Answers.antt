use Rattle.std.proofs.Common.{◌∷◌, [], map, take, refl, sym, ap, subst, ◌∙◌}
use Rattle.std.proofs.lemmas.List.{map-append}
use Rattle.sml_tree.specs.TreeOf.{data_bind_of}
use Rattle.elab_types.proofs.Keeping.{holds_later}
use Rattle.elab_types.specs.Reading.{Holds}
use Rattle.elab_types.specs.declared.scope.TypeScope.{TypeScope}
use Rattle.elab_state.specs.States.{types_in}
use Rattle.datatype_forms.specs.Reading.{AreArgumentTypes}
use Rattle.datatype_forms.proofs.Collecting.{none_read, once_next, one_read, taken_next}
use Rattle.datatype_forms.proofs.reading.read_binds.Goals as goal

pub loop-i-init : goal.loop-i-init
loop-i-init c = record { are = none_read c.args.state.now c.args.scope.now _ (ap (map (λ ks. ks.items)) c.new-rows.ensures.items); once = refl; scope = refl }

pub read_bind-requires-clause-holds : goal.read_bind-requires-clause-holds
read_bind-requires-clause-holds c =
    subst (Holds (types_in c.loop-i.state)) (sym c.loop-i.invariant.scope)
    (holds_later (types_in c.args.state.now) (types_in c.loop-i.state) c.args.scope.now c.loop-i.invariant.are.step.grows.types c.requires.holds)

pub read_bind-requires-clause-none : goal.read_bind-requires-clause-none
read_bind-requires-clause-none c = ap (λ (s : TypeScope). s.tyvars) c.loop-i.invariant.scope ∙ c.requires.none

pub loop-i-preserved : goal.loop-i-preserved
loop-i-preserved c =
    let bind = data_bind_of c.index-binds-i.result in
    let next = taken_next data_bind_of c.args.binds.now c.loop-i.i c.index-binds-i.result c.loop-i-test.true c.index-binds-i.is in
    record {
      are = one_read c.args.state.now c.loop-i.state c.read_bind.new.state c.args.scope.now (map data_bind_of (take c.loop-i.i c.args.binds.now)) _ (map (λ ks. ks.items) c.loop-i.rows.items) _ bind
          c.in_ok-row.row.items c.requires.holds c.loop-i.invariant.are c.in_ok-row.ensures.step
          (subst (λ s. AreArgumentTypes (types_in c.loop-i.state) (types_in c.read_bind.new.state) s bind.tyvars bind.cons c.in_ok-row.row.items) c.loop-i.invariant.scope c.in_ok-row.ensures.are) next
          (ap (map (λ ks. ks.items)) c.in_ok-push.ensures.items ∙ map-append (λ ks. ks.items) c.loop-i.rows.items (c.in_ok-row.row ∷ []));
      once = once_next (map data_bind_of (take c.loop-i.i c.args.binds.now)) _ bind c.loop-i.invariant.once c.in_ok-row.ensures.once next;
      scope = c.in_ok-row.ensures.scope ∙ c.loop-i.invariant.scope;
    }
