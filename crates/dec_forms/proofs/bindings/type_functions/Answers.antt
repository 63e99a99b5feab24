use Rattle.std.proofs.Common.{◌≡◌, ◌++◌, ◌∷◌, [], map, take, get_or, refl, sym, ap, subst, ◌∙◌}
use Rattle.sml_tree.specs.TreeOf.{type_bind_of}
use Rattle.sml_tree.specs.declared.tree.TypeBind.{TypeBind}
use Rattle.elab_types.proofs.Keeping.{holds_later}
use Rattle.elab_types.specs.Reading.{Holds}
use Rattle.elab_types.specs.declared.scope.TypeScope.{TypeScope}
use Rattle.closed_types.specs.of_elab_state.States.{types_in}
use Rattle.dec_forms.specs.Abbreviations.{AreTypeFunctions, IsTypeFunction}
use Rattle.dec_forms.proofs.Bodies.{binds-next, no_functions, one_function, same-index}
use Rattle.dec_forms.proofs.bindings.type_functions.Goals as goal

pub loop-i-init : goal.loop-i-init
loop-i-init c = record { are = no_functions c.args.state.now c.args.scope.now _ c.new-entries.ensures.items; scope = refl }

pub type_function-requires-clause-holds : goal.type_function-requires-clause-holds
type_function-requires-clause-holds c =
    subst (Holds (types_in c.loop-i.state)) (sym c.loop-i.invariant.scope)
    (holds_later (types_in c.args.state.now) (types_in c.loop-i.state) c.args.scope.now c.loop-i.invariant.are.grows.types c.requires.holds)

pub type_function-requires-clause-none : goal.type_function-requires-clause-none
type_function-requires-clause-none c = ap (λ (s : TypeScope). s.tyvars) c.loop-i.invariant.scope ∙ c.requires.none

pub loop-i-preserved : goal.loop-i-preserved
loop-i-preserved c =
    let bind = c.index-binds-i-in-loop-i.result in
    let same : get_or c.args.binds.now c.loop-i.i c.index-binds-i.result ≡ bind =
    sym c.index-binds-i.is ∙ same-index c.args.binds.now c.loop-i.i c.index-binds-i.result bind c.loop-i-test.true c.index-binds-i.is c.index-binds-i-in-loop-i.is in
    record {
      are =
          subst (λ bs. AreTypeFunctions c.args.state.now c.args.scope.now bs c.type_function.new.state c.push.new.self.items)
          (binds-next c.args.binds.now c.loop-i.i bind c.loop-i-test.true c.index-binds-i-in-loop-i.is)
          (one_function c.args.state.now c.loop-i.state c.type_function.new.state c.args.scope.now (map type_bind_of (take c.loop-i.i c.args.binds.now)) (type_bind_of bind)
          c.loop-i.entries.items c.push.new.self.items c.in_ok-entry.entry c.loop-i.invariant.are
          (subst (λ s. IsTypeFunction c.loop-i.state s (type_bind_of bind) c.type_function.new.state c.in_ok-entry.entry) c.loop-i.invariant.scope c.in_ok-entry.ensures.is)
          (c.in_ok-push.ensures.items ∙ ap (λ (z : TypeBind). c.loop-i.entries.items ++ (z.tycon, c.in_ok-entry.entry) ∷ []) same));
      scope = c.in_ok-entry.ensures.scope ∙ c.loop-i.invariant.scope;
    }
