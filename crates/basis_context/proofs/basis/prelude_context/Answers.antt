use Rattle.std.proofs.Common.{ℕ, List, refl, sym, ap, subst, ◌∙◌}
use Rattle.elab_state.specs.States.{types_in}
use Rattle.elab_steps.specs.Tidy.{IsTidy}
use Rattle.basis_context.specs.Basis.{type_entries, type_list}
use Rattle.basis_context.proofs.Being.{bases_are, bodies-count, hidden-count, initial_is, integers-count, prelude_is, values-count}
use Rattle.basis_context.proofs.Whole.{tells_initial, tells_prelude}
use Rattle.basis_context.proofs.basis.prelude_context.Goals as goal

pub types_of-requires : goal.types_of-requires
types_of-requires c = bodies-count (types_in c.basis_of.new.state) c.in_ok-basis.basis c.deref.result.now c.in_ok-basis.ensures.has c.deref.ensures.value

pub all_schemes-requires-clause-values : goal.all_schemes-requires-clause-values
all_schemes-requires-clause-values c = values-count (types_in c.basis_of.new.state) c.in_ok-basis.basis c.in_ok-basis.ensures.has

pub all_schemes-requires-clause-integers : goal.all_schemes-requires-clause-integers
all_schemes-requires-clause-integers c = integers-count (types_in c.basis_of.new.state) c.in_ok-basis.basis c.in_ok-basis.ensures.has

pub all_schemes-requires-clause-hidden : goal.all_schemes-requires-clause-hidden
all_schemes-requires-clause-hidden c = hidden-count (types_in c.basis_of.new.state) c.in_ok-basis.basis c.in_ok-basis.ensures.has

pub returns-clause-is : goal.returns-clause-is
returns-clause-is c =
    prelude_is c.basis_of.new.state _
    (bases_are (types_in c.basis_of.new.state) _ c.in_ok-basis.basis c.in_ok-basis.ensures.has
    (record { named = c.in_ok-values.ensures.named; fresh = c.in_ok-values.ensures.fresh; equals = c.in_ok-values.ensures.equals }) c.in_ok-structures.ensures c.in_ok-members.ensures c.in_ok-contents.ensures
    c.in_ok-types.ensures.tyvars (c.in_ok-types.ensures.types ∙ ap (λ (l : List ℕ). type_entries type_list l) c.deref.ensures.value) c.in_ok-schemes.ensures.marks c.in_ok-schemes.ensures.constructors refl refl refl c.new.ensures)
    (c.in_ok-basis.ensures.grows.level ∙ c.requires.level)
    (subst (IsTidy c.basis_of.new.state) (c.in_ok-basis.ensures.grows.level ∙ c.requires.level)
    (c.in_ok-basis.ensures.grows.tidy (subst (IsTidy c.args.state.now) (sym c.requires.level) c.requires.tidy)))

pub returns-clause-without_prim : goal.returns-clause-without_prim
returns-clause-without_prim c =
    initial_is c.basis_of.new.state _
    (bases_are (types_in c.basis_of.new.state) _ c.in_ok-basis.basis c.in_ok-basis.ensures.has
    (record { named = c.in_ok-values.ensures.named; fresh = c.in_ok-values.ensures.fresh; equals = c.in_ok-values.ensures.equals }) c.in_ok-structures.ensures c.in_ok-members.ensures c.in_ok-contents.ensures
    c.in_ok-types.ensures.tyvars (c.in_ok-types.ensures.types ∙ ap (λ (l : List ℕ). type_entries type_list l) c.deref.ensures.value) c.in_ok-schemes.ensures.marks c.in_ok-schemes.ensures.constructors refl refl refl c.new.ensures)
    (c.in_ok-basis.ensures.grows.level ∙ c.requires.level)
    (subst (IsTidy c.basis_of.new.state) (c.in_ok-basis.ensures.grows.level ∙ c.requires.level)
    (c.in_ok-basis.ensures.grows.tidy (subst (IsTidy c.args.state.now) (sym c.requires.level) c.requires.tidy)))

pub returns-clause-tells : goal.returns-clause-tells
returns-clause-tells c W w h p =
    tells_prelude c.basis_of.new.state _ W w
    (bases_are (types_in c.basis_of.new.state) _ c.in_ok-basis.basis c.in_ok-basis.ensures.has
    (record { named = c.in_ok-values.ensures.named; fresh = c.in_ok-values.ensures.fresh; equals = c.in_ok-values.ensures.equals }) c.in_ok-structures.ensures c.in_ok-members.ensures c.in_ok-contents.ensures
    c.in_ok-types.ensures.tyvars (c.in_ok-types.ensures.types ∙ ap (λ (l : List ℕ). type_entries type_list l) c.deref.ensures.value) c.in_ok-schemes.ensures.marks c.in_ok-schemes.ensures.constructors refl refl refl c.new.ensures).prelude h p

pub returns-clause-tells_without : goal.returns-clause-tells_without
returns-clause-tells_without c W w h p =
    tells_initial c.basis_of.new.state _ W w
    (bases_are (types_in c.basis_of.new.state) _ c.in_ok-basis.basis c.in_ok-basis.ensures.has
    (record { named = c.in_ok-values.ensures.named; fresh = c.in_ok-values.ensures.fresh; equals = c.in_ok-values.ensures.equals }) c.in_ok-structures.ensures c.in_ok-members.ensures c.in_ok-contents.ensures
    c.in_ok-types.ensures.tyvars (c.in_ok-types.ensures.types ∙ ap (λ (l : List ℕ). type_entries type_list l) c.deref.ensures.value) c.in_ok-schemes.ensures.marks c.in_ok-schemes.ensures.constructors refl refl refl c.new.ensures).initial h p
