-- Bindings that are not generalised, one after the other.
use Rattle.std.specs.Prelude.{◌≡◌, ◌≤◌, ℕ, true, false, List, [], ◌∷◌, map}
use Rattle.std.specs.List.{AllByRecursion, list_all}
use Rattle.ty_core.specs.Types.{Typ}
use Rattle.sml_tree.specs.TreeOf.{RuleOf}
use Rattle.sml_tree.specs.declared.ident.Vid.{Vid}
use Rattle.core_rules.specs.Choices.{Choices}
use Rattle.core_rules.specs.Typing.{Bound, together}
use Rattle.ir_poly.specs.Types.{over, Constructor}
use Rattle.core_elab.specs.Scopes.{Scope, empty, plus_scope}
use Rattle.prog_tree.specs.TreeOf.{RuleTree, bind_of}
use Rattle.prog_tree.specs.declared.tree.Binding.{Binding}
use Rattle.prog_tree.specs.declared.tree.Rule.{Rule}
use Rattle.elab_typed.specs.Contexts.{Around}
use Rattle.elab_typed.specs.Elaborates.{ExpElab, PatElab}
use Rattle.elab_typed.specs.Instances.{as_typed}
use Rattle.closed_types.specs.of_elab_state.declared.state.State.{State}
use Rattle.closed_types.specs.of_elab_steps.Growing.{Grows}
use Rattle.closed_types.specs.of_elab_steps.World.{World, type_of, Comes}
use Rattle.exp_forms.specs.of_elab_context.Telling.{Tells, IsInUse}
use Rattle.exp_forms.specs.of_elab_context.declared.context.Context.{Context}
use Rattle.exp_forms.specs.of_elab_context.declared.entry.Entry.{Entry}
use Rattle.exp_forms.specs.of_elab_context.declared.entry.Entry.TheVariants.{General}
use Rattle.exp_forms.specs.of_pat_elab.Elaborated.{AreVariables, bound_of, scope_of}
use Rattle.exp_forms.specs.of_pat_elab.declared.bound.BoundVariable.{BoundVariable}

-- their variables in scope, over the parameters of the list l, which the program's variables don't have
abbrev pub plain_entries : ℕ → List BoundVariable → List (Vid × Entry)
plain_entries l = map (λ b. (b.vid, General l b.ty b.number false))

-- each elaborates: the patterns one after the other, from the k-th variable on, the expressions outside; g reads types
pub data EachBind (table : List Constructor) (A : Around) (g : ℕ → Typ) (h : ℕ) : ℕ → List RuleOf → List (Binding × RuleTree) → List Bound → List (Choices × Choices) → List Scope → ℕ
    → Type 0 where
  no_bind : {k : ℕ} → EachBind table A g h k [] [] [] [] [] k
  one_bind : {k j i : ℕ} {r : RuleOf} {rs : List RuleOf} {b : Binding} {x : RuleTree} {xs : List (Binding × RuleTree)} {t : Typ} {v : Bound} {vs : List Bound} {c d : Choices}
      {cs : List (Choices × Choices)} {q : Scope} {qs : List Scope} → PatElab table A k r.pat x.pat t v c q j → ExpElab table A h r.exp x.exp t d
      → list_all (λ b. over A.parameters b.1) v ≡ true → over A.parameters (as_typed A t) ≡ true → b.general ≡ false → g b.ty ≡ as_typed A t
      → EachBind table A g h j rs xs vs cs qs i → EachBind table A g h k (r ∷ rs) ((b, x) ∷ xs) (v ∷ vs) ((c, d) ∷ cs) (q ∷ qs) i

pub record BindsUpTo (table : List Constructor) (A : Around) (g : ℕ → Typ) (h : ℕ) (rs : List RuleOf) (xs : List (Binding × RuleTree)) (vs : List Bound)
    (choices : List (Choices × Choices)) (scopes : List Scope) (j : ℕ) : Type 0 where
  pub next : ℕ
  pub most : next ≤ j
  pub elab : EachBind table A g h h rs xs vs choices scopes next

abbrev pub all_plus : List Scope → Scope
all_plus [] = empty
all_plus (q ∷ qs) = plus_scope q (all_plus qs)

-- where the variables in scope are below k
pub record ElaboratesBinds (W : World) (A : Around) (k : ℕ) (rs : List RuleOf) (xs : List (Binding × RuleTree)) (bs : List BoundVariable) (j : ℕ) : Type 0 where
  pub types : List Bound
  pub choices : List (Choices × Choices)
  pub scopes : List Scope
  pub elab : (h : ℕ) → h ≤ k → BindsUpTo W.table A W.reading.type h rs xs types choices scopes j
  pub bound : together types ≡ bound_of W bs
  pub scope : all_plus scopes ≡ scope_of bs
  pub used : AllByRecursion (λ b. IsInUse A (type_of W b.ty)) bs

pub record AreBinds (S : State) (C : Context) (rs : List RuleOf) (T : State) (bs : List BoundVariable) (binds : List (Binding × Rule)) : Type 0 where
  pub grows : Grows S T
  pub have : AreVariables T bs
  pub gives : (W : World) → Comes T W → (A : Around) → Tells C W A → ElaboratesBinds W A S.next rs (map (bind_of W.reading) binds) bs T.next
