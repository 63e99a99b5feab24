-- Bindings inside their declaration, one after the other.
use Rattle.std.specs.Prelude.{◌≡◌, ◌≤◌, ℕ, Bool, true, false, if◌then◌else◌, List, [], ◌∷◌, ◌++◌, map, length, Some, nat_eq, ⊤}
use Rattle.std.specs.List.{list_all}
use Rattle.ty_core.specs.Types.{Typ}
use Rattle.ty_core.specs.declared.scheme.Quantified.{Quantified}
use Rattle.sml_tree.specs.TreeOf.{RuleOf}
use Rattle.core_rules.specs.Choices.{Choices}
use Rattle.core_rules.specs.Objects.{Map, at}
use Rattle.core_rules.specs.Typing.{is_non_expansive}
use Rattle.ir_poly.specs.Prog.{is_value}
use Rattle.ir_poly.specs.Types.{over}
use Rattle.prog_tree.specs.TreeOf.{RuleTree, bind_of}
use Rattle.prog_tree.specs.declared.tree.Binding.{Binding}
use Rattle.prog_tree.specs.declared.tree.Rule.{Rule}
use Rattle.elab_typed.specs.Contexts.{Around, generic}
use Rattle.elab_typed.specs.Elaborates.{ExpElab, PatElab, without}
use Rattle.elab_typed.specs.Instances.{as_typed}
use Rattle.elab_types.specs.declared.scope.TypeScope.{TypeScope}
use Rattle.elab_state.specs.declared.state.State.{State}
use Rattle.elab_steps.specs.Growing.{Grows}
use Rattle.elab_steps.specs.World.{World, type_of, Comes}
use Rattle.elab_context.specs.Telling.{Tells, IsInUse}
use Rattle.elab_context.specs.declared.context.Context.{Context}
use Rattle.rec_groups.specs.of_pat_elab.Elaborated.{AreVariables, IsPat, bound_of, scope_of}
use Rattle.rec_groups.specs.of_pat_elab.declared.bound.BoundVariable.{BoundVariable}
use Rattle.rec_groups.specs.of_pat_elab.declared.bound.TypedPat.{TypedPat}
use Rattle.rec_groups.specs.of_use_elab.Elaborated.{IsExp}
use Rattle.rec_groups.specs.of_use_elab.declared.typed.TypedExp.{TypedExp}
use Rattle.general_vals.specs.of_general_worlds.Inner.{deeper}

-- what is around inside: these type variables, and these parameters in front
abbrev pub inside_of : Around → Map ℕ Typ → List Quantified → Around
inside_of A m qs = record A { tyvars = m; parameters = qs ++ A.parameters }

-- type variables that were in scope stay
abbrev pub Keeps : Map ℕ Typ → Map ℕ Typ → Type 0
Keeps old new = (a : ℕ) (t : Typ) → at nat_eq old a ≡ Some t → at nat_eq new a ≡ Some t

-- Each elaborates, inside B, from the k-th variable on: the patterns one after the other, the expressions outside them. A generalised one is of a value; the
-- pattern of another one has no parameters but those of A.
pub data EachInside (W : World) (A B : Around) (h : ℕ) : ℕ → List RuleOf → List (Binding × RuleTree) → List (List BoundVariable) → List (Choices × Choices)
    → ℕ → Type 0 where
  none_inside : {k : ℕ} → EachInside W A B h k [] [] [] [] k
  general_inside : {k j i : ℕ} {r : RuleOf} {rs : List RuleOf} {b : Binding} {x : RuleTree} {xs : List (Binding × RuleTree)} {t : Typ} {vs : List BoundVariable}
      {vss : List (List BoundVariable)} {c d : Choices} {cs : List (Choices × Choices)} → PatElab W.table B k r.pat x.pat t (bound_of W vs) c (scope_of vs) j
      → ExpElab W.table B h r.exp x.exp t d → is_non_expansive (generic A).env r.exp ≡ true → is_value x.exp ≡ true → over B.parameters (as_typed B t) ≡ true
      → b.general ≡ true → W.reading.type b.ty ≡ as_typed B t → EachInside W A B h j rs xs vss cs i
      → EachInside W A B h k (r ∷ rs) ((b, x) ∷ xs) (vs ∷ vss) ((c, d) ∷ cs) i
  plain_inside : {k j i : ℕ} {r : RuleOf} {rs : List RuleOf} {b : Binding} {x : RuleTree} {xs : List (Binding × RuleTree)} {t : Typ} {vs : List BoundVariable}
      {vss : List (List BoundVariable)} {c d : Choices} {cs : List (Choices × Choices)}
      → PatElab W.table (without B A.parameters) k r.pat x.pat t (bound_of W vs) c (scope_of vs) j
      → ExpElab W.table B h r.exp x.exp t d → list_all (λ v. over A.parameters v.1) (bound_of W vs) ≡ true → over A.parameters (as_typed B t) ≡ true
      → b.general ≡ false → W.reading.type b.ty ≡ as_typed B t → EachInside W A B h j rs xs vss cs i
      → EachInside W A B h k (r ∷ rs) ((b, x) ∷ xs) (vs ∷ vss) ((c, d) ∷ cs) i

-- the expressions from the e-th variable on, the patterns from the h-th
pub record InsideUpTo (W : World) (A B : Around) (e h : ℕ) (rs : List RuleOf) (xs : List (Binding × RuleTree)) (vss : List (List BoundVariable))
    (choices : List (Choices × Choices))
    (j : ℕ) : Type 0 where
  pub next : ℕ
  pub most : next ≤ j
  pub elab : EachInside W A B e h rs xs vss choices next

abbrev pub all_bound : List (List BoundVariable) → List BoundVariable
all_bound [] = []
all_bound (vs ∷ vss) = vs ++ all_bound vss

-- of each variable, whether its binding is generalised
abbrev pub marked_as : Bool → List BoundVariable → List Bool
marked_as b = map (λ v. b)

abbrev pub flags_of : List (Binding × RuleTree) → List (List BoundVariable) → List Bool
flags_of [] vss = []
flags_of (x ∷ xs) [] = []
flags_of (x ∷ xs) (vs ∷ vss) = marked_as x.0.general vs ++ flags_of xs vss

-- P holds of each variable with its flag
abbrev pub AllFlagged : (BoundVariable → Bool → Type 0) → List BoundVariable → List Bool → Type 0
AllFlagged P [] [] = ⊤
AllFlagged P [] (f ∷ fs) = ⊥
AllFlagged P (b ∷ bs) [] = ⊥
AllFlagged P (b ∷ bs) (f ∷ fs) = P b f × AllFlagged P bs fs

-- a variable that isn't generalised has a type of what is around
abbrev pub IsUsedAs : World → Around → Around → BoundVariable → Bool → Type 0
IsUsedAs W A B b f = IsInUse (if f then B else A) (type_of W b.ty)

-- where the variables in scope are below k
pub record ElaboratesInside (W : World) (A B : Around) (k : ℕ) (rs : List RuleOf) (xs : List (Binding × RuleTree)) (bs : List BoundVariable)
    (fs : List Bool) (j : ℕ)
    : Type 0 where
  pub groups : List (List BoundVariable)
  pub choices : List (Choices × Choices)
  pub elab : (e h : ℕ) → e ≤ k → h ≤ k → InsideUpTo W A B e h rs xs groups choices j
  pub bound : all_bound groups ≡ bs
  pub flags : flags_of xs groups ≡ fs
  pub used : AllFlagged (IsUsedAs W A B) bs fs

-- in each world in which what the state says comes true, wherever the one context tells of what is around the declaration, and the other of what is inside
pub record AreInside (S : State) (C : Context) (s : TypeScope) (rs : List RuleOf) (T : State) (bs : List BoundVariable) (fs : List Bool) (binds : List
    (Binding × Rule)) : Type 0 where
  pub grows : Grows S T
  pub have : AreVariables T bs
  pub count : length fs ≡ length bs
  pub gives : (W : World) → Comes T W → (A : Around) → Tells C W A → (m : Map ℕ Typ) (qs : List Quantified) → Keeps A.tyvars m
      → Tells (deeper C s) W (inside_of A m qs)
      → ElaboratesInside W A (inside_of A m qs) S.next rs (map (bind_of W.reading) binds) bs fs T.next

-- A pattern, in the context C, and an expression, in D, stand behind the bindings so far, in any order, and before the state V.
pub record StandBehind (N : State) (C D : Context) (r : RuleOf) (before after : List BoundVariable) (pat : TypedPat) (exp : TypedExp) (V : State) : Type 0 where
  pub pat_from : State
  pub pat_to : State
  pub exp_from : State
  pub exp_to : State
  pub first : Grows N pat_from
  pub pattern : IsPat pat_from C r.pat pat_to before after pat
  pub last : Grows pat_to V
  pub exp_first : Grows N exp_from
  pub expression : IsExp exp_from D r.exp exp_to exp
  pub exp_last : Grows exp_to V
