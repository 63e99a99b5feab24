-- Functions that are declared together, each inside the group.
use Rattle.std.specs.Prelude.{◌≡◌, ◌≤◌, ℕ, List, [], ◌∷◌, map, reverse, ⊤, Vec}
use Rattle.std.specs.Global.{Global}
use Rattle.mlc_base.specs.declared.place.Place.{Place}
use Rattle.ty_core.specs.Types.{Typ}
use Rattle.ty_basis.specs.Types.{function_type}
use Rattle.sml_tree.specs.BareTree as bare
use Rattle.sml_tree.specs.TreeOf.{RuleOf}
use Rattle.core_rules.specs.Choices.{Choices}
use Rattle.ir_poly.specs.Prog as prog
use Rattle.prog_tree.specs.TreeOf.{fun_of}
use Rattle.prog_tree.specs.declared.tree.Function.{Function}
use Rattle.elab_typed.specs.Contexts.{Around}
use Rattle.elab_typed.specs.Elaborates.{FunElab}
use Rattle.elab_typed.specs.Numbers.{type_as}
use Rattle.elab_state.specs.declared.state.State.{State}
use Rattle.elab_steps.specs.Growing.{Always, Grows}
use Rattle.elab_steps.specs.World.{World, Comes, type_of}
use Rattle.elab_context.specs.Telling.{IsInUse, Tells}
use Rattle.elab_context.specs.declared.context.Context.{Context}
use Rattle.rec_groups.specs.Heads.{IsHeadIn, numbers_of}
use Rattle.rec_groups.specs.declared.head.Head.{Head}

-- a binding of a `fn`, and the program's function, at the variables and the type of its head
pub record IsWritten (E : Context) (T : State) (r : RuleOf) (f : Vec ℕ Global × ℕ × Function) (h : Head) : Type 0 where
  pub at : Place
  pub rules : bare.Rules
  pub is : r.exp ≡ bare.fn at rules
  pub numbers : f.0.items ≡ numbers_of (reverse h.variables.items)
  pub type : Always T (λ W. W.reading.type f.1 ≡ type_as (W.naming E.naming) (type_of W h.ty))

abbrev pub AreWritten : Context → State → List RuleOf → List (Vec ℕ Global × ℕ × Function) → List Head → Type 0
AreWritten E T [] [] [] = ⊤
AreWritten E T [] [] (h ∷ hs) = ⊥
AreWritten E T [] (f ∷ fs) hs = ⊥
AreWritten E T (r ∷ rs) [] hs = ⊥
AreWritten E T (r ∷ rs) (f ∷ fs) [] = ⊥
AreWritten E T (r ∷ rs) (f ∷ fs) (h ∷ hs) = IsWritten E T r f h × AreWritten E T rs fs hs

-- each elaborates, from the k-th variable on
pub data EachFunction (W : World) (A : Around) (k : ℕ) : List RuleOf → List (Vec ℕ Global × ℕ × prog.Fun) → List Head → List Choices → Type 0 where
  no_function : EachFunction W A k [] [] [] []
  one_function : {r : RuleOf} {rs : List RuleOf} {q : Place} {rules : bare.Rules} {f : Vec ℕ Global × ℕ × prog.Fun}
      {fs : List (Vec ℕ Global × ℕ × prog.Fun)} {h : Head} {hs : List Head} {t u : Typ} {c : Choices} {cs : List Choices}
      → r.exp ≡ bare.fn q rules → IsHeadIn A r.pat (type_of W h.ty)
      → type_of W h.ty ≡ function_type t u → IsInUse A t → IsInUse A u → FunElab W.table A k rules f.2 t u c → EachFunction W A k rs fs hs cs
      → EachFunction W A k (r ∷ rs) (f ∷ fs) (h ∷ hs) (c ∷ cs)

-- where the variables in scope are below k
pub record ElaborateFunctions (W : World) (A : Around) (k : ℕ) (rs : List RuleOf) (fs : List (Vec ℕ Global × ℕ × prog.Fun)) (hs : List Head) : Type 0 where
  pub choices : List Choices
  pub elab : (j : ℕ) → j ≤ k → EachFunction W A j rs fs hs choices

-- the context E has the group in scope
pub record AreFunctions (S : State) (E : Context) (rs : List RuleOf) (T : State) (fs : List (Vec ℕ Global × ℕ × Function)) (hs : List Head) : Type 0 where
  pub grows : Grows S T
  pub written : AreWritten E T rs fs hs
  pub gives : (W : World) → Comes T W → (A : Around) → Tells E W A → ElaborateFunctions W A S.next rs (map (fun_of W.reading) fs) hs
