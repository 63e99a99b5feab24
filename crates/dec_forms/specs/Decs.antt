-- What the elaborator says of declarations: in every world in which what the state says afterwards comes true, they elaborate to the program's declarations, and
-- the context after them tells of what is around what follows.
use Rattle.std.specs.Prelude.{◌≡◌, ◌≤◌, ℕ, List, [], ◌∷◌, map}
use Rattle.sml_tree.specs.BareTree as bare
use Rattle.core_rules.specs.Choices.{Choices}
use Rattle.ir_poly.specs.Prog as prog
use Rattle.ir_poly.specs.TestsChecked.{Knowns}
use Rattle.ir_poly.specs.Types.{Constructor}
use Rattle.core_elab.specs.Resolves.{joined}
use Rattle.core_elab.specs.Scopes.{Scope}
use Rattle.prog_tree.specs.TreeOf.{dec_of, decs_of}
use Rattle.prog_tree.specs.declared.tree.Dec.{Dec}
use Rattle.elab_typed.specs.Contexts.{Around, KeptEnv, after}
use Rattle.elab_typed.specs.Elaborates.{DecElab}
use Rattle.closed_types.specs.of_elab_state.declared.state.State.{State}
use Rattle.closed_types.specs.of_elab_steps.Growing.{Grows}
use Rattle.closed_types.specs.of_elab_steps.World.{World, Comes}
use Rattle.exp_forms.specs.of_elab_context.Telling.{Tells}
use Rattle.exp_forms.specs.of_elab_context.declared.context.Context.{Context}

-- a declaration elaborates, and the next variable is at most the j-th
pub record DecUpTo (table : List Constructor) (A : Around) (h : ℕ) (d : bare.Dec) (x : prog.Decs) (made : ℕ) (number : ℕ → ℕ) (env : KeptEnv) (scope : Scope) (known : Knowns)
    (choices : Choices) (j : ℕ) : Type 0 where
  pub next : ℕ
  pub most : next ≤ j
  pub elab : DecElab table A h d x made number env scope known choices next

-- where the variables in scope are below k
pub record ElaboratesDec (W : World) (A : Around) (k : ℕ) (d : bare.Dec) (x : prog.Decs) (D : Context) (j : ℕ) : Type 0 where
  pub made : ℕ
  pub number : ℕ → ℕ
  pub env : KeptEnv
  pub scope : Scope
  pub known : Knowns
  pub choices : Choices
  pub elab : (h : ℕ) → h ≤ k → DecUpTo W.table A h d x made number env scope known choices j
  -- what the context tells then
  pub tells : Tells D W (after A made number env scope known)

pub record IsDec (S : State) (C : Context) (d : bare.Dec) (T : State) (D : Context) (decs : List Dec) : Type 0 where
  pub grows : Grows S T
  pub gives : (W : World) → Comes T W → (A : Around) → Tells C W A → ElaboratesDec W A S.next d (decs_of (map (dec_of W.reading) decs)) D T.next

-- one after the other, with what is around the next
pub data EachDec (table : List Constructor) : Around → ℕ → List bare.Dec → List prog.Decs → List Choices → Around → ℕ → Type 0 where
  no_dec : {A : Around} {k : ℕ} → EachDec table A k [] [] [] A k
  one_dec : {A B : Around} {k j i : ℕ} {d : bare.Dec} {ds : List bare.Dec} {x : prog.Decs} {xs : List prog.Decs} {n : ℕ} {number : ℕ → ℕ} {e : KeptEnv} {r : Scope} {G : Knowns} {c : Choices}
      {cs : List Choices} → DecElab table A k d x n number e r G c j → EachDec table (after A n number e r G) j ds xs cs B i → EachDec table A k (d ∷ ds) (x ∷ xs) (c ∷ cs) B i

pub record EachUpTo (table : List Constructor) (A : Around) (h : ℕ) (ds : List bare.Dec) (xs : List prog.Decs) (choices : List Choices) (B : Around) (j : ℕ) : Type 0 where
  pub next : ℕ
  pub most : next ≤ j
  pub elab : EachDec table A h ds xs choices B next

abbrev pub all_joined : List prog.Decs → prog.Decs
all_joined [] = prog.no_decs
all_joined (x ∷ xs) = joined x (all_joined xs)

pub record ElaboratesDecs (W : World) (A : Around) (k : ℕ) (ds : List bare.Dec) (x : prog.Decs) (D : Context) (j : ℕ) : Type 0 where
  pub parts : List prog.Decs
  pub whole : all_joined parts ≡ x
  pub around : Around
  pub choices : List Choices
  pub elab : (h : ℕ) → h ≤ k → EachUpTo W.table A h ds parts choices around j
  pub tells : Tells D W around

pub record IsDecs (S : State) (C : Context) (ds : List bare.Dec) (T : State) (D : Context) (decs : List Dec) : Type 0 where
  pub grows : Grows S T
  pub gives : (W : World) → Comes T W → (A : Around) → Tells C W A → ElaboratesDecs W A S.next ds (decs_of (map (dec_of W.reading) decs)) D T.next
