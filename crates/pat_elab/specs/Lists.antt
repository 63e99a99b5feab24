-- Lists of patterns.
use Rattle.std.specs.Prelude.{◌≡◌, ℕ, List, [], ◌∷◌, ◌++◌}
use Rattle.mlc_base.specs.declared.place.Place.{Place}
use Rattle.sml_tree.specs.BareTree as bare
use Rattle.sml_tree.specs.declared.ident.BuiltIn.TheVariants.{Cons, Nil}
use Rattle.sml_tree.specs.Derived.{tuple_pat}
use Rattle.ir_poly.specs.Prog as prog
use Rattle.core_elab.specs.Scopes.{built_number}
use Rattle.prog_tree.specs.TreeOf.{pat_of}
use Rattle.prog_tree.specs.declared.tree.PatPart.{PatPart}
use Rattle.elab_context.specs.of_elab_typed.Contexts.{Around}
use Rattle.elab_context.specs.of_elab_state.declared.state.State.{State}
use Rattle.elab_context.specs.of_elab_steps.Growing.{HasType, Grows}
use Rattle.elab_context.specs.of_elab_steps.World.{World, type_of, Comes}
use Rattle.elab_context.specs.Telling.{Tells}
use Rattle.elab_context.specs.declared.context.Context.{Context}
use Rattle.pat_elab.specs.Elaborated.{AreVariables, Elaborates}
use Rattle.pat_elab.specs.declared.bound.BoundVariable.{BoundVariable}
use Rattle.pat_elab.specs.Chains.{IsJoin}
use Rattle.pat_elab.specs.declared.parts.Listed.{Listed}

-- a :: b
abbrev pub cons_pat : Place → bare.Pat → bare.Pat → bare.Pat
cons_pat p a b = bare.built_con_pat p Cons (tuple_pat p (a ∷ b ∷ []))

-- an element and a list are joined to a list, and nil is one
pub record AreListed (W : World) (A : Around) (l : Listed) : Type 0 where
  pub joins : (g : PatPart) → g.head ≡ l.head → g.pair ≡ l.pair → IsJoin W A cons_pat g (type_of W l.element) (type_of W l.ty) (type_of W l.ty)
  pub nil : (place : Place) (k : ℕ) → Elaborates W A k (bare.built_pat place Nil) (prog.con_pat (built_number Nil)) (type_of W l.ty) [] k

pub record IsListed (S : State) (C : Context) (T : State) (l : Listed) : Type 0 where
  pub grows : Grows S T
  pub next : T.next ≡ S.next
  pub element : HasType T l.element
  pub is : HasType T l.ty
  pub gives : (W : World) → Comes T W → (A : Around) → Tells C W A → AreListed W A l

-- elements, each joined to what is behind it
pub data Elements (W : World) (A : Around) (l : Listed) : ℕ → List bare.Pat → List PatPart → List BoundVariable → ℕ → Type 0 where
  no_elements : {k : ℕ} → Elements W A l k [] [] [] k
  an_element : {k i j : ℕ} {a : bare.Pat} {as_ : List bare.Pat} {g : PatPart} {gs : List PatPart} {bs cs ds : List BoundVariable}
      → g.head ≡ l.head → g.pair ≡ l.pair → Elaborates W A k a (pat_of W.reading g.pat) (type_of W l.element) bs i → Elements W A l i as_ gs cs j → ds ≡ bs ++ cs
      → Elements W A l k (a ∷ as_) (g ∷ gs) ds j

-- the elements were elaborated
pub record AreElements (S : State) (C : Context) (l : Listed) (as_ : List bare.Pat) (T : State) (before after : List BoundVariable)
    (gs : List PatPart) : Type 0 where
  pub added : List BoundVariable
  pub bound : after ≡ before ++ added
  pub grows : Grows S T
  pub have : AreVariables T added
  pub gives : (W : World) → Comes T W → (A : Around) → Tells C W A → Elements W A l S.next as_ gs added T.next
