-- Patterns joined by infix constructors.
use Rattle.std.specs.Prelude.{◌≡◌, ℕ, List, [], ◌∷◌, ◌++◌, map}
use Rattle.mlc_base.specs.declared.place.Place.{Place}
use Rattle.ty_core.specs.Types.{Typ}
use Rattle.sml_tree.specs.BareTree as bare
use Rattle.sml_tree.specs.Derived.{Operand, VidAt, left_chain}
use Rattle.sml_tree.specs.Derived as source
use Rattle.ir_poly.specs.Prog as prog
use Rattle.prog_tree.specs.TreeOf.{pat_of, pat_part_of, join_pats, left_pats}
use Rattle.prog_tree.specs.declared.tree.PatPart.{PatPart}
use Rattle.elab_context.specs.of_elab_typed.Contexts.{Around}
use Rattle.elab_context.specs.of_elab_state.declared.state.State.{State}
use Rattle.elab_context.specs.of_elab_steps.Growing.{HasType, Grows}
use Rattle.elab_context.specs.of_elab_steps.World.{World, type_of, Comes}
use Rattle.elab_context.specs.Telling.{Tells}
use Rattle.elab_context.specs.declared.context.Context.{Context}
use Rattle.pat_elab.specs.Elaborated.{AreVariables, Elaborates}
use Rattle.pat_elab.specs.declared.bound.BoundVariable.{BoundVariable}
use Rattle.pat_elab.specs.declared.parts.Joined.{Joined}
use Rattle.pat_elab.specs.declared.parts.LeftChain.{LeftChain}
use Rattle.pat_elab.specs.declared.parts.RightChain.{RightChain}

-- what g writes joins a pattern of the type l and one of the type r to one of the type t
pub record IsJoin (W : World) (A : Around) (join : Place → bare.Pat → bare.Pat → bare.Pat) (g : PatPart) (l r t : Typ) : Type 0 where
  pub joins : (place : Place) (k i j : ℕ) (a b : bare.Pat) (p q : prog.Pat) (bs cs : List BoundVariable) → Elaborates W A k a p l bs i
      → Elaborates W A i b q r cs j
      → Elaborates W A k (join place a b) (join_pats (pat_part_of W.reading g) p q) t (bs ++ cs) j

-- A constructor and a pair as they are written do so for a pattern of the type `left` and one of the type `right`, to one of the type `whole`.
pub record IsJoined (S : State) (C : Context) (join : Place → bare.Pat → bare.Pat → bare.Pat) (left right whole : ℕ) (T : State) (d : Joined) : Type 0 where
  pub grows : Grows S T
  pub next : T.next ≡ S.next
  pub right_is : HasType T right
  pub whole_is : HasType T whole
  pub gives : (W : World) → Comes T W → (A : Around) → Tells C W A → (g : PatPart) → g.head ≡ d.head → g.pair ≡ d.pair
      → IsJoin W A join g (type_of W left) (type_of W right) (type_of W whole)

-- Operands to the right of one of the type l, all of which have the type t: the last one has the type v, where one of the type h is wanted.
module _ {J : Type 0} (join : J → Place → bare.Pat → bare.Pat → bare.Pat) where
  pub data Right (W : World) (A : Around) : ℕ → Typ → Typ → List (Operand J bare.Pat) → List PatPart → Typ → Typ → List BoundVariable → ℕ → Type 0 where
    none_right : {k : ℕ} {l t : Typ} → Right W A k l t [] [] l t [] k
    one_right : {k i j : ℕ} {l t r u v h : Typ} {o : Operand J bare.Pat} {os : List (Operand J bare.Pat)} {g : PatPart} {gs : List PatPart}
        {bs cs ds : List BoundVariable}
        → IsJoin W A (join o.joint) g l r t → Elaborates W A k o.operand (pat_of W.reading g.pat) u bs i → Right W A i u r os gs v h cs j → ds ≡ bs ++ cs
        → Right W A k l t (o ∷ os) (g ∷ gs) v h ds j

-- operands of a chain, after infix identifiers
abbrev pub Operands : Type 0
Operands = List (Operand VidAt bare.Pat)

-- the first operand, and those to its right
pub record AreRight (W : World) (A : Around) (k : ℕ) (a : bare.Pat) (os : Operands) (m : RightChain) (bs : List BoundVariable) (j : ℕ) : Type 0 where
  pub type : Typ
  pub mid : ℕ
  pub front : List BoundVariable
  pub back : List BoundVariable
  pub first : Elaborates W A k a (pat_of W.reading m.first) type front mid
  pub rest : Right (λ v. source.join_pats v) W A mid type (type_of W m.whole) os m.parts.items (type_of W m.last) (type_of W m.hole) back j
  pub all : bs ≡ front ++ back

-- the operands were elaborated, and joined as far as they are there
pub record IsRight (S : State) (C : Context) (a : bare.Pat) (os : Operands) (T : State) (before after : List BoundVariable) (m : RightChain) : Type 0 where
  pub added : List BoundVariable
  pub bound : after ≡ before ++ added
  pub grows : Grows S T
  pub last_is : HasType T m.last
  pub hole_is : HasType T m.hole
  pub whole_is : HasType T m.whole
  pub have : AreVariables T added
  pub gives : (W : World) → Comes T W → (A : Around) → Tells C W A → AreRight W A S.next a os m added T.next

-- the same to the left, where all that is there is joined
pub record IsLeft (S : State) (C : Context) (place : Place) (a : bare.Pat) (os : Operands) (T : State) (before after : List BoundVariable)
    (m : LeftChain) : Type 0 where
  pub added : List BoundVariable
  pub bound : after ≡ before ++ added
  pub grows : Grows S T
  pub is : HasType T m.ty
  pub have : AreVariables T added
  pub gives : (W : World) → Comes T W → (A : Around) → Tells C W A
      → Elaborates W A S.next (left_chain (λ v. source.join_pats v) place a os)
      (left_pats (pat_of W.reading m.first) (map (pat_part_of W.reading) m.parts.items)) (type_of W m.ty) added T.next
