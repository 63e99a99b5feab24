-- Expressions joined by infix identifiers.
use Rattle.std.specs.Prelude.{◌≤◌, ℕ, List, [], ◌∷◌, map}
use Rattle.mlc_base.specs.declared.place.Place.{Place}
use Rattle.ty_core.specs.Types.{Typ}
use Rattle.sml_tree.specs.BareTree as bare
use Rattle.sml_tree.specs.Derived.{Operand, left_chain}
use Rattle.sml_tree.specs.Derived as source
use Rattle.sml_tree.specs.declared.tree.Joint.{Joint}
use Rattle.ir_poly.specs.Prog as prog
use Rattle.prog_tree.specs.TreeOf.{join, join_of, left_joins, tree_of}
use Rattle.prog_tree.specs.declared.tree.Exp.{Exp}
use Rattle.prog_tree.specs.declared.tree.Join.{Join}
use Rattle.elab_typed.specs.Contexts.{Around}
use Rattle.pat_elab.specs.of_elab_state.declared.state.State.{State}
use Rattle.pat_elab.specs.of_elab_steps.Growing.{HasType, Grows}
use Rattle.pat_elab.specs.of_elab_steps.World.{World, type_of, Comes}
use Rattle.pat_elab.specs.of_elab_context.Telling.{Tells}
use Rattle.pat_elab.specs.of_elab_context.declared.context.Context.{Context}
use Rattle.use_elab.specs.Elaborated.{ElaboratesExp}
use Rattle.exp_forms.specs.declared.parts.Joined.{Joined}
use Rattle.exp_forms.specs.declared.parts.LeftChain.{LeftChain}
use Rattle.exp_forms.specs.declared.parts.RightChain.{RightChain}

-- an operator as it is written joins an expression of the type l and one of the type r to one of the type t, where the variables in scope are below k
pub record IsJoin (W : World) (A : Around) (k : ℕ) (joined : bare.Exp → bare.Exp → bare.Exp) (g : Join) (o : Exp) (l r t : Typ) : Type 0 where
  pub joins : (j : ℕ) → j ≤ k → (a b : bare.Exp) (x y : prog.Exp) → ElaboratesExp W A j a x l → ElaboratesExp W A j b y r
      → ElaboratesExp W A j (joined a b) (join W.reading.type g (tree_of W.reading o) x y) t

-- it does so for an expression of the type `left` and one of the type `right`, to one of the type `whole`
pub record IsJoined (S : State) (C : Context) (joined : bare.Exp → bare.Exp → bare.Exp) (left right whole : ℕ) (T : State) (d : Joined) : Type 0 where
  pub grows : Grows S T
  pub right_is : HasType T right
  pub whole_is : HasType T whole
  pub gives : (W : World) → Comes T W → (A : Around) → Tells C W A
      → IsJoin W A S.next joined d.join d.operator (type_of W left) (type_of W right) (type_of W whole)

-- operands of a chain, after what joins them
abbrev pub Operands : Type 0
Operands = List (Operand Joint bare.Exp)

-- Operands to the right of one of the type l that begins at a place, all of which have the type t: the last one begins at the place q and has the type v, where
-- one of the type h is wanted.
pub data Right (W : World) (A : Around) (k : ℕ) : Place → Typ → Typ → Operands → List (Join × Exp × Exp) → Place → Typ → Typ → Type 0 where
  none_right : {p : Place} {l t : Typ} → Right W A k p l t [] [] p l t
  one_right : {p q : Place} {l t r u v h : Typ} {o : Operand Joint bare.Exp} {os : Operands} {g : Join × Exp × Exp} {gs : List (Join × Exp × Exp)}
      → IsJoin W A k (source.join o.joint p) g.0 g.1 l r t → ElaboratesExp W A k o.operand (tree_of W.reading g.2) u → Right W A k o.place u r os gs q v h
      → Right W A k p l t (o ∷ os) (g ∷ gs) q v h

-- the first operand, and those to its right
pub record AreRight (W : World) (A : Around) (k : ℕ) (place : Place) (a : bare.Exp) (os : Operands) (m : RightChain) : Type 0 where
  pub type : Typ
  pub first : ElaboratesExp W A k a (tree_of W.reading m.first) type
  pub rest : Right W A k place type (type_of W m.whole) os m.parts.items m.place (type_of W m.last) (type_of W m.hole)

-- the operands were elaborated, and joined as far as they are there
pub record IsRight (S : State) (C : Context) (place : Place) (a : bare.Exp) (os : Operands) (T : State) (m : RightChain) : Type 0 where
  pub grows : Grows S T
  pub last_is : HasType T m.last
  pub hole_is : HasType T m.hole
  pub whole_is : HasType T m.whole
  pub gives : (W : World) → Comes T W → (A : Around) → Tells C W A → AreRight W A S.next place a os m

-- the same to the left, where all that is there is joined
pub record IsLeft (S : State) (C : Context) (place : Place) (a : bare.Exp) (os : Operands) (T : State) (m : LeftChain) : Type 0 where
  pub grows : Grows S T
  pub is : HasType T m.ty
  pub gives : (W : World) → Comes T W → (A : Around) → Tells C W A
      → ElaboratesExp W A S.next (left_chain source.join place a os)
      (left_joins W.reading.type (tree_of W.reading m.first) (map (join_of W.reading) m.parts.items)) (type_of W m.ty)
