-- Lists of expressions.
use Rattle.std.specs.Prelude.{◌≡◌, ℕ, List, [], ◌∷◌}
use Rattle.mlc_base.specs.declared.place.Place.{Place}
use Rattle.ty_basis.specs.Types.{list_name}
use Rattle.sml_tree.specs.BareTree as bare
use Rattle.sml_tree.specs.declared.ident.BuiltIn.TheVariants.{Cons, Nil}
use Rattle.sml_tree.specs.Derived.{tuple}
use Rattle.ir_poly.specs.Prog as prog
use Rattle.core_elab.specs.Scopes.{built_number}
use Rattle.prog_tree.specs.TreeOf.{Reading, tree_of}
use Rattle.prog_tree.specs.declared.tree.Exp.{Exp}
use Rattle.prog_tree.specs.declared.tree.Join.{Join}
use Rattle.elab_typed.specs.Contexts.{Around}
use Rattle.pat_elab.specs.of_elab_state.declared.state.State.{State}
use Rattle.pat_elab.specs.of_elab_steps.Growing.{HasType, Grows}
use Rattle.pat_elab.specs.of_elab_steps.World.{World, type_of, Comes}
use Rattle.pat_elab.specs.of_elab_context.Telling.{Tells}
use Rattle.pat_elab.specs.of_elab_context.declared.context.Context.{Context}
use Rattle.use_elab.specs.Elaborated.{ElaboratesExp}
use Rattle.exp_forms.specs.Chains.{IsJoin}
use Rattle.exp_forms.specs.declared.parts.Listed.{Listed}

-- a :: b
abbrev pub cons_exp : Place → bare.Exp → bare.Exp → bare.Exp
cons_exp p a b = bare.app p (bare.built_exp p Cons) (tuple p (a ∷ b ∷ []))

-- the constructors as they are written
abbrev pub cons_of : Reading → Listed → prog.Exp
cons_of R l = prog.con_exp (built_number Cons) list_name (R.type l.at ∷ []) (R.type l.operator)

abbrev pub nil_of : Reading → Listed → prog.Exp
nil_of R l = prog.con_exp (built_number Nil) list_name (R.type l.at ∷ []) (R.type l.join.ty)

-- `::` joins an element and a list to a list, and `nil` is one
pub record AreListed (W : World) (A : Around) (l : Listed) : Type 0 where
  pub joins : (k : ℕ) (o : Exp) → tree_of W.reading o ≡ cons_of W.reading l
      → IsJoin W A k (cons_exp l.join.place) l.join o (type_of W l.element) (type_of W l.ty) (type_of W l.ty)
  pub nil : (k : ℕ) → ElaboratesExp W A k (bare.built_exp l.join.place Nil) (nil_of W.reading l) (type_of W l.ty)

-- the types of a list at a place
pub record IsListed (S : State) (C : Context) (place : Place) (T : State) (l : Listed) : Type 0 where
  pub at : l.join.place ≡ place
  pub grows : Grows S T
  pub element : HasType T l.element
  pub is : HasType T l.ty
  pub gives : (W : World) → Comes T W → (A : Around) → Tells C W A → AreListed W A l

-- elements, each after what joins it to one that is before it
pub data Elements (W : World) (A : Around) (l : Listed) (k : ℕ) : List bare.Exp → List (Join × Exp × Exp) → Type 0 where
  no_elements : Elements W A l k [] []
  an_element : {e : bare.Exp} {es : List bare.Exp} {g : Join × Exp × Exp} {gs : List (Join × Exp × Exp)} → g.0 ≡ l.join
      → tree_of W.reading g.1 ≡ cons_of W.reading l → ElaboratesExp W A k e (tree_of W.reading g.2) (type_of W l.element) → Elements W A l k es gs
      → Elements W A l k (e ∷ es) (g ∷ gs)

-- the elements were elaborated
pub record AreElements (S : State) (C : Context) (l : Listed) (es : List bare.Exp) (T : State) (gs : List (Join × Exp × Exp)) : Type 0 where
  pub grows : Grows S T
  pub gives : (W : World) → Comes T W → (A : Around) → Tells C W A → Elements W A l S.next es gs
