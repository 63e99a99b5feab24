-- What the elaborator says of an expression: in every world in which what the state says afterwards comes true, it elaborates to the program's expression, with
-- its type.
use Rattle.std.specs.Prelude.{◌≡◌, ◌≤◌, ℕ, true, map}
use Rattle.ty_core.specs.Types.{Typ}
use Rattle.ty_core.specs.Statics.{replace}
use Rattle.sml_tree.specs.BareTree as bare
use Rattle.core_rules.specs.Objects.{Over}
use Rattle.core_rules.specs.Choices.{Choices}
use Rattle.ir_poly.specs.Prog as prog
use Rattle.ty_solve.specs.Substitution.{sub}
use Rattle.ir_poly.specs.Types.{over, nth_type, changed}
use Rattle.prog_tree.specs.TreeOf.{tree_of}
use Rattle.elab_context.specs.of_elab_typed.Contexts.{Around}
use Rattle.elab_context.specs.of_elab_typed.Elaborates.{ExpElab}
use Rattle.elab_context.specs.of_elab_state.declared.state.State.{State}
use Rattle.elab_context.specs.of_elab_steps.Growing.{HasType, AreTypes, Grows, Always}
use Rattle.elab_context.specs.of_elab_steps.World.{World, type_of, Comes}
use Rattle.use_elab.specs.Fresh.{AreFresh, images_of}
use Rattle.elab_context.specs.Entries.{limit_of}
use Rattle.elab_context.specs.Telling.{Tells, scheme_at}
use Rattle.elab_context.specs.declared.context.Context.{Context}
use Rattle.use_elab.specs.declared.typed.TypedExp.{TypedExp}
use Rattle.use_elab.specs.declared.typed.Instance.{Instance}

-- an expression elaborates, where the variables in scope are below k
pub record ElaboratesExp (W : World) (A : Around) (k : ℕ) (e : bare.Exp) (x : prog.Exp) (t : Typ) : Type 0 where
  pub choices : Choices
  pub elab : (j : ℕ) → j ≤ k → ExpElab W.table A j e x t choices
  -- its type is over the names and the parameters in scope
  pub names : Over A.names t
  pub parameters : over A.parameters t ≡ true

pub record IsExp (S : State) (C : Context) (e : bare.Exp) (T : State) (r : TypedExp) : Type 0 where
  pub grows : Grows S T
  pub is : HasType T r.ty
  pub gives : (W : World) → Comes T W → (A : Around) → Tells C W A → ElaboratesExp W A S.next e (tree_of W.reading r.exp) (type_of W r.ty)

-- a closed scheme at new variables
pub record IsAtFresh (S : State) (C : Context) (s : ℕ) (T : State) (r : Instance) : Type 0 where
  pub grows : Grows S T
  pub next : T.next ≡ S.next
  pub are : AreTypes T r.images.items
  pub is : HasType T r.ty
  pub fresh : Always T (λ W. AreFresh W (limit_of C) (scheme_at C W s).marks r.images.items)
  pub has : Always T (λ W. type_of W r.ty ≡ replace (nth_type (images_of W r.images.items)) (scheme_at C W s).body)

-- a type of a declaration at new variables for a list of parameters
pub record IsAtNew (S : State) (C : Context) (l k : ℕ) (T : State) (r : Instance) : Type 0 where
  pub grows : Grows S T
  pub next : T.next ≡ S.next
  pub are : AreTypes T r.images.items
  pub is : HasType T r.ty
  pub fresh : Always T (λ W. AreFresh W (limit_of C) (map (λ q. q.mark) (W.reading.parameters l)) r.images.items)
  pub has : Always T (λ W. type_of W r.ty ≡ sub (changed (W.reading.parameters l) (images_of W r.images.items) W.value) (W.raw k))
