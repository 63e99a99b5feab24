-- Constructors and exceptions that a pattern matches.
use Rattle.std.specs.Prelude.{◌≡◌, ℕ, Bool, false, List, [], ◌∷◌}
use Rattle.ty_core.specs.Types.{Typ}
use Rattle.sml_tree.specs.BareTree as bare
use Rattle.sml_tree.specs.declared.ident.Vid.{Vid}
use Rattle.ir_poly.specs.Prog as prog
use Rattle.prog_tree.specs.TreeOf.{before}
use Rattle.elab_context.specs.of_elab_typed.Contexts.{Around}
use Rattle.elab_context.specs.of_elab_state.declared.state.State.{State}
use Rattle.elab_context.specs.of_elab_steps.Growing.{HasType, Always, Grows}
use Rattle.elab_context.specs.of_elab_steps.Instances.{IsInstance, begins_as_function}
use Rattle.elab_context.specs.of_elab_steps.World.{World, type_of, Comes}
use Rattle.elab_context.specs.Entries.{entry_in, is_free, limit_of}
use Rattle.elab_context.specs.Telling.{Tells, scheme_at}
use Rattle.elab_context.specs.declared.context.Context.{Context}
use Rattle.pat_elab.specs.Elaborated.{Elaborates}
use Rattle.pat_elab.specs.declared.bound.BoundVariable.{BoundVariable}
use Rattle.pat_elab.specs.declared.headed.Headed.{Headed}

-- a pattern that is a long identifier binds it
abbrev pub binds : Context → List ℕ → Vid → Bool
binds C [] v = is_free (entry_in C [] v)
binds C (q ∷ qs) v = false

-- r is an instance of a scheme that isn't of functions
pub record IsConstructorAlone (S : State) (C : Context) (s : ℕ) (T : State) (r : ℕ) : Type 0 where
  pub grows : Grows S T
  pub is : HasType T r
  pub next : T.next ≡ S.next
  pub instance : Always T (λ W. IsInstance W (limit_of C) (scheme_at C W s).marks (scheme_at C W s).body (type_of W r))
  pub alone : Always T (λ W. begins_as_function (scheme_at C W s).body ≡ false)

-- what `source` puts before a pattern of the type u elaborates: h stands before the program's pattern
pub record IsHead (W : World) (A : Around) (source : bare.Pat → bare.Pat) (u : Typ) (h : Headed) : Type 0 where
  pub heads : (k j : ℕ) (a : bare.Pat) (p : prog.Pat) (bs : List BoundVariable) → Elaborates W A k a p u bs j
      → Elaborates W A k (source a) (before h.head (W.reading.type h.written) p) (type_of W h.ty) bs j

-- the same in every world, for patterns of the type `argument`
pub record IsHeaded (S : State) (C : Context) (source : bare.Pat → bare.Pat) (argument : ℕ) (T : State) (h : Headed) : Type 0 where
  pub grows : Grows S T
  pub next : T.next ≡ S.next
  pub is : HasType T h.ty
  pub gives : (W : World) → Comes T W → (A : Around) → Tells C W A → IsHead W A source (type_of W argument) h
