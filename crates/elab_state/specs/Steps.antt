-- What a step of the elaborator leaves of a state. What it says of a phrase it says of the lists of every state that grows from the one after it; so nothing is
-- said again of a phrase when the next one is elaborated.
use Rattle.std.specs.Prelude.{◌≡◌, ℕ, ◌<◌, ◌≤◌, List, length, take}
use Rattle.ty_core.specs.Types.{Typ}
use Rattle.ty_core.specs.declared.scheme.Quantified.{Quantified}
use Rattle.ty_instance.specs.of_ty_solve.Limits.{NoFurther}
use Rattle.prog_tree.specs.of_ir_tables.Tables.{initial_of, parameters_of, strings_of}
use Rattle.elab_state.specs.States.{types_in, made, limit_in}
use Rattle.elab_state.specs.Generic.{IsGeneric}
use Rattle.elab_state.specs.declared.state.State.{State}

-- new is old with more behind it
abbrev pub Begins : {A : Type 0} → List A → List A → Type 0
Begins old new = take (length old) new ≡ old

-- types, what is written, and what the program has stay under their numbers
pub record Grows (old new : State) : Type 0 where
  pub types : Begins (types_in old) (types_in new)
  pub written : Begins old.written.items new.written.items
  pub namings : Begins old.namings.items new.namings.items
  pub table_types : Begins old.tables.types new.tables.types
  pub constructors : Begins old.tables.constructors new.tables.constructors
  pub parameters : Begins (parameters_of old.tables) (parameters_of new.tables)
  pub strings : Begins (strings_of old.tables) (strings_of new.tables)
  pub exceptions : initial_of new.tables ≡ initial_of old.tables

-- each generic solution after was one before
abbrev pub Narrows : State → State → Type 0
Narrows old new = (D : ℕ → List Quantified) (g : ℕ → Typ) → IsGeneric new D g → IsGeneric old D g

-- a step inside l `val` declarations
pub record Extends (l : ℕ) (old new : State) : Type 0 where
  pub grows : Grows old new
  pub narrows : Narrows old new
  pub variables : made old ≤ made new
  -- limits of variables that are in use here only fall
  pub limits : (v : ℕ) → v < made old → (limit_in old v).level ≤ l → NoFurther (limit_in new v) (limit_in old v)
  pub next : old.next ≤ new.next

-- for each generic solution of the state, as each state says it that grows from this one
abbrev pub Always : State → (State → (ℕ → List Quantified) → (ℕ → Typ) → Type 0) → Type 0
Always S P = (later : State) → Grows S later → (D : ℕ → List Quantified) (g : ℕ → Typ) → IsGeneric S D g → P later D g
