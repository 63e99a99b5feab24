-- What a state has of more type names and constructors, in the worlds in which what it says comes true.
use Rattle.std.specs.Prelude.{◌≡◌, ◌<◌, ◌+◌, ℕ, List, length, Option, Some, nat_eq, option_map, if◌then◌else◌}
use Rattle.ty_core.specs.Types.{Typ}
use Rattle.ty_core.specs.declared.name.TyName.{TyName}
use Rattle.ir_poly.specs.Types.{constructor_of, find}
use Rattle.ir_tables.specs.Rows.{constructor_at}
use Rattle.ir_tables.specs.declared.constructors.Constructor.{Constructor}
use Rattle.ty_table.specs.TypeAt.{type_at}
use Rattle.elab_typed.specs.Numbers.{AgreeBelow, type_as}
use Rattle.elab_state.specs.Namings.{IsAmong}
use Rattle.elab_state.specs.Readings.{IsHeldArgument}
use Rattle.elab_state.specs.States.{types_in}
use Rattle.elab_state.specs.declared.naming.Naming.{Naming}
use Rattle.elab_state.specs.declared.state.State.{State}
use Rattle.elab_steps.specs.Growing.{Always, Grows}
use Rattle.elab_steps.specs.World.{World, Comes}
use Rattle.elab_context.specs.Entries.{number_in}
use Rattle.elab_context.specs.declared.context.Context.{Context}
use Rattle.dec_forms.specs.Entries.{HasFront}
use Rattle.datatype_forms.specs.Arguments.{OverIf}
use Rattle.datatype_forms.specs.ProgramTypes.{AreRight, number_by}
use Rattle.datatype_forms.specs.declared.program_types.Names.{Names}

-- a step that leaves the program's next variable
pub record IsStep (S T : State) : Type 0 where
  pub grows : Grows S T
  pub next : T.next ≡ S.next

-- k is the naming r
pub record IsNaming (S : State) (r : Naming) (T : State) (k : ℕ) : Type 0 where
  pub step : IsStep S T
  pub among : k < length T.namings.items
  pub is : Always T (λ W. (x : ℕ) → W.naming (Some k) x ≡ (if nat_eq r.stamp x then r.number else W.naming r.before x))

-- the context with so many type names, this naming, and these numbers
abbrev pub renamed : Context → ℕ → Option ℕ → List (ℕ × ℕ) → Context
renamed C n o numbers = record C { names = n; naming = o; numbers = numbers }

-- D is C with so many more type names, which have numbers of the program; names that were in use have theirs still
pub record AreNamed (S : State) (C : Context) (n : ℕ) (T : State) (D : Context) : Type 0 where
  pub step : IsStep S T
  pub same : D ≡ renamed C (C.names + n) D.naming D.numbers
  pub among : IsAmong (length T.namings.items) D.naming
  pub front : HasFront C.numbers D.numbers
  pub numbers : (W : World) → Comes T W → ((x : ℕ) → W.naming C.naming x ≡ number_in C x) → (x : ℕ) → W.naming D.naming x ≡ number_in D x
  pub agree : (W : World) → Comes T W → AgreeBelow C.names (W.naming C.naming) (W.naming D.naming)

-- what was found of the program's types is right
abbrev pub KnowsTypes : State → Names → (ℕ → Option ℕ) → Type 0
KnowsTypes S ns known = AreRight (types_in S) (number_by ns.numbers.now) ns.limit known S.tables.types

-- the type of an argument in the program
abbrev pub program_type_if : State → Names → Option ℕ → Option Typ
program_type_if S ns o = option_map (type_as (number_by ns.numbers.now)) (option_map (type_at (types_in S)) o)

-- a step that leaves the solver's types
pub record IsTableStep (S T : State) (ns : Names) (known : ℕ → Option ℕ) : Type 0 where
  pub step : IsStep S T
  pub types : types_in T ≡ types_in S
  pub knows : KnowsTypes T ns known

-- the program's table has the type of an argument, which has no type names but those in use
pub record IsArgument (S : State) (ns : Names) (o : Option ℕ) (T : State) (known : ℕ → Option ℕ) (r : Option ℕ) : Type 0 where
  pub step : IsTableStep S T ns known
  pub held : IsHeldArgument (length T.tables.types) r
  pub is : option_map (type_at T.tables.types) r ≡ program_type_if S ns o
  pub over : OverIf ns.limit (option_map (type_at (types_in S)) o)

-- the program has one more constructor
pub record IsRow (S : State) (row : Constructor) (T : State) : Type 0 where
  pub step : IsStep S T
  pub types : types_in T ≡ types_in S
  pub table : T.tables.types ≡ S.tables.types
  pub is : Always T (λ W. find W.table row.datatype row.number ≡ Some (constructor_at S.tables.types row))

-- with an argument of this type
pub record IsProgramRow (S : State) (ns : Names) (y : TyName) (n : ℕ) (o : Option ℕ) (T : State) (known : ℕ → Option ℕ) : Type 0 where
  pub step : IsTableStep S T ns known
  pub is : Always T (λ W. find W.table y n ≡ Some (constructor_of y n (program_type_if S ns o)))
  pub over : OverIf ns.limit (option_map (type_at (types_in S)) o)
