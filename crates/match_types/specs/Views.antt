-- What the numbers of a work stand for, in the source and in what is made of it.
use Rattle.std.specs.Prelude.{◌≡◌, ◌<◌, ◌≤◌, ℕ, List, [], map, length, take}
use Rattle.ty_core.specs.Types.{Typ, var}
use Rattle.ty_core.specs.declared.scheme.Quantified.{Quantified}
use Rattle.ty_table.specs.TypeAt.{type_at}
use Rattle.ir_poly.specs.Tests.{inst, poly}
use Rattle.ir_poly.specs.Types.{in_scope, unit_type}
use Rattle.ir_tables.specs.Tables.{parameters_of, parameters_at, strings_of}
use Rattle.ir_known.specs.Knows.{marks_of}
use Rattle.match_names.specs.of_match_compile.Compile.{Names, scoped, unclassed, bool_type, exception_type}
use Rattle.match_names.specs.Bindings.{names_of}
use Rattle.plain_tree.specs.TreeOf as plain
use Rattle.plain_tree.specs.declared.tree.Binding.{Binding}
use Rattle.prog_tree.specs.TreeOf as source
use Rattle.match_types.specs.declared.work.Work.{Work}
use Rattle.match_types.specs.declared.work.ValueType.{ValueType}
use Rattle.match_types.specs.declared.work.ValueType.TheVariants as value

-- The table of types grows while steps are made, so what is made is read with the types that there will be. With the parameters in scope, and the numbers of
-- the source's variables.
pub record View : Type 0 where
  pub source : source.Reading
  pub scope : List Quantified
  pub names : Names
  pub types : List Typ
  pub parameters : List (List Quantified)
  pub strings : List (List ℕ)

-- variables are their numbers; an atom is a variable at no types
abbrev pub reading : View → plain.Reading poly
reading v = record {
  binder = λ x. x;
  atom = λ x. inst x [];
  use_at = λ x ts. inst x (map (type_at v.types) ts);
  type = type_at v.types;
  parameters = parameters_at v.parameters;
  strings = v.strings;
}

-- A work is seen so: its types are the first ones. The source knows the first types alone, and all other numbers read as the variable 0.
pub record Sees (w : Work) (v : View) : Type 0 where
  pub grown : take (length w.tables.types) v.types ≡ w.tables.types
  pub are_parameters : v.parameters ≡ parameters_of w.tables
  pub are_strings : v.strings ≡ strings_of w.tables
  pub source_known : (k : ℕ) → k < w.first → v.source.type k ≡ type_at v.types k
  pub source_unknown : (k : ℕ) → w.first ≤ k → v.source.type k ≡ var 0
  pub source_parameters : (k : ℕ) → unclassed (v.source.parameters k) ≡ parameters_at v.parameters k
  pub source_strings : v.source.strings ≡ v.strings
  pub same_names : v.names ≡ names_of w.names
  pub same_scope : (x : ℕ) → in_scope v.scope x ≡ in_scope (marks_of w.scope) x

-- all stays but the next number; types are added
pub record Keeps (old new : Work) : Type 0 where
  pub types : take (length old.tables.types) new.tables.types ≡ old.tables.types
  pub longer : length old.tables.types ≤ length new.tables.types
  pub first : new.first ≡ old.first
  pub initial : new.tables.initial ≡ old.tables.initial
  pub constructors : new.tables.constructors ≡ old.tables.constructors
  pub parameters : new.tables.parameters ≡ old.tables.parameters
  pub strings : new.tables.strings ≡ old.tables.strings
  pub scope : new.scope ≡ old.scope
  pub names : new.names ≡ old.names

-- a number stands for a type, however the work is seen
abbrev pub Stands : Work → ℕ → (View → Typ) → Type 0
Stands w k t = (v : View) → Sees w v → type_at v.types k ≡ t v

-- a type of the source
abbrev pub source_at : ℕ → View → Typ
source_at t v = v.source.type t

-- a value's type, and over the parameters in scope
abbrev pub value_type : View → ValueType → Typ
value_type v (value.Source t) = v.source.type t
value_type v value.Exception = exception_type
value_type v value.Bool = bool_type
value_type v value.Unit = unit_type

abbrev pub in_view : ValueType → View → Typ
in_view t v = scoped v.scope (value_type v t)

-- a binding of a new variable over no parameters
pub record Binds (w : Work) (n : ℕ) (t : ValueType) (b : Binding) : Type 0 where
  pub variable : b.variable ≡ n
  pub parameters : (v : View) → Sees w v → parameters_at v.parameters b.parameters ≡ []
  pub type : Stands w b.ty (in_view t)
