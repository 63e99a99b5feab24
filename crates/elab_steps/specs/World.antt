-- What all numbers of the elaborator come to in the end. It doesn't depend on a state: what a state says holds of it, and what a later one says tells more.
use Rattle.std.specs.Prelude.{◌≡◌, ◌<◌, ℕ, suc, Bool, true, false, List, Option, Some, None, length, nat_eq, slice_get, if◌then◌else◌}
use Rattle.ty_core.specs.Types.{Typ, var}
use Rattle.ty_core.specs.declared.name.TyName.{TyName}
use Rattle.ty_core.specs.declared.scheme.Quantified.{Quantified}
use Rattle.ty_table.specs.TypeAt.{type_at}
use Rattle.elab_types.specs.of_ty_solve.Substitution.{sub, Solves}
use Rattle.elab_types.specs.of_core_rules.Objects.{Over}
use Rattle.elab_state.specs.of_ir_poly.Types.{in_scope, admits_in, over, find, Constructor}
use Rattle.elab_state.specs.of_ir_tables.Tables.{parameters_of, strings_of, string_at}
use Rattle.elab_state.specs.of_prog_tree.TreeOf.{Reading}
use Rattle.elab_state.specs.of_elab_typed.Numbers.{type_as}
use Rattle.elab_state.specs.States.{types_in, made, said_in, limit_in, general_in, table_in, dead_level}
use Rattle.elab_state.specs.declared.naming.Naming.{Naming}
use Rattle.elab_state.specs.declared.naming.Written.{Written}
use Rattle.elab_state.specs.declared.state.State.{State}
use Rattle.elab_steps.specs.Ordered.{is_ordered}

pub record World : Type 0 where
  -- of numbers of the table of types, and of variables in them
  pub raw : ℕ → Typ
  pub value : ℕ → Typ
  -- the program's numbers of type names, where a naming is in force
  pub naming : Option ℕ → ℕ → ℕ
  -- of the tree, and the program's constructors
  pub reading : Reading
  pub table : List Constructor
  -- the parameters in scope at each level, and which variables admit equality
  pub parameters : ℕ → List Quantified
  pub admits : ℕ → Bool
  pub initial : (x : ℕ) → naming None x ≡ x
  pub nested : (l v : ℕ) → in_scope (parameters l) v ≡ true → in_scope (parameters (suc l)) v ≡ true
  pub admitted : (l v : ℕ) → in_scope (parameters l) v ≡ true → admits_in (parameters l) v ≡ admits v
  -- in what variables stand for, the labels of records stand in order
  pub ordered : (v : ℕ) → is_ordered (value v) ≡ true

-- what a type stands for
abbrev pub type_of : World → ℕ → Typ
type_of W k = sub W.value (W.raw k)

-- what the state says comes true
pub record Comes (S : State) (W : World) : Type 0 where
  pub solves : Solves W.admits W.value (said_in S)
  -- variables stand for types over the names that they may use, and over the parameters in scope where they belong
  pub names : (v : ℕ) → v < made S → Over (limit_in S v).names (W.value v)
  pub within : (v : ℕ) → v < made S → (limit_in S v).level < dead_level → over (W.parameters (limit_in S v).level) (W.value v) ≡ true
  -- those that were generalised are parameters for ever
  pub itself : (v : ℕ) → in_scope (general_in S) v ≡ true → W.value v ≡ var v
  -- and weren't in scope before
  pub apart : (l v : ℕ) → in_scope (W.parameters l) v ≡ true → in_scope (general_in S) v ≡ false
  pub types : (k : ℕ) → k < length (types_in S) → W.raw k ≡ type_at (types_in S) k
  -- what the tree writes
  pub written : (k : ℕ) (w : Written) → slice_get S.written.items k ≡ Some w → W.reading.type k ≡ type_as (W.naming w.naming) (type_of W w.ty)
  pub namings : (k : ℕ) (r : Naming) → slice_get S.namings.items k ≡ Some r → (x : ℕ)
      → W.naming (Some k) x ≡ (if nat_eq r.stamp x then r.number else W.naming r.before x)
  pub lists : (k : ℕ) (qs : List Quantified) → slice_get (parameters_of S.tables) k ≡ Some qs → W.reading.parameters k ≡ qs
  pub strings : (k : ℕ) (s : List ℕ) → slice_get (strings_of S.tables) k ≡ Some s → string_at W.reading.strings k ≡ s
  pub rows : (y : TyName) (c : ℕ) (row : Constructor) → find (table_in S) y c ≡ Some row → find W.table y c ≡ Some row
