-- The names of a declaration's datatypes, of which as many admit equality as can. [Definition 4.9, rule 17]
use Rattle.std.specs.Prelude.{◌≡◌, ℕ, Bool, true, List, Option, map, length, nat_eq, Some}
use Rattle.ty_core.specs.declared.name.TyName.{TyName}
use Rattle.sml_tree.specs.BareTree.{DataBind}
use Rattle.core_rules.specs.Objects.{Context, Map, TypeStructure}
use Rattle.core_rules.specs.Elaborated.{AllBelow, datatypes, names_of, respects_equality}
use Rattle.core_rules.specs.Restrictions.{distinct}
use Rattle.elab_types.specs.declared.scope.TypeScope.{TypeScope}
use Rattle.elab_state.specs.States.{types_in}
use Rattle.elab_state.specs.declared.state.State.{State}
use Rattle.closed_types.specs.Parameters.{ReadsTypes}
use Rattle.datatype_forms.specs.Arguments.{AreArguments, AreRowsOf, AreStanding, RowsOver, data_structures, in_names, rows_at}
use Rattle.datatype_forms.specs.Reading.{AreNameEntries}
use Rattle.datatype_forms.specs.Steps.{IsStep}
use Rattle.datatype_forms.specs.declared.attributes.Arguments.{Arguments}

abbrev pub rows_of : Arguments → List (List (Option ℕ))
rows_of r = map (λ ks. ks.items) r.rows.items

-- no type constructor stands twice
abbrev pub AreOnce : List DataBind → Type 0
AreOnce bs = distinct nat_eq (map (λ b. b.tycon) bs) ≡ true

-- what is read where each datatype is the type name of its place
pub record AreArgumentsIn (S : State) (s : TypeScope) (bs : List DataBind) (ns : List TyName) (T : State) (r : Arguments) : Type 0 where
  pub step : IsStep S T
  pub entries : AreNameEntries (types_in T) bs ns r.entries.items
  pub are : (c : Context) → AreOnce bs → ReadsTypes (types_in S) s c → AreArguments (in_names c ns bs) bs (rows_at (types_in T) (rows_of r))
  pub rows : AreRowsOf (types_in T) bs (rows_of r)

-- read where each datatype is a name in use, the arguments have no names but the first so many
pub record AreInUse (S : State) (s : TypeScope) (first : ℕ) (bs : List DataBind) (T : State) : Type 0 where
  pub names : List TyName
  pub standing : AreStanding names bs
  pub arguments : Arguments
  pub read : AreArgumentsIn S s bs names T arguments
  pub over : RowsOver first (rows_at (types_in T) (rows_of arguments))

-- read where the new names are marked in some way
pub record AreMarked (S : State) (s : TypeScope) (first : ℕ) (bs : List DataBind) (T : State) (r : Arguments) : Type 0 where
  pub marks : List Bool
  pub count : length marks ≡ length bs
  pub read : AreArgumentsIn S s bs (names_of first marks bs) T r

-- marked so, the type structures are right, and with no others are there more that admit equality
pub record AreBestMarks (c : Context) (bs : List DataBind) (qs : List Bool) : Type 0 where
  pub structures : Map ℕ TypeStructure
  pub are : datatypes c qs bs ≡ Some structures
  pub respect : respects_equality qs structures ≡ true
  pub greatest : (rs : List Bool) (ss : Map ℕ TypeStructure) → length rs ≡ length bs → datatypes c rs bs ≡ Some ss
      → respects_equality rs ss ≡ true → AllBelow rs qs

pub record AreBestNames (S : State) (s : TypeScope) (first : ℕ) (bs : List DataBind) (T : State) (ns : List TyName) : Type 0 where
  pub step : IsStep S T
  pub marks : List Bool
  pub count : length marks ≡ length bs
  pub names : ns ≡ names_of first marks bs
  pub best : (c : Context) → c.names ≡ first → AreOnce bs → ReadsTypes (types_in S) s c → AreBestMarks c bs marks

-- the names of the declaration, and what is read with them
pub record AreDataArguments (S : State) (s : TypeScope) (first : ℕ) (bs : List DataBind) (T : State) (ns : List TyName) (r : Arguments) : Type 0 where
  pub step : IsStep S T
  pub marks : List Bool
  pub count : length marks ≡ length bs
  pub names : ns ≡ names_of first marks bs
  pub best : (c : Context) → c.names ≡ first → AreOnce bs → ReadsTypes (types_in S) s c → AreBestMarks c bs marks
  pub are : (c : Context) → c.names ≡ first → AreOnce bs → ReadsTypes (types_in S) s c
      → datatypes c marks bs ≡ Some (data_structures ns bs (rows_at (types_in T) (rows_of r)))
  pub entries : AreNameEntries (types_in T) bs ns r.entries.items
  pub rows : AreRowsOf (types_in T) bs (rows_of r)
