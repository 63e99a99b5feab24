-- Constructors of a declaration, one after the other: each gets a scheme in the context, and then a row in the program.
use Rattle.std.specs.Prelude.{◌≡◌, ◌++◌, ◌∷◌, [], ℕ, List, Option, Some, length, slice_get}
use Rattle.ty_core.specs.declared.name.TyName.{TyName}
use Rattle.sml_tree.specs.declared.ident.Vid.{Vid}
use Rattle.sml_tree.specs.BareTree.{ConBind, DataBind}
use Rattle.elab_typed.specs.Numbers.{name_as}
use Rattle.elab_state.specs.States.{types_in}
use Rattle.elab_state.specs.declared.state.State.{State}
use Rattle.elab_steps.specs.Instances.{IsScheme}
use Rattle.elab_context.specs.declared.context.Context.{Context}
use Rattle.elab_context.specs.declared.entry.Built.{Built}
use Rattle.elab_context.specs.declared.entry.Entry.{Entry}
use Rattle.elab_context.specs.declared.entry.Scheme as code
use Rattle.datatype_forms.specs.Arguments.{row_at, rows_at}
use Rattle.datatype_forms.specs.Constructed.{AllSchemes, EachRow, EachScheme, HasMoreSchemes, IsAdded, any_of}
use Rattle.datatype_forms.specs.ProgramTypes.{number_by}
use Rattle.datatype_forms.specs.Steps.{IsStep, IsTableStep}
use Rattle.datatype_forms.specs.declared.program_types.Names.{Names}

-- the context's schemes are over types of the state
abbrev pub AreSchemes : State → Context → Type 0
AreSchemes S C = (k : ℕ) (s : code.Scheme) → slice_get C.schemes.items k ≡ Some s → IsScheme S s.marks.items s.body

-- one scheme more: the k-th, over so many parameters of any types, with this body, of this constructor
pub record HasOneMore (C : Context) (n body : ℕ) (c : Built) (D : Context) (k : ℕ) : Type 0 where
  pub scheme : code.Scheme
  pub marks : scheme.marks.items ≡ any_of n
  pub of : scheme.body ≡ body
  pub built : scheme.constructor ≡ Some c
  pub is : D.schemes.items ≡ C.schemes.items ++ scheme ∷ []
  pub number : k ≡ length C.schemes.items
  pub rest : D ≡ record C { schemes = D.schemes }

-- one constructor more, of y
pub record IsMore (S : State) (C : Context) (y : TyName) (b : ConBind) (k : Option ℕ) (T : State) (D : Context) (e : Vid × Entry) : Type 0 where
  pub added : IsAdded S C y b k T D e
  pub schemes : AreSchemes S C → AreSchemes T D

-- the constructors of y: new is old with their entries behind it
pub record AreMore (S : State) (C : Context) (y : TyName) (bs : List ConBind) (ks : List (Option ℕ)) (T : State) (D : Context)
    (old new : List (Vid × Entry)) : Type 0 where
  pub step : IsStep S T
  pub context : HasMoreSchemes C D
  pub schemes : AreSchemes S C → AreSchemes T D
  pub entries : List (Vid × Entry)
  pub is : new ≡ old ++ entries
  pub each : EachScheme (types_in T) D.schemes.items y (length C.schemes.items) bs (row_at (types_in S) ks) entries (length D.schemes.items)

-- those of all datatypes
pub record AreAllMore (S : State) (C : Context) (ys : List TyName) (bs : List DataBind) (kss : List (List (Option ℕ))) (T : State) (D : Context)
    (es : List (Vid × Entry)) : Type 0 where
  pub step : IsStep S T
  pub context : HasMoreSchemes C D
  pub schemes : AreSchemes S C → AreSchemes T D
  pub all : AllSchemes (types_in T) D.schemes.items (length C.schemes.items) ys bs (rows_at (types_in S) kss) es (length D.schemes.items)

-- the rows of a datatype that is z in the program
pub record HaveRows (S : State) (ns : Names) (z : TyName) (bs : List ConBind) (ks : List (Option ℕ)) (T : State) (known : ℕ → Option ℕ) : Type 0 where
  pub step : IsTableStep S T ns known
  pub each : (y : TyName) → z ≡ name_as (number_by ns.numbers.now) y → EachRow T (number_by ns.numbers.now) ns.limit y bs (row_at (types_in S) ks)
