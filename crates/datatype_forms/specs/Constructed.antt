-- Constructors while they are made: each with its scheme in the context, one behind the other, and then with its row in the program.
use Rattle.std.specs.Prelude.{◌≡◌, ◌+◌, ◌++◌, ℕ, zero, suc, List, [], ◌∷◌, length, Option, Some, option_map, slice_get}
use Rattle.ty_core.specs.Types.{Typ}
use Rattle.ty_core.specs.declared.mark.Mark.{Mark}
use Rattle.ty_core.specs.declared.mark.Mark.TheVariants.{Any}
use Rattle.ty_core.specs.declared.name.TyName.{TyName}
use Rattle.ty_table.specs.TypeAt.{type_at}
use Rattle.sml_tree.specs.declared.ident.Vid.{Vid}
use Rattle.sml_tree.specs.BareTree.{ConBind, DataBind}
use Rattle.core_rules.specs.Elaborated.{constructed}
use Rattle.ir_poly.specs.Types.{constructor_of, find}
use Rattle.elab_types.specs.declared.scope.TypeEntry.{TypeEntry}
use Rattle.elab_state.specs.States.{types_in}
use Rattle.elab_state.specs.declared.state.State.{State}
use Rattle.elab_steps.specs.Growing.{Always, Begins}
use Rattle.elab_context.specs.declared.context.Context.{Context}
use Rattle.elab_context.specs.declared.entry.Built.TheVariants.{Declared}
use Rattle.elab_context.specs.declared.entry.Entry.{Entry}
use Rattle.elab_context.specs.declared.entry.Entry.TheVariants.{Constructor}
use Rattle.elab_context.specs.declared.entry.Scheme as code
use Rattle.dec_forms.specs.Entries.{constructing_name}
use Rattle.datatype_forms.specs.Arguments.{OverIf}
use Rattle.datatype_forms.specs.Steps.{IsStep}

-- so many marks that allow all types
abbrev pub any_of : ℕ → List Mark
any_of zero = []
any_of (suc n) = Any ∷ any_of n

-- e is the constructor of y with an argument of the type o, and the context has its scheme, which is the k-th
pub record HasScheme (ts : List Typ) (schemes : List code.Scheme) (y : TyName) (k : ℕ) (b : ConBind) (o : Option Typ) (e : Vid × Entry) : Type 0 where
  pub number : ℕ
  pub is : e ≡ (b.vid, Constructor k number y)
  pub may : constructing_name b.vid ≡ Some number
  pub code : code.Scheme
  pub found : slice_get schemes k ≡ Some code
  pub marks : code.marks.items ≡ any_of y.arity
  pub body : slice_get ts code.body ≡ Some (constructed y o)
  pub built : code.constructor ≡ Some (Declared number y)

-- their schemes are the k-th and those after it, up to the j-th
pub data EachScheme (ts : List Typ) (schemes : List code.Scheme) (y : TyName) : ℕ → List ConBind → List (Option Typ) → List (Vid × Entry) → ℕ → Type 0 where
  no_scheme : {k : ℕ} → EachScheme ts schemes y k [] [] [] k
  a_scheme : {k j : ℕ} {b : ConBind} {o : Option Typ} {e : Vid × Entry} {bs : List ConBind} {os : List (Option Typ)} {es : List (Vid × Entry)}
      → HasScheme ts schemes y k b o e → EachScheme ts schemes y (suc k) bs os es j → EachScheme ts schemes y k (b ∷ bs) (o ∷ os) (e ∷ es) j

pub data AllSchemes (ts : List Typ) (schemes : List code.Scheme)
    : ℕ → List TyName → List DataBind → List (List (Option Typ)) → List (Vid × Entry) → ℕ → Type 0 where
  no_schemes : {k : ℕ} → AllSchemes ts schemes k [] [] [] [] k
  more_schemes : {k j i : ℕ} {y : TyName} {b : DataBind} {os : List (Option Typ)} {es : List (Vid × Entry)} {ys : List TyName} {bs : List DataBind}
      {oss : List (List (Option Typ))} {fs : List (Vid × Entry)} → EachScheme ts schemes y k b.cons os es j → AllSchemes ts schemes j ys bs oss fs i
      → AllSchemes ts schemes k (y ∷ ys) (b ∷ bs) (os ∷ oss) (es ++ fs) i

-- type constructors, each with the range of its constructors' schemes, the first of which is the k-th
abbrev pub ranged : ℕ → List DataBind → List (ℕ × TypeEntry) → List (ℕ × TypeEntry)
ranged k [] es = []
ranged k (b ∷ bs) [] = []
ranged k (b ∷ bs) (e ∷ es) =
    (e.0, record { arity = e.1.arity; body = e.1.body; constructors = record { first = k; count = length b.cons } }) ∷ ranged (k + length b.cons) bs es

-- the context with these schemes
abbrev pub HasMoreSchemes : Context → Context → Type 0
HasMoreSchemes C D = (D ≡ record C { schemes = D.schemes }) × Begins C.schemes.items D.schemes.items

-- one more constructor
pub record IsAdded (S : State) (C : Context) (y : TyName) (b : ConBind) (k : Option ℕ) (T : State) (D : Context) (e : Vid × Entry) : Type 0 where
  pub step : IsStep S T
  pub context : HasMoreSchemes C D
  pub counted : length D.schemes.items ≡ suc (length C.schemes.items)
  pub has : HasScheme (types_in T) D.schemes.items y (length C.schemes.items) b (option_map (type_at (types_in S)) k) e

-- the program has the constructor
pub record HasRow (T : State) (number : ℕ → ℕ) (limit : ℕ) (y : TyName) (n : ℕ) (o : Option Typ) : Type 0 where
  pub found : Always T (λ W. find W.table (Rattle.elab_typed.specs.Numbers.name_as number y) n
      ≡ Some (constructor_of (Rattle.elab_typed.specs.Numbers.name_as number y) n (option_map (Rattle.elab_typed.specs.Numbers.type_as number) o)))
  pub over : OverIf limit o

pub data EachRow (T : State) (number : ℕ → ℕ) (limit : ℕ) (y : TyName) : List ConBind → List (Option Typ) → Type 0 where
  no_row : EachRow T number limit y [] []
  a_row : {b : ConBind} {o : Option Typ} {bs : List ConBind} {os : List (Option Typ)} (n : ℕ) → constructing_name b.vid ≡ Some n → HasRow T number limit y n o
      → EachRow T number limit y bs os → EachRow T number limit y (b ∷ bs) (o ∷ os)

pub data AllRows (T : State) (number : ℕ → ℕ) (limit : ℕ) : List TyName → List DataBind → List (List (Option Typ)) → Type 0 where
  no_rows : AllRows T number limit [] [] []
  more_rows : {y : TyName} {b : DataBind} {os : List (Option Typ)} {ys : List TyName} {bs : List DataBind} {oss : List (List (Option Typ))}
      → EachRow T number limit y b.cons os → AllRows T number limit ys bs oss → AllRows T number limit (y ∷ ys) (b ∷ bs) (os ∷ oss)
