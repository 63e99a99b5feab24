-- Constructors in scope, each with its scheme and its row in the program.
use Rattle.std.specs.Prelude.{◌≡◌, ◌≤◌, ◌+◌, ◌++◌, ℕ, List, [], ◌∷◌, length, Option, Some, option_map}
use Rattle.ty_core.specs.Types.{Typ}
use Rattle.ty_core.specs.declared.name.TyName.{TyName}
use Rattle.sml_tree.specs.declared.ident.Tyvar.{Tyvar}
use Rattle.sml_tree.specs.declared.ident.Vid.{Vid}
use Rattle.sml_tree.specs.BareTree.{ConBind, DataBind}
use Rattle.core_rules.specs.Elaborated.{any_marks, constructed}
use Rattle.core_rules.specs.Objects.{Over}
use Rattle.ir_poly.specs.Types.{constructor_of, find}
use Rattle.elab_typed.specs.Numbers.{name_as, type_as}
use Rattle.elab_types.specs.declared.scope.TypeEntry.{TypeEntry}
use Rattle.elab_steps.specs.World.{World}
use Rattle.elab_context.specs.Entries.{constructors_of}
use Rattle.elab_context.specs.Telling.{scheme_at}
use Rattle.elab_context.specs.declared.context.Context.{Context}
use Rattle.elab_context.specs.declared.entry.Entry.{Entry}
use Rattle.elab_context.specs.declared.entry.Entry.TheVariants.{Constructor}
use Rattle.dec_forms.specs.Entries.{constructing_name}

-- e is this constructor of the type name y, with this argument
pub record IsMade (D : Context) (W : World) (as_ : List Tyvar) (y : TyName) (b : ConBind) (o : Option Typ) (e : Vid × Entry) : Type 0 where
  pub scheme : ℕ
  pub number : ℕ
  pub is : e ≡ (b.vid, Constructor scheme number y)
  pub may : constructing_name b.vid ≡ Some number
  pub type : scheme_at D W scheme ≡ record { marks = any_marks as_; body = constructed y o }
  pub names : Over D.names (constructed y o)
  pub row : find W.table (name_as (W.naming D.naming) y) number
      ≡ Some (constructor_of (name_as (W.naming D.naming) y) number (option_map (type_as (W.naming D.naming)) o))

-- those of a datatype
pub data EachMade (D : Context) (W : World) (as_ : List Tyvar) (y : TyName) : List ConBind → List (Option Typ) → List (Vid × Entry) → Type 0 where
  none_made : EachMade D W as_ y [] [] []
  one_made : {b : ConBind} {o : Option Typ} {e : Vid × Entry} {bs : List ConBind} {os : List (Option Typ)} {es : List (Vid × Entry)} → IsMade D W as_ y b o e
      → EachMade D W as_ y bs os es → EachMade D W as_ y (b ∷ bs) (o ∷ os) (e ∷ es)

-- a type constructor that names these
pub record NamesConstructors (D : Context) (b : DataBind) (t : ℕ × TypeEntry) (es : List (Vid × Entry)) : Type 0 where
  pub tycon : t.0 ≡ b.tycon
  pub are : constructors_of D t.1 ≡ es
  pub within : t.1.constructors.first + t.1.constructors.count ≤ length D.schemes.items

-- those of all datatypes, each one's type function, and its entry
pub data AllMade (D : Context) (W : World)
    : List TyName → List DataBind → List (List (Option Typ)) → List (Vid × Entry) → List (ℕ × TypeEntry) → Type 0 where
  no_datatype : AllMade D W [] [] [] [] []
  a_datatype : {y : TyName} {b : DataBind} {os : List (Option Typ)} {es : List (Vid × Entry)} {t : ℕ × TypeEntry} {ys : List TyName} {bs : List DataBind}
      {oss : List (List (Option Typ))} {fs : List (Vid × Entry)} {us : List (ℕ × TypeEntry)} → y.arity ≡ length b.tyvars
      → EachMade D W b.tyvars y b.cons os es → NamesConstructors D b t es → AllMade D W ys bs oss fs us
      → AllMade D W (y ∷ ys) (b ∷ bs) (os ∷ oss) (es ++ fs) (t ∷ us)
