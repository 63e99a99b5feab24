-- Values and dynamic environments. [Definition 6.2, 6.3]
use Rattle.std.specs.Prelude.{ℕ, suc, List, [], ◌∷◌, Option, Some, None, option_and_then, nat_eq, if◌then◌else◌}
use Rattle.mlc_names.specs.declared.label.Label.{Label}
use Rattle.ty_basis.specs.of_mlc_prims.LitOf.{Literal}
use Rattle.sml_tree.specs.Terminal.{LongVid}
use Rattle.sml_tree.specs.declared.ident.Vid.{Vid}
use Rattle.sml_tree.specs.declared.ident.BuiltIn.{BuiltIn}
use Rattle.sml_tree.specs.BareTree.{Rules, Binds}
use Rattle.ty_basis.specs.of_ty_core.declared.env.Status.{Status}
use Rattle.core_rules.specs.Words.{same_vid, same_label}
use Rattle.ty_basis.specs.of_mlc_prims.declared.basis.BasisPrimitive.{BasisPrimitive}

-- a constructor is its identifier; those that nothing can bind again are apart
pub data Con : Type 0 where
  built : BuiltIn → Con
  declared : Vid → Con

mutual
  pub data Value : Type 0 where
    -- int, word, char and string
    literal : Literal → Value
    -- a record, with its fields as they were written
    record_of : Fields → Value
    -- a constructor, alone and with its argument
    con : Con → Value
    con_of : Con → Value → Value
    -- the constructor `ref`, and a reference
    ref : Value
    address : ℕ → Value
    -- an exception name, alone and with its argument
    exn : ℕ → Value
    exn_of : ℕ → Value → Value
    primitive : BasisPrimitive → Value
    -- a match, its environment, and the bindings that are recursive in it
    closure : Rules → Env → Binds → Value

  pub data Fields : Type 0 where
    no_fields : Fields
    field : Label → Value → Fields → Fields

  -- what is bound, the latest first: values with their status, type constructors with the environment of their constructors, structures
  pub data Env : Type 0 where
    nothing : Env
    value : Vid → Status → Value → Env → Env
    tycon : ℕ → Env → Env → Env
    structure : ℕ → Env → Env → Env

-- E + E' [4.3]
abbrev pub plus : Env → Env → Env
plus e nothing = e
plus e (value x s v d) = value x s v (plus e d)
plus e (tycon x t d) = tycon x t (plus e d)
plus e (structure x t d) = structure x t (plus e d)

pub record Found : Type 0 where
  pub status : Status
  pub value : Value

abbrev pub value_in : Env → Vid → Option Found
value_in nothing x = None
value_in (value y s v e) x = if same_vid x y then Some (record { status = s; value = v }) else value_in e x
value_in (tycon y t e) x = value_in e x
value_in (structure y t e) x = value_in e x

abbrev pub tycon_in : Env → ℕ → Option Env
tycon_in nothing x = None
tycon_in (value y s v e) x = tycon_in e x
tycon_in (tycon y t e) x = if nat_eq x y then Some t else tycon_in e x
tycon_in (structure y t e) x = tycon_in e x

abbrev pub structure_in : Env → ℕ → Option Env
structure_in nothing x = None
structure_in (value y s v e) x = structure_in e x
structure_in (tycon y t e) x = structure_in e x
structure_in (structure y t e) x = if nat_eq x y then Some t else structure_in e x

-- long identifiers [4.3]
abbrev pub along : Env → List ℕ → Option Env
along e [] = Some e
along e (q ∷ qs) = option_and_then (λ d. along d qs) (structure_in e q)

abbrev pub long_value_in : Env → LongVid → Option Found
long_value_in e x = option_and_then (λ d. value_in d x.vid) (along e x.qualifiers)

-- a field of a record
abbrev pub field_in : Label → Fields → Option Value
field_in l no_fields = None
field_in l (field k v fs) = if same_label l k then Some v else field_in l fs

abbrev pub count : Fields → ℕ
count no_fields = 0
count (field l v fs) = suc (count fs)

abbrev pub unit_value : Value
unit_value = record_of no_fields
