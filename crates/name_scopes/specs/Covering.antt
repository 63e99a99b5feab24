-- What a scope of the code tells of an environment.
use Rattle.std.specs.Prelude.{◌≡◌, ℕ, Bool, true, false, List, ◌++◌, Option, Some, None, option_map, ⊤}
use Rattle.std.specs.List.{AllByRecursion}
use Rattle.sml_tree.specs.declared.ident.Vid.{Vid}
use Rattle.sml_tree.specs.declared.ident.Vid.TheVariants.{Named, Equals, Fresh}
use Rattle.core_rules.specs.Fits.{IsOfValues}
use Rattle.core_rules.specs.Initial.{dynamic_values, hidden, integers}
use Rattle.core_rules.specs.Initial as initial
use Rattle.core_rules.specs.Match.{is_variable}
use Rattle.core_rules.specs.Values.{Env, plus, structure_in, tycon_in, value_in}
use Rattle.name_scopes.specs.Scopes.{structure_found, tycon_found, value_found}
use Rattle.name_scopes.specs.declared.bound.Bound.{Bound}
use Rattle.name_scopes.specs.declared.bound.Bound.TheVariants.{Value, Tycon, Structure}
use Rattle.name_scopes.specs.declared.bound.Members.{Members}
use Rattle.name_scopes.specs.declared.bound.Members.TheVariants.{Integers, Hidden}

-- an identifier that a program can name
abbrev pub is_written : Vid → Bool
is_written (Named x) = true
is_written (Fresh k) = false
is_written Equals = true

-- whether an identifier is a variable, if it is bound
abbrev pub variable_in : Env → Vid → Option Bool
variable_in e x = option_map (λ f. is_variable f.status) (value_in e x)

abbrev pub IsValue : Bound → Type 0
IsValue (Value x v) = ⊤
IsValue (Tycon x n) = ⊥
IsValue (Structure x s) = ⊥

-- these are the constructors of a type
pub record AreListed (cs : List Bound) (d : Env) : Type 0 where
  pub values : (x : Vid) → is_written x ≡ true → value_found cs x ≡ variable_in d x
  pub plain : AllByRecursion IsValue cs
  pub only : IsOfValues d

abbrev pub TyconFits : Option (List Bound) → Option Env → Type 0
TyconFits None None = ⊤
TyconFits (Some cs) (Some d) = AreListed cs d
TyconFits o p = ⊥

-- what a structure of the standard basis has
abbrev pub entries_of : Members → List initial.Entry
entries_of Integers = integers
entries_of Hidden = hidden

abbrev pub StructureFits : Option Members → Option Env → Type 0
StructureFits None None = ⊤
StructureFits (Some s) (Some d) = d ≡ dynamic_values (entries_of s)
StructureFits o p = ⊥

-- the same is bound
pub record Covers (bs : List Bound) (e : Env) : Type 0 where
  pub values : (x : Vid) → is_written x ≡ true → value_found bs x ≡ variable_in e x
  pub tycons : (x : ℕ) → TyconFits (tycon_found bs x) (tycon_in e x)
  pub structures : (x : ℕ) → StructureFits (structure_found bs x) (structure_in e x)

-- onto whatever scope it is put, it is what an environment puts onto what is covered there
abbrev pub Brings : List Bound → Env → Type 0
Brings more d = (bs : List Bound) (e : Env) → Covers bs e → Covers (more ++ bs) (plus e d)
