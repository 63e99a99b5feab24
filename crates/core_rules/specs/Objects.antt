-- The static objects. [Definition 4.2 to 4.5] Types, type functions and their application are those of `ty_core`; schemes and environments are changed in
-- two points:
-- a scheme keeps its parameters apart from free variables, and values are kept by value identifiers, those of derived forms and `=` included.
use Rattle.std.specs.Prelude.{◌≡◌, ℕ, suc, ◌-◌, Bool, not, nat_eq, nat_lt, if◌then◌else◌, List, [], ◌∷◌, ◌++◌, map, filter, Option, Some, unwrap_or, is_some, option_and_then, true, ◌+◌, ⊤}
use Rattle.std.specs.Map.{lookup}
use Rattle.mlc_names.specs.declared.label.Label.{Label}
use Rattle.sml_tree.specs.Terminal.{LongVid}
use Rattle.sml_tree.specs.declared.ident.Vid.{Vid}
use Rattle.ty_basis.specs.of_ty_core.Types.{Symbol, arrow, labels, name, Typ, var, con, Typs, none, more}
use Rattle.ty_basis.specs.of_ty_core.Marks.{Allows}
use Rattle.ty_basis.specs.of_ty_core.Statics.{TypeFunction, replace}
use Rattle.ty_basis.specs.of_ty_core.declared.mark.Mark.{Mark}
use Rattle.ty_basis.specs.of_ty_core.declared.env.Status.{Status}
use Rattle.ty_basis.specs.Types.{Row}
use Rattle.label_rows.specs.Order.{put_by, sorted_by}
use Rattle.core_rules.specs.Words.{same_vid}

-- the fields in the order of their labels, which is the same however they were written
abbrev pub put_field : Label × Typ → Row → Row
put_field = put_by (λ f. f.0)

abbrev pub sorted : Row → Row
sorted = sorted_by (λ f. f.0)

-- Schemes [4.5]: in the body the variables below the number of marks are the parameters, and the free variable v is written as v and that number.
pub record Scheme : Type 0 where
  pub marks : List Mark
  pub body : Typ

abbrev pub monomorphic : Typ → Scheme
monomorphic t = record { marks = []; body = t }

-- r put for n parameters
abbrev pub put : ℕ → (ℕ → Typ) → Typ → Typ
put n r t = replace (λ v. if nat_lt v n then r v else var (v - n)) t

-- r's types from the k-th on are such as the marks ask for; m says which variables admit equality
abbrev pub AllAllowed : (ℕ → Bool) → (ℕ → Typ) → ℕ → List Mark → Type 0
AllAllowed m r k [] = ⊤
AllAllowed m r k (a ∷ as_) = Allows a m (r k) × AllAllowed m r (suc k) as_

-- Finite maps [4.2], in the order in which their keys were first seen.
abbrev pub Map : Type 0 → Type 0 → Type 0
Map K A = List (K × A)

module _ {K A : Type 0} (same : K → K → Bool) where
  abbrev pub at : Map K A → K → Option A
  at f x = lookup (same x) f

  -- f + g
  abbrev pub joined : Map K A → Map K A → Map K A
  joined f g = map (λ e. (e.0, unwrap_or (at g e.0) e.1)) f ++ filter (λ e. not (is_some (at f e.0))) g

-- Values, type structures and environments [4.2]
pub record Value : Type 0 where
  pub scheme : Scheme
  pub status : Status

abbrev pub Values : Type 0
Values = Map Vid Value

pub record TypeStructure : Type 0 where
  pub function : TypeFunction
  pub constructors : Values

mutual
  pub data Env : Type 0 where
    env : Values → Map ℕ TypeStructure → Structures → Env

  pub data Structures : Type 0 where
    no_structures : Structures
    structure : ℕ → Env → Structures → Structures

abbrev pub structures_of : Map ℕ Env → Structures
structures_of [] = no_structures
structures_of (e ∷ es) = structure e.0 e.1 (structures_of es)

abbrev pub structure_map : Structures → Map ℕ Env
structure_map no_structures = []
structure_map (structure x e ss) = (x, e) ∷ structure_map ss

abbrev pub values : Env → Values
values (env vs ts ss) = vs

abbrev pub types : Env → Map ℕ TypeStructure
types (env vs ts ss) = ts

abbrev pub structures : Env → Map ℕ Env
structures (env vs ts ss) = structure_map ss

abbrev pub no_env : Env
no_env = env [] [] no_structures

abbrev pub values_env : Values → Env
values_env vs = env vs [] no_structures

abbrev pub types_env : Map ℕ TypeStructure → Env
types_env ts = env [] ts no_structures

-- E + E' [4.3]
abbrev pub plus : Env → Env → Env
plus e d = env (joined same_vid (values e) (values d)) (joined nat_eq (types e) (types d)) (structures_of (joined nat_eq (structures e) (structures d)))

-- long identifiers [4.3]
abbrev pub along : Env → List ℕ → Option Env
along e [] = Some e
along e (q ∷ qs) = option_and_then (λ d. along d qs) (at nat_eq (structures e) q)

abbrev pub value_in : Env → Vid → Option Value
value_in e x = at same_vid (values e) x

abbrev pub long_value_in : Env → LongVid → Option Value
long_value_in e x = option_and_then (λ d. value_in d x.vid) (along e x.qualifiers)

-- Contexts [4.2]: T, as the number of type names in use; U, the scoped type variables with the types that stand for them; and E.
pub record Context : Type 0 where
  pub names : ℕ
  pub tyvars : Map ℕ Typ
  pub env : Env

-- C ⊕ E, where E comes with so many new names
abbrev pub with_env : Context → ℕ → Env → Context
with_env c made e = record { names = c.names + made; tyvars = c.tyvars; env = plus c.env e }

-- the type names of a type are among the first so many
abbrev pub SymbolOver : ℕ → Symbol → Type 0
SymbolOver count s = elim s [ arrow ↦ ⊤ | labels ls ↦ ⊤ | name n ↦ nat_lt n.stamp count ≡ true ]

abbrev mutual
  pub Over : ℕ → Typ → Type 0
  Over count (var v) = ⊤
  Over count (con h ts) = SymbolOver count h × AllOver count ts

  pub AllOver : ℕ → Typs → Type 0
  AllOver count none = ⊤
  AllOver count (more t ts) = Over count t × AllOver count ts
