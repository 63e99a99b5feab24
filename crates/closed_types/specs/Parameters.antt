-- Types over parameters, which stand for the first variables. [Definition 4.10, rules 27 and 28]
use Rattle.std.specs.Prelude.{◌≡◌, ◌<◌, ℕ, suc, true, List, [], ◌∷◌, length, Some, option_map, slice_get, ⊤}
use Rattle.ty_core.specs.Types.{Typ, var}
use Rattle.ty_table.specs.TypeAt.{type_at}
use Rattle.ty_solve.specs.Substitution.{is_below}
use Rattle.sml_tree.specs.BareTree.{Ty}
use Rattle.sml_tree.specs.declared.ident.Tyvar.{Tyvar}
use Rattle.core_rules.specs.Elaborated.{type_in, type_of, with_parameters}
use Rattle.core_rules.specs.Objects.{Context}
use Rattle.elab_types.specs.Reading.{AreKnown, entry_of, function_in}
use Rattle.elab_types.specs.declared.scope.TypeScope.{TypeScope}

-- type variables with the numbers of the k-th variable and those behind it
abbrev pub AreParameters : List Typ → ℕ → List Tyvar → List (ℕ × ℕ) → Type 0
AreParameters ts k [] [] = ⊤
AreParameters ts k [] (u ∷ us) = ⊥
AreParameters ts k (a ∷ as_) [] = ⊥
AreParameters ts k (a ∷ as_) (u ∷ us) = (u.0 ≡ a.name) × ((slice_get ts u.1 ≡ Some (var k)) × AreParameters ts (suc k) as_ us)

-- the variables of the type r are below n where those of the scope's types are
abbrev pub IsOverKnown : List Typ → List Typ → TypeScope → ℕ → Type 0
IsOverKnown old new s r = (n : ℕ) → AreKnown n old s → is_below n (type_at new r) ≡ true

-- a scope tells of the type constructors of a context
abbrev pub ReadsTypes : List Typ → TypeScope → Context → Type 0
ReadsTypes ts s c = (qs : List ℕ) (x : ℕ) → option_map (λ y. y.function) (type_in c.env qs x) ≡ option_map (function_in ts) (entry_of s qs x)

-- the type r is what the type expression is over these parameters, in every context of whose type constructors the scope tells
pub record IsClosedType (old new : List Typ) (s : TypeScope) (as_ : List Tyvar) (ty : Ty) (r : ℕ) : Type 0 where
  pub held : r < length new
  pub below : is_below (length as_) (type_at new r) ≡ true
  pub is : (c : Context) → ReadsTypes old s c → type_of (with_parameters c as_) ty ≡ Some (type_at new r)
