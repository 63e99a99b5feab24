-- What a scope of the code tells of a context of the rules, where f says what variables of types stand for.
use Rattle.std.specs.Prelude.{◌≡◌, ◌<◌, ◌≤◌, ◌-◌, ℕ, true, List, [], ◌∷◌, length, drop, nat_eq, Option, Some, None, option_map}
use Rattle.std.specs.List.{AllByRecursion}
use Rattle.std.specs.Map.{lookup}
use Rattle.ty_core.specs.Types.{Typ}
use Rattle.ty_core.specs.Statics.{TypeFunction, replace}
use Rattle.ty_table.specs.TypeAt.{type_at, top}
use Rattle.ty_instance.specs.of_ty_solve.Substitution.{is_below}
use Rattle.core_rules.specs.Objects.{at, Context}
use Rattle.core_rules.specs.Elaborated.{type_in}
use Rattle.elab_types.specs.declared.scope.TypeEntry.{TypeEntry}
use Rattle.elab_types.specs.declared.scope.TypeScope.{TypeScope}

-- what a long type constructor stands for
abbrev pub entry_of : TypeScope → List ℕ → ℕ → Option TypeEntry
entry_of s [] x = lookup (nat_eq x) s.types
entry_of s (q ∷ qs) x = None

abbrev pub function_in : List Typ → TypeEntry → TypeFunction
function_in ts e = record { arity = e.arity; body = type_at ts e.body }

-- type variables and type constructors of c are those of the scope
pub record Reads (ts : List Typ) (s : TypeScope) (f : ℕ → Typ) (c : Context) : Type 0 where
  pub tyvars : (a : ℕ) → at nat_eq c.tyvars a ≡ option_map (λ k. replace f (type_at ts k)) (lookup (nat_eq a) s.tyvars)
  pub types : (qs : List ℕ) (x : ℕ) → option_map (λ y. y.function) (type_in c.env qs x) ≡ option_map (function_in ts) (entry_of s qs x)

-- the table has what the scope speaks of, and bodies of type functions have no variables but their parameters
pub record Holds (ts : List Typ) (s : TypeScope) : Type 0 where
  pub tyvars : AllByRecursion (λ b. b.1 < length ts) s.tyvars
  pub bodies : AllByRecursion (λ b. b.1.body < length ts) s.types
  pub closed : AllByRecursion (λ b. top (type_at ts b.1.body) ≤ b.1.arity) s.types

-- the variables of the types in scope are below n
abbrev pub AreKnown : ℕ → List Typ → TypeScope → Type 0
AreKnown n ts s = AllByRecursion (λ b. is_below n (type_at ts b.1) ≡ true) s.tyvars

-- what is left of a list when the bindings since a mark are left
abbrev pub left_at : {A : Type 0} → ℕ → List A → List A
left_at n xs = drop (length xs - n) xs
