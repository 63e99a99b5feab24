-- The context outside a declaration, while the state is inside: for the patterns of bindings that aren't generalised.
use Rattle.std.specs.Prelude.{◌-◌, ℕ, List, [], ◌∷◌, map, nat_eq, unwrap_or}
use Rattle.std.specs.Map.{lookup}
use Rattle.sml_tree.specs.declared.ident.Tyvar.{Tyvar}
use Rattle.elab_types.specs.Reading.{left_at}
use Rattle.elab_context.specs.declared.context.Context.{Context}
use Rattle.rec_groups.specs.of_dec_forms.Entries.{type_scope}

-- where so many type variables are in scope
abbrev pub outside : Context → ℕ → Context
outside D n = record D { types = type_scope (left_at n D.types.tyvars) D.types.types; level = D.level - 1 }

-- what type variables stand for
abbrev pub types_found : List (ℕ × ℕ) → List Tyvar → List ℕ
types_found tyvars = map (λ a. unwrap_or (lookup (nat_eq a.name) tyvars) 0)

-- they come into scope one after the other, each for its type
abbrev pub tyvars_onto : List (ℕ × ℕ) → List Tyvar → List ℕ → List (ℕ × ℕ)
tyvars_onto old (a ∷ as_) (k ∷ ks) = tyvars_onto ((a.name, k) ∷ old) as_ ks
tyvars_onto old [] ks = old
tyvars_onto old (a ∷ as_) [] = old
