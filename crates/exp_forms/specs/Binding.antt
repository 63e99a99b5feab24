-- What is known of the variables of a pattern behind it.
use Rattle.std.specs.Prelude.{◌≡◌, ◌<◌, ◌≤◌, ℕ, Option, Some, None, ⊤}
use Rattle.std.specs.Map.{lookup}
use Rattle.ty_core.specs.Types.{Typ}
use Rattle.sml_tree.specs.declared.ident.Vid.{Vid}
use Rattle.core_rules.specs.Words.{same_vid}
use Rattle.core_rules.specs.Typing.{Bound, bound_in, AreDistinct}
use Rattle.ir_poly.specs.TestsChecked.{Knowns, at, of_type}
use Rattle.core_elab.specs.Scopes.{Denotes, variable, Scope, denotes_in}
use Rattle.elab_typed.specs.Contexts.{Around}
use Rattle.elab_typed.specs.Instances.{as_typed}

-- an identifier that has a type denotes a variable from the k-th on below the j-th, which is known by the type
abbrev pub IsKnown : Around → ℕ → ℕ → Knowns → Option Denotes → Option Typ → Type 0
IsKnown A k j G None None = ⊤
IsKnown A k j G (Some (variable n)) (Some t) = (k ≤ n) × ((n < j) × (at G n ≡ Some (of_type (as_typed A t))))
IsKnown A k j G d o = ⊥

-- what was known of the variables below the k-th stays
pub record Binding (A : Around) (k j : ℕ) (G new : Knowns) (vs : Bound) (r : Scope) : Type 0 where
  pub most : k ≤ j
  pub older : (n : ℕ) → n < k → at new n ≡ at G n
  pub known : AreDistinct (bound_in vs) → (x : Vid) → IsKnown A k j new (denotes_in r x) (lookup (same_vid x) vs)
