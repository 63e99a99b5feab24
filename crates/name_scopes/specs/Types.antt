-- Types with the abbreviations of a `withtype` written out.
use Rattle.std.specs.Prelude.{◌≡◌, ℕ, List, is_some, nat_eq}
use Rattle.std.specs.Map.{lookup}
use Rattle.sml_tree.specs.BareTree.{TypeBind}
use Rattle.sml_tree.specs.Derived.{binding_of}

-- the names of these abbreviations, each with any number
abbrev pub AreNamed : List TypeBind → List (ℕ × ℕ) → Type 0
AreNamed bs names = (x : ℕ) → is_some (lookup (nat_eq x) names) ≡ is_some (binding_of x bs)
