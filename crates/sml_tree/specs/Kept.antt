-- The directives that two tries keep: by age, the oldest at 1, and by identifier.
use Rattle.std.specs.Prelude.{◌≡◌, ◌<◌, ◌≤◌, ℕ, zero, suc, List, [], ◌∷◌, Option, Some, None}
use Rattle.sml_tree.specs.Fixity.{fix_of}
use Rattle.sml_tree.specs.Trie.{Trie, kept}
use Rattle.sml_tree.specs.VidNumber.{vid_number}
use Rattle.sml_tree.specs.declared.fixity.Infix.{Infix}
use Rattle.sml_tree.specs.declared.fixity.Directive.{Directive}
use Rattle.sml_tree.specs.declared.ident.Vid.{Vid}

abbrev pub before : Option Directive → List Directive → List Directive
before None ds = ds
before (Some d) ds = d ∷ ds

abbrev pub newest_first : Trie → ℕ → List Directive
newest_first t zero = []
newest_first t (suc n) = before (kept t (suc n)) (newest_first t n)

abbrev pub status_of : Option Directive → Option Infix
status_of None = None
status_of (Some d) = d.status

-- each age has a directive, and each identifier's newest one is that of the list
pub record Agrees (by_age by_vid : Trie) (count : ℕ) : Type 0 where
  pub aged : (n : ℕ) → 0 < n → n ≤ count → (d : Directive) × (kept by_age n ≡ Some d)
  pub newest : (v : Vid) → status_of (kept by_vid (vid_number v)) ≡ fix_of v (newest_first by_age count)
