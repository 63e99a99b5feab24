-- What identifiers have in a scope, the latest binding first.
use Rattle.std.specs.Prelude.{◌≡◌, ◌≤◌, ◌-◌, ℕ, List, [], ◌∷◌, length, drop, Option, Some, nat_eq, if◌then◌else◌}
use Rattle.std.specs.Map.{lookup}
use Rattle.sml_tree.specs.declared.ident.Vid.{Vid}
use Rattle.sml_tree.specs.declared.ident.Vid.TheVariants.{Named, Equals, Fresh}
use Rattle.core_rules.specs.Words.{same_vid}
use Rattle.vid_scope.specs.declared.vids.VidMark.{VidMark}
use Rattle.vid_scope.specs.declared.vids.VidScope.{VidScope}

-- what a list keeps of its first so many bindings
abbrev pub left_of : {A : Type 0} → List A → ℕ → List A
left_of xs n = drop (length xs - n) xs

module _ {V : Type 0} where
  -- the value of an identifier
  abbrev pub entry_of : VidScope V → Vid → Option V
  entry_of s (Named x) = lookup (nat_eq x) s.named
  entry_of s (Fresh k) = lookup (nat_eq k) s.fresh
  entry_of s Equals = lookup (nat_eq 0) s.equals

  -- with one more binding
  abbrev pub with_entry : VidScope V → Vid → V → VidScope V
  with_entry s (Named x) v = record s { named = (x, v) ∷ s.named }
  with_entry s (Fresh k) v = record s { fresh = (k, v) ∷ s.fresh }
  with_entry s Equals v = record s { equals = (0, v) ∷ s.equals }

  -- with several, the last of them last
  abbrev pub with_entries : VidScope V → List (Vid × V) → VidScope V
  with_entries s [] = s
  with_entries s (b ∷ bs) = with_entries (with_entry s b.0 b.1) bs

  abbrev pub mark_of : VidScope V → VidMark
  mark_of s = record { named = length s.named; fresh = length s.fresh; equals = length s.equals }

  -- with the bindings that there were at a mark
  abbrev pub left : VidScope V → VidMark → VidScope V
  left s m = record { named = left_of s.named m.named; fresh = left_of s.fresh m.fresh; equals = left_of s.equals m.equals }

  -- the latest value is found, and what other identifiers have stays
  abbrev pub HasLatest : VidScope V → Vid → V → VidScope V → Type 0
  HasLatest old x v new = (y : Vid) → entry_of new y ≡ (if same_vid y x then Some v else entry_of old y)

  -- what was in scope at the mark is there again, whatever came into scope since
  abbrev pub Undoes : VidScope V → VidMark → VidScope V → Type 0
  Undoes old m new = (s : VidScope V) (bs : List (Vid × V)) → m ≡ mark_of s → old ≡ with_entries s bs → new ≡ s
