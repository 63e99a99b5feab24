-- Lists with their serial numbers, and the numbers that they have.
use Rattle.std.specs.Prelude.{◌≡◌, ◌<◌, ◌≤◌, ℕ, Bool, false, ◌&&◌, List, [], ◌∷◌, ◌++◌, map, length, slice_get, get_or, Some, nat_eq, if◌then◌else◌}
use Rattle.std.specs.List.{list_any}
use Rattle.mono_sets.specs.declared.sets.Sets.{Sets}

abbrev pub lists_of : Sets → List (List ℕ)
lists_of s = map (λ l. l.items) s.lists.items

abbrev pub same_pair : ℕ × ℕ → ℕ × ℕ → Bool
same_pair a b = nat_eq a.0 b.0 && nat_eq a.1 b.1

-- last, if it isn't there
abbrev pub with_number : ℕ → List ℕ → List ℕ
with_number k l = if list_any (nat_eq k) l then l else l ++ k ∷ []

-- each list has a serial number of its own, below the next one; what the lists have is held under these, and nothing under those to come
pub record AreKept (lists : List (List ℕ)) (serials : List ℕ) (next : ℕ) (held : List (ℕ × ℕ)) : Type 0 where
  pub long : length serials ≡ length lists
  pub apart : (i j s : ℕ) → slice_get serials i ≡ Some s → slice_get serials j ≡ Some s → i ≡ j
  pub early : (i s : ℕ) → slice_get serials i ≡ Some s → s < next
  pub has : (i s k : ℕ) → slice_get serials i ≡ Some s → list_any (same_pair (s, k)) held ≡ list_any (nat_eq k) (get_or lists i [])
  pub none_yet : (s k : ℕ) → next ≤ s → list_any (same_pair (s, k)) held ≡ false

abbrev pub IsKept : Sets → Type 0
IsKept s = AreKept (lists_of s) s.serials.items s.next s.held.keys
