-- Names that are found by hash.
use Rattle.std.proofs.Common.{◌≡◌, ℕ, ◌+◌, ◌<◌, ◌≤◌, Bool, true, false, List, [], ◌∷◌, map, drop, length, get_or, Option, Some, if◌then◌else◌, nat_eq, unwrap_or, refl, sym, ap, ap₂, ◌∙◌}
use Rattle.std.proofs.lemmas.List.{drop_more}
use Rattle.std.specs.Map.{lookup}
use Rattle.flow_sets.specs.ByType as by
use Rattle.flow_sets.specs.ByType.{bound_in}
use Rattle.flow_types.specs.of_closure_whole.Converted.{bound_as_name, names_exception}
use Rattle.mono_bound.specs.declared.bound.What.{What}
use Rattle.mono_bound.specs.declared.bound.What.TheVariants as what
use Rattle.mono_bound.specs.declared.bound.Bound.{Bound}
use Rattle.mono_bound.specs.Bound.{what_of, bound_of}
use Rattle.closure_parts.specs.Named.{is_of_name, name_in, AreNames}
use Rattle.closure_parts.proofs.Finding.{flip}
use Rattle.closure_parts.proofs.Putting.{all-behind}

name-is : (w : What) → is_of_name w ≡ names_exception (what_of w)
name-is (what.Value t) = refl
name-is what.Name = refl
name-is (what.Parameter f) = refl

pub names-none : (found : List Bound) (n : ℕ) (names : List (ℕ × Bool)) → length found ≤ n → names ≡ [] → AreNames names (map bound_of (drop n found))
names-none found n names h e x = ap (λ l. name_in l x) e ∙ ap (λ l. bound_as_name (bound_in x (map bound_of l))) (sym (all-behind found n h))

found-by : (c : Bool) (i : Bool) (o : Option Bool) (b : by.Bound) (q : Option by.Bound) → i ≡ names_exception b.what → unwrap_or o false ≡ bound_as_name q → unwrap_or (if c then Some i else o) false ≡ bound_as_name (if c then Some b else q)
found-by true i o b q h k = h
found-by false i o b q h k = k

pub names-next : (found : List Bound) (n i : ℕ) (b d : Bound) (is : Bool) (now new : List (ℕ × Bool)) → n ≡ i + 1 → i < length found → b ≡ get_or found i d → is ≡ is_of_name b.what
    → ((q : ℕ) → lookup (nat_eq q) new ≡ (if nat_eq b.variable q then Some is else lookup (nat_eq q) now)) → AreNames now (map bound_of (drop n found)) → AreNames new (map bound_of (drop i found))
names-next found n i b d is now new m lt at h put inv x =
    ap (λ o. unwrap_or o false) (put x ∙ ap (λ (c : Bool). if c then Some is else lookup (nat_eq x) now) (flip b.variable x))
    ∙ found-by (nat_eq x b.variable) is (lookup (nat_eq x) now) (bound_of b) (bound_in x (map bound_of (drop n found))) (h ∙ name-is b.what) (inv x)
    ∙ ap (λ l. bound_as_name (bound_in x (map bound_of l))) (ap₂ (λ y j. y ∷ drop j found) at m ∙ sym (drop_more found i d lt))

pub names-all : (found : List Bound) (n : ℕ) (names : List (ℕ × Bool)) → n ≡ 0 → AreNames names (map bound_of (drop n found)) → AreNames names (map bound_of found)
names-all found n names z inv x = inv x ∙ ap (λ k. bound_as_name (bound_in x (map bound_of (drop k found)))) z
