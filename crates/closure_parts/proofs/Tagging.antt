-- Tags that are found by hash.
use Rattle.std.proofs.Common.{◌≡◌, ℕ, zero, suc, ◌+◌, ◌<◌, ◌≤◌, Bool, true, false, ◌||◌, ◌&&◌, List, [], ◌∷◌, ◌++◌, drop, length, get_or, Option, Some, unwrap_or, nat_eq, if◌then◌else◌, Vec, Global, refl, sym, ap, ap₂, ◌∙◌, arith}
use Rattle.std.proofs.lemmas.List.{drop_more}
use Rattle.std.specs.Option.{is_some}
use Rattle.std.specs.List.{concat}
use Rattle.std.specs.Map.{lookup}
use Rattle.flow_sets.specs.Member.{is_in}
use Rattle.closure_convert.specs.Scope.{index_of}
use Rattle.flow_types.specs.Kinds.{items_of}
use Rattle.flow_types.specs.of_closure_whole.Tags.{stand_once, place_in, tag_by}
use Rattle.closure_parts.specs.declared.tags.Tags.{Tags}
use Rattle.closure_parts.specs.Tagged.{tag_in, placed, ArePlaced}
use Rattle.closure_parts.proofs.Finding.{flip}
use Rattle.closure_parts.proofs.Putting.{all-behind}

-- the place of a function among these, of which the first has the place i, or else in sets
abbrev pub placed_from : (i : ℕ) → List ℕ → List (List ℕ) → ℕ → Option ℕ
placed_from i ks sets k = if is_in k ks then Some (i + index_of k ks) else placed sets k

in-both : (k : ℕ) (xs ys : List ℕ) → is_in k (xs ++ ys) ≡ (is_in k xs || is_in k ys)
in-both k [] ys = refl
in-both k (x ∷ xs) ys = ap (λ b. nat_eq k x || b) (in-both k xs ys) ∙ grouped (nat_eq k x)
  where
    grouped : (a : Bool) → (a || (is_in k xs || is_in k ys)) ≡ ((a || is_in k xs) || is_in k ys)
    grouped true = refl
    grouped false = refl

either : (b c : Bool) (i : ℕ) (o : Option ℕ) → is_some o ≡ c → is_some (if b then Some i else o) ≡ (b || c)
either true c i o h = refl
either false c i o h = h

placed-somewhere : (sets : List (List ℕ)) (k : ℕ) → is_some (placed sets k) ≡ is_in k (concat sets)
placed-somewhere [] k = refl
placed-somewhere (s ∷ sets) k = either (is_in k s) (is_in k (concat sets)) (index_of k s) (placed sets k) (placed-somewhere sets k) ∙ sym (in-both k s (concat sets))

from-somewhere : (i : ℕ) (ks : List ℕ) (sets : List (List ℕ)) (k : ℕ) → is_some (placed_from i ks sets k) ≡ is_in k (ks ++ concat sets)
from-somewhere i ks sets k = either (is_in k ks) (is_in k (concat sets)) (i + index_of k ks) (placed sets k) (placed-somewhere sets k) ∙ sym (in-both k ks (concat sets))

-- One function more, in front of those of its set

one-more : (n i k : ℕ) (r : List ℕ) (sets : List (List ℕ)) (b : Bool) (o : Option ℕ) → n ≡ i + 1 → o ≡ placed_from n r sets k
    → (if b then Some i else o) ≡ (if b || is_in k r then Some (i + (if b then zero else suc (index_of k r))) else placed sets k)
one-more n i k r sets true o m h = ap Some (let e : i ≡ i + 0 = omega arith in e)
one-more n i k r sets false o m h = h ∙ ap (λ j. if is_in k r then Some j else placed sets k) (let e : n + index_of k r ≡ i + suc (index_of k r) = omega (arith, m) in e)

new-or-not : (a b c s t : Bool) → b ≡ c → (a && s) ≡ t → ((if b then false else a) && s) ≡ (if c then false else t)
new-or-not a true true s t e h = refl
new-or-not a true false s t e h = absurd (cc)
new-or-not a false true s t e h = absurd (cc)
new-or-not a false false s t e h = h

module _ (set : List ℕ) (n i x d : ℕ) (m : n ≡ i + 1) (lt : i < length set) (is : x ≡ get_or set i d) where
  left : drop i set ≡ x ∷ drop n set
  left = drop_more set i d lt ∙ ap₂ (λ y j. y ∷ drop j set) (sym is) (sym m)

  pub place-next : (now new : List (ℕ × ℕ)) (sets : List (List ℕ)) → ((q : ℕ) → lookup (nat_eq q) new ≡ (if nat_eq x q then Some i else lookup (nat_eq q) now))
      → ((k : ℕ) → lookup (nat_eq k) now ≡ placed_from n (drop n set) sets k) → (k : ℕ) → lookup (nat_eq k) new ≡ placed_from i (drop i set) sets k
  place-next now new sets put inv k =
      put k ∙ ap (λ (b : Bool). if b then Some i else lookup (nat_eq k) now) (flip x k)
      ∙ one-more n i k (drop n set) sets (nat_eq k x) (lookup (nat_eq k) now) m (inv k)
      ∙ ap (λ l. placed_from i l sets k) (sym left)

  pub once-next : (now : List (ℕ × ℕ)) (sets : List (List ℕ)) (old : Option ℕ) (a b : Bool) → old ≡ lookup (nat_eq x) now → b ≡ is_some old
      → ((k : ℕ) → lookup (nat_eq k) now ≡ placed_from n (drop n set) sets k) → (a && stand_once (concat sets)) ≡ stand_once (drop n set ++ concat sets)
      → ((if b then false else a) && stand_once (concat sets)) ≡ stand_once (drop i set ++ concat sets)
  once-next now sets old a b h e inv once =
      new-or-not a b (is_in x (drop n set ++ concat sets)) (stand_once (concat sets)) (stand_once (drop n set ++ concat sets))
      (e ∙ ap is_some (h ∙ inv x) ∙ from-somewhere n (drop n set) sets x) once
      ∙ ap (λ l. stand_once (l ++ concat sets)) (sym left)

pub places-none : (set : List ℕ) (n : ℕ) (now : List (ℕ × ℕ)) (sets : List (List ℕ)) → length set ≤ n → ArePlaced now sets → (k : ℕ) → lookup (nat_eq k) now ≡ placed_from n (drop n set) sets k
places-none set n now sets h p k = p k ∙ ap (λ l. placed_from n l sets k) (sym (all-behind set n h))

pub once-none : (set : List ℕ) (n : ℕ) (sets : List (List ℕ)) → length set ≤ n → (true && stand_once (concat sets)) ≡ stand_once (drop n set ++ concat sets)
once-none set n sets h = ap (λ l. stand_once (l ++ concat sets)) (sym (all-behind set n h))

pub places-all : (set : List ℕ) (n : ℕ) (now : List (ℕ × ℕ)) (sets : List (List ℕ)) → n ≡ 0 → ((k : ℕ) → lookup (nat_eq k) now ≡ placed_from n (drop n set) sets k) → ArePlaced now (set ∷ sets)
places-all set n now sets z inv k =
    inv k ∙ ap (λ j. placed_from j (drop j set) sets k) z ∙ ap (λ j. if is_in k set then Some j else placed sets k) (let e : 0 + index_of k set ≡ index_of k set = omega arith in e)

pub once-all : (set : List ℕ) (n : ℕ) (sets : List (List ℕ)) (a : Bool) → n ≡ 0 → (a && stand_once (concat sets)) ≡ stand_once (drop n set ++ concat sets) → (a && stand_once (concat sets)) ≡ stand_once (concat (set ∷ sets))
once-all set n sets a z inv = inv ∙ ap (λ j. stand_once (drop j set ++ concat sets)) z

-- One set more, in front of others

pub sets-left : (sets : List (Vec ℕ Global)) (n i : ℕ) (s d : Vec ℕ Global) (ks : List ℕ) → n ≡ i + 1 → i < length sets → s ≡ get_or sets i d → ks ≡ s.items → ks ∷ items_of (drop n sets) ≡ items_of (drop i sets)
sets-left sets n i s d ks m lt is k = ap₂ (λ l j. l ∷ items_of (drop j sets)) (k ∙ ap (λ v. v.items) is) m ∙ sym (ap items_of (drop_more sets i d lt))

pub sets-none : (sets : List (Vec ℕ Global)) (n : ℕ) → length sets ≤ n → [] ≡ items_of (drop n sets)
sets-none sets n h = sym (ap items_of (all-behind sets n h))

-- All sets

placed-place : (sets : List (List ℕ)) (k : ℕ) → unwrap_or (placed sets k) k ≡ place_in sets k
placed-place [] k = refl
placed-place (s ∷ sets) k = by (is_in k s) (placed-place sets k)
  where
    by : (b : Bool) → unwrap_or (placed sets k) k ≡ place_in sets k → unwrap_or (if b then Some (index_of k s) else placed sets k) k ≡ (if b then index_of k s else place_in sets k)
    by true h = refl
    by false h = h

pub tags-all : (tags : Tags) (sets all : List (List ℕ)) → sets ≡ all → ArePlaced tags.places.entries sets → tags.once ≡ stand_once (concat sets) → (k : ℕ) → tag_in tags k ≡ tag_by all k
tags-all tags sets all e p o k = ap₂ (λ (b : Bool) v. if b then v else k) o (ap (λ v. unwrap_or v k) (p k) ∙ placed-place sets k) ∙ ap (λ l. tag_by l k) e
