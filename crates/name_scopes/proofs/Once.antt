-- Identifiers that are in a list twice.
use Rattle.std.proofs.Common.{◌≡◌, ◌<◌, ◌≤◌, ◌-◌, ℕ, zero, suc, Bool, true, false, not, ◌&&◌, ◌||◌, cond, List, [], ◌∷◌, ◌++◌, length, drop, filter, get_or, Option, Some, refl, sym, ap, subst, ◌∙◌, arith}
use Rattle.std.specs.List.{list_all}
use Rattle.std.specs.Prelude.{is_some}
use Rattle.sml_tree.specs.declared.ident.Vid.{Vid}
use Rattle.core_rules.specs.Restrictions.{distinct, is_kept}
use Rattle.core_rules.specs.Words.{is_in, same_vid}
use Rattle.vid_scope.specs.Entries.{HasLatest, entry_of}
use Rattle.vid_scope.specs.declared.vids.VidScope.{VidScope}
use Rattle.name_scopes.specs.Bindings.{are_proper}
use Rattle.name_scopes.specs.Covering.{is_written}
use Rattle.name_scopes.proofs.Pushing.{Added}

-- those from the i-th on were seen
pub record Seen (xs : List Vid) (i : ℕ) (seen : VidScope Bool) : Type 0 where
  pub most : i ≤ length xs
  pub is : (x : Vid) → is_some (entry_of seen x) ≡ is_in same_vid x (drop i xs)

drop-one : {A : Type 0} (xs : List A) (i : ℕ) (d : A) → i < length xs → drop i xs ≡ get_or xs i d ∷ drop (suc i) xs
drop-one [] i d lt = absurd (omega arith)
drop-one (x ∷ xs) zero d lt = refl
drop-one (x ∷ xs) (suc i) d lt = drop-one xs i d (omega arith)

now-seen : (b c : Bool) (o : Option Bool) → is_some o ≡ c → is_some (cond b (Some true) o) ≡ (b || c)
now-seen true c o h = refl
now-seen false c o h = h

one-more : (xs : List Vid) (i : ℕ) (y : Vid) (old new : VidScope Bool) → i < length xs → Seen xs (suc i) old → y ≡ get_or xs i y → HasLatest old y true new → Seen xs i new
one-more xs i y old new lt s e l =
    let d : drop i xs ≡ y ∷ drop (suc i) xs = drop-one xs i y lt ∙ ap (λ (z : Vid). z ∷ drop (suc i) xs) (sym e) in
    record {
      most = omega (arith, lt);
      is = λ x. ap is_some (l x) ∙ now-seen (same_vid x y) (is_in same_vid x (drop (suc i) xs)) (entry_of old x) (s.is x) ∙ sym (ap (λ l. is_in same_vid x l) d);
    }

and-false : (a b : Bool) → b ≡ false → (a && b) ≡ false
and-false true b h = h
and-false false b h = refl

later-twice : (xs : List Vid) (i : ℕ) → distinct same_vid (drop i xs) ≡ false → distinct same_vid xs ≡ false
later-twice xs zero h = h
later-twice [] (suc i) h = h
later-twice (x ∷ xs) (suc i) h = and-false (not (is_in same_vid x xs)) (distinct same_vid xs) (later-twice xs i h)

seen-twice : (xs : List Vid) (i : ℕ) (y : Vid) (seen : VidScope Bool) → i < length xs → Seen xs (suc i) seen → y ≡ get_or xs i y → is_some (entry_of seen y) ≡ true
    → distinct same_vid xs ≡ false
seen-twice xs i y seen lt s e h =
    let d : drop i xs ≡ y ∷ drop (suc i) xs = drop-one xs i y lt ∙ ap (λ (z : Vid). z ∷ drop (suc i) xs) (sym e) in
    later-twice xs i
    (ap (distinct same_vid) d ∙ ap (λ c. not c && distinct same_vid (drop (suc i) xs)) (sym (s.is y) ∙ h))

-- where the loop has come to the n-th

pub one-more-at : (xs : List Vid) (n : ℕ) (y : Vid) (old new : VidScope Bool) → 0 < n → Seen xs n old → y ≡ get_or xs (n - 1) y → HasLatest old y true new → Seen xs (n - 1) new
one-more-at xs n y old new lt s e l =
    let up : n ≡ suc (n - 1) = omega (arith, lt) in
    let le = s.most in
    one-more xs (n - 1) y old new (omega (arith, lt, le)) (subst (λ k. Seen xs k old) up s) e l

pub seen-twice-at : (xs : List Vid) (n : ℕ) (y : Vid) (seen : VidScope Bool) → 0 < n → Seen xs n seen → y ≡ get_or xs (n - 1) y → is_some (entry_of seen y) ≡ true
    → distinct same_vid xs ≡ false
seen-twice-at xs n y seen lt s e h =
    let up : n ≡ suc (n - 1) = omega (arith, lt) in
    let le = s.most in
    seen-twice xs (n - 1) y seen (omega (arith, lt, le)) (subst (λ k. Seen xs k seen) up s) e h

-- What is twice, or fails, among those that a program can name is so among all of them.

or-right : (a b : Bool) → b ≡ true → (a || b) ≡ true
or-right true b h = refl
or-right false b h = h

or-more : (a b c : Bool) → (b ≡ true → c ≡ true) → (a || b) ≡ true → (a || c) ≡ true
or-more true b c f h = refl
or-more false b c f h = f h

and-more : (a b c : Bool) → (b ≡ false → c ≡ false) → (a && b) ≡ false → (a && c) ≡ false
and-more true b c f h = f h
and-more false b c f h = refl

not-more : (a b c d : Bool) → (a ≡ true → b ≡ true) → (c ≡ false → d ≡ false) → (not a && c) ≡ false → (not b && d) ≡ false
not-more true b c d f g h = ap (λ (z : Bool). not z && d) (f refl)
not-more false b c d f g h = and-false (not b) d (g h)

module _ (p : Vid → Bool) where
  filter-in : (x : Vid) (xs : List Vid) → is_in same_vid x (filter p xs) ≡ true → is_in same_vid x xs ≡ true
  filter-in x [] h = h
  filter-in x (y ∷ ys) h = by (p y) (filter-in x ys) h
    where
      by : (b : Bool) → (is_in same_vid x (filter p ys) ≡ true → is_in same_vid x ys ≡ true)
          → is_in same_vid x (cond b (y ∷ filter p ys) (filter p ys)) ≡ true → (same_vid x y || is_in same_vid x ys) ≡ true
      by true f h = or-more (same_vid x y) _ _ f h
      by false f h = or-right (same_vid x y) _ (f h)

  filter-twice : (xs : List Vid) → distinct same_vid (filter p xs) ≡ false → distinct same_vid xs ≡ false
  filter-twice [] h = h
  filter-twice (y ∷ ys) h = by (p y) (filter-twice ys) h
    where
      by : (b : Bool) → (distinct same_vid (filter p ys) ≡ false → distinct same_vid ys ≡ false)
          → distinct same_vid (cond b (y ∷ filter p ys) (filter p ys)) ≡ false → (not (is_in same_vid y ys) && distinct same_vid ys) ≡ false
      by true f h = not-more (is_in same_vid y (filter p ys)) (is_in same_vid y ys) _ _ (filter-in y ys) f h
      by false f h = and-false (not (is_in same_vid y ys)) _ (f h)

  filter-fails : (q : Vid → Bool) (xs : List Vid) → list_all q (filter p xs) ≡ false → list_all q xs ≡ false
  filter-fails q [] h = h
  filter-fails q (y ∷ ys) h = by (p y) (filter-fails q ys) h
    where
      by : (b : Bool) → (list_all q (filter p ys) ≡ false → list_all q ys ≡ false)
          → list_all q (cond b (y ∷ filter p ys) (filter p ys)) ≡ false → (q y && list_all q ys) ≡ false
      by true f h = and-more (q y) _ _ f h
      by false f h = and-false (q y) _ (f h)

-- the identifiers that were added to a list with nothing in it
added-are : (none got vs xs : List Vid) → none ≡ [] → vs ≡ got → Added none got xs → vs ≡ filter is_written xs
added-are none got vs xs n s a = s ∙ a ∙ ap (λ l. l ++ filter is_written xs) n

pub added-twice : (none got vs xs : List Vid) → none ≡ [] → vs ≡ got → Added none got xs → distinct same_vid vs ≡ false → distinct same_vid xs ≡ false
added-twice none got vs xs n s a h = filter-twice is_written xs (ap (distinct same_vid) (sym (added-are none got vs xs n s a)) ∙ h)

pub added-kept : (none got vs ws xs : List Vid) → none ≡ [] → vs ≡ got → Added none got xs → list_all (λ x. not (is_kept x)) vs ≡ false → are_proper ws xs ≡ false
added-kept none got vs ws xs n s a h =
    and-false (distinct same_vid (ws ++ xs)) _
    (filter-fails is_written (λ x. not (is_kept x)) xs (ap (list_all (λ x. not (is_kept x))) (sym (added-are none got vs xs n s a)) ∙ h))

pub twice-broken : (vs ws : List Vid) → distinct same_vid (vs ++ ws) ≡ false → are_proper vs ws ≡ false
twice-broken vs ws h = ap (λ b. b && list_all (λ x. not (is_kept x)) ws) h
