-- Copies that have names of their own.
use Rattle.std.proofs.Common.{◌≡◌, ◌≢◌, AllPairs, ◌<◌, ◌≤◌, ◌+◌, ℕ, zero, suc, Bool, true, false, nat_eq, List, [], ◌∷◌, drop, length, Some, get_or, slice_get, refl, sym, ap, ◌∙◌, subst, arith}
use Rattle.std.proofs.lemmas.Bool.{eqb-true, eqb-false}
use Rattle.std.proofs.lemmas.List.{drop_more}
use Rattle.ty_table.specs.TypeAt.{AllBelow}
use Rattle.monomorphise.specs.Monomorphise.{is_same}
use Rattle.mono_names.specs.Named.{AreHeld, NamesAreOnce}
use Rattle.mono_names.specs.Numbers.{AreOnce}
use Rattle.mono_read.specs.of_mono_state.Seen.{Held, name_in}
use Rattle.mono_number.specs.Moves.{AreWithin}
use Rattle.mono_number.proofs.Heads.{all-behind}

pub below-next : (limit : ℕ) (ns : List ℕ) (i d : ℕ) → i < length ns → get_or ns i d < limit → (AllBelow limit (drop i ns) → AllBelow limit ns) → AllBelow limit (drop (i + 1) ns) → AllBelow limit ns
below-next limit ns i d lt b h rest = h (subst (AllBelow limit) (sym (drop_more ns i d lt)) (b, rest))

pub below-done : (limit : ℕ) (ns : List ℕ) (i : ℕ) → length ns ≤ i → (AllBelow limit (drop i ns) → AllBelow limit ns) → AllBelow limit ns
below-done limit ns i le h = h (subst (AllBelow limit) (sym (all-behind ns i le)) tt)

some-pair : {A : Type 0} {x y : A} → Some x ≡ Some y → x ≡ y
some-pair e = cc

get-there : {A : Type 0} (xs : List A) (i : ℕ) (d x : A) → slice_get xs i ≡ Some x → (get_or xs i d ≡ x) × (i < length xs)
get-there [] i d x e = absurd (cc)
get-there (y ∷ xs) zero d x e = (some-pair e, omega arith)
get-there (y ∷ xs) (suc i) d x e = let r = get-there xs i d x e in let l = r.1 in (r.0, omega (arith, l))

pub within-next : (limit : ℕ) (cs : List (ℕ × ℕ)) (i : ℕ) (c : ℕ × ℕ) → slice_get cs i ≡ Some c → c.1 < limit → (AreWithin limit (drop i cs) → AreWithin limit cs) → AreWithin limit (drop (i + 1) cs) → AreWithin limit cs
within-next limit cs i c s b h rest =
    let r = get-there cs i (0, 0) c s in
    h (subst (AreWithin limit) (sym (drop_more cs i (0, 0) r.1)) (subst (λ (c : ℕ × ℕ). c.1 < limit) (sym r.0) b, rest))

pub within-done : (limit : ℕ) (cs : List (ℕ × ℕ)) (i : ℕ) → length cs ≤ i → (AreWithin limit (drop i cs) → AreWithin limit cs) → AreWithin limit cs
within-done limit cs i le h = h (subst (AreWithin limit) (sym (all-behind cs i le)) tt)

there : {A : Type 0} (xs : List A) (i : ℕ) (d : A) → i < length xs → slice_get xs i ≡ Some (get_or xs i d)
there [] i d lt = absurd (omega (arith, lt))
there (x ∷ xs) zero d lt = refl
there (x ∷ xs) (suc i) d lt = there xs i d (omega (arith, lt))

within-at : (limit : ℕ) (cs : List (ℕ × ℕ)) (i : ℕ) (d : ℕ × ℕ) → i < length cs → AreWithin limit cs → (get_or cs i d).1 < limit
within-at limit [] i d lt h = absurd (omega (arith, lt))
within-at limit (c ∷ cs) zero d lt h = h.0
within-at limit (c ∷ cs) (suc i) d lt h = within-at limit cs i d (omega (arith, lt)) h.1

pub copies-apart : (H : Held) → NamesAreOnce → AllPairs (λ t u. t ≢ u) H.types → AreOnce H.lists → AreOnce H.copies → AreHeld (length H.types) H.lists → AreWithin (length H.lists) H.copies
    → (n m : ℕ) → n < length H.copies → m < length H.copies → is_same (name_in H n) (name_in H m) ≡ true → n ≡ m
copies-apart H law ts ls cs held within n m ln lm e =
    let c = get_or H.copies n (0, 0) in
    let d = get_or H.copies m (0, 0) in
    let same : c ≡ d = law H.types H.lists c d ts ls held (within-at (length H.lists) H.copies n (0, 0) ln within) (within-at (length H.lists) H.copies m (0, 0) lm within) e in
    cs n m c (there H.copies n (0, 0) ln) (there H.copies m (0, 0) lm ∙ ap Some (sym same))

below : (k i : ℕ) → k < i + 1 → (k ≡ i → ⊥) → k < i
below zero zero lt h = absurd (h refl)
below zero (suc i) lt h = omega arith
below (suc k) zero lt h = absurd (omega (arith, lt))
below (suc k) (suc i) lt h = let r = below k i (omega (arith, lt)) (λ e. h (ap suc e)) in omega (arith, r)

pub held-next : (limit : ℕ) (ls : List (List ℕ)) (i : ℕ) (l : List ℕ) → slice_get ls i ≡ Some l → AllBelow limit l → ((k : ℕ) (m : List ℕ) → k < i → slice_get ls k ≡ Some m → AllBelow limit m)
    → (k : ℕ) (m : List ℕ) → k < i + 1 → slice_get ls k ≡ Some m → AllBelow limit m
held-next limit ls i l s b h k m lt e = by (nat_eq k i) refl
  where
    by : (t : Bool) → nat_eq k i ≡ t → AllBelow limit m
    by true q = let same = eqb-true k i q in subst (AllBelow limit) (some-pair (sym s ∙ sym (ap (slice_get ls) same) ∙ e)) b
    by false q = h k m (below k i lt (eqb-false k i q)) e
