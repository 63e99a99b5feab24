-- Loops along labels, types of a table and slots.
use Rattle.std.proofs.Common.{◌≡◌, ◌<◌, ◌≤◌, ◌+◌, ◌-◌, ℕ, zero, suc, Bool, true, false, ◌&&◌, nat_lt, List, [], ◌∷◌, length, take, get_or, refl, sym, ap, ap₂, subst, ◌∙◌, arith}
use Rattle.std.proofs.lemmas.Bool.{and_from, and_parts, ltb-true, ltb-false}
use Rattle.std.proofs.lemmas.Option.{get_or_from_slice_get, slice_get-get_or}
use Rattle.mlc_names.specs.declared.label.Label.{Label}
use Rattle.ty_core.specs.Types.{Symbol, Typ, con}
use Rattle.ty_table.specs.TypeAt.{type_at, types_at, AllBelow}
use Rattle.ty_solve.specs.SlotsOf.{entry_of, seen}
use Rattle.ty_solve.specs.declared.subst.Slot.{Slot}
use Rattle.label_rows.specs.Order.{label_before}
use Rattle.ir_poly.specs.Types.{ascend}
use Rattle.elab_steps.specs.Ordered.{begins_in_order, is_ordered, are_ordered}
use Rattle.elab_worlds.specs.Final.{is_row}

-- labels

ascend-at : (ls : List Label) (i : ℕ) (d : Label) → suc i < length ls → ascend ls ≡ true → label_before (get_or ls i d) (get_or ls (suc i) d) ≡ true
ascend-at [] i d lt e = absurd (omega arith)
ascend-at (x ∷ []) i d lt e = absurd (omega arith)
ascend-at (x ∷ y ∷ ls) zero d lt e = (and_parts (label_before x y) (ascend (y ∷ ls)) e).0
ascend-at (x ∷ y ∷ ls) (suc i) d lt e = ascend-at (y ∷ ls) i d (omega arith) (and_parts (label_before x y) (ascend (y ∷ ls)) e).1

each-ascends : (ls : List Label) → ((i : ℕ) (d : Label) → suc i < length ls → label_before (get_or ls i d) (get_or ls (suc i) d) ≡ true) → ascend ls ≡ true
each-ascends [] h = refl
each-ascends (x ∷ []) h = refl
each-ascends (x ∷ y ∷ ls) h = ap₂ (λ a b. a && b) (h 0 x (omega arith)) (each-ascends (y ∷ ls) (λ i d lt. h (suc i) d (omega arith)))

pub ascends-whole : (ls : List Label) → ((k : ℕ) (d : Label) → k + 1 < length ls → label_before (get_or ls k d) (get_or ls (k + 1) d) ≡ true) → true ≡ ascend ls
ascends-whole ls h =
    sym (each-ascends ls (λ i d lt. let s : i + 1 ≡ suc i = omega arith in subst (λ j. label_before (get_or ls i d) (get_or ls j d) ≡ true) s (h i d (omega arith))))

same-read : {A : Type 0} (xs : List A) (i : ℕ) (x y : A) → i < length xs → get_or xs i x ≡ get_or xs i y
same-read xs i x y lt = get_or_from_slice_get xs i (get_or xs i y) x (slice_get-get_or xs i y lt)

pub not-ascending : (ls : List Label) (i : ℕ) (x y : Label) → 1 ≤ i → i < length ls → label_before (get_or ls (i - 1) x) (get_or ls i y) ≡ false → false ≡ ascend ls
not-ascending ls i x y ge lt h = by (ascend ls) refl
  where
    by : (b : Bool) → ascend ls ≡ b → false ≡ b
    by true e =
        let s : suc (i - 1) ≡ i = omega arith in
        let at = ascend-at ls (i - 1) x (omega arith) e in
        let second : get_or ls i y ≡ get_or ls (suc (i - 1)) x = sym (ap (λ j. get_or ls j x) s ∙ same-read ls i x y lt) in
        let found : label_before (get_or ls (i - 1) x) (get_or ls i y) ≡ true = ap (λ b. label_before (get_or ls (i - 1) x) b) second ∙ at in
        absurd (cc)
    by false e = refl

-- numbers

below-next : (n : ℕ) (ks : List ℕ) (i d : ℕ) → i < length ks → get_or ks i d < n → AllBelow n (take i ks) → AllBelow n (take (suc i) ks)
below-next n [] i d lt b h = absurd (omega (arith, lt))
below-next n (k ∷ ks) zero d lt b h = (b, tt)
below-next n (k ∷ ks) (suc i) d lt b h = (h.0, below-next n ks i d (omega (arith, lt)) b h.1)

pub below-more : (n : ℕ) (ks : List ℕ) (i d : ℕ) → i < length ks → get_or ks i d < n → AllBelow n (take i ks) → AllBelow n (take (i + 1) ks)
below-more n ks i d lt b h = let s : suc i ≡ i + 1 = omega arith in subst (λ j. AllBelow n (take j ks)) s (below-next n ks i d lt b h)

take-all : {A : Type 0} (xs : List A) (i : ℕ) → length xs ≤ i → take i xs ≡ xs
take-all [] zero le = refl
take-all [] (suc i) le = refl
take-all (x ∷ xs) zero le = absurd (omega (arith, le))
take-all (x ∷ xs) (suc i) le = ap (λ l. x ∷ l) (take-all xs i (omega (arith, le)))

pub all-below : (n : ℕ) (ks : List ℕ) (i : ℕ) → length ks ≤ i → AllBelow n (take i ks) → AllBelow n ks
all-below n ks i le h = subst (AllBelow n) (take-all ks i le) h

-- types of a table

parts-ordered : (ts : List Typ) (k : ℕ) (ps : List ℕ) → ((j : ℕ) → j < k → is_ordered (type_at ts j) ≡ true) → AllBelow k ps → are_ordered (types_at ts ps) ≡ true
parts-ordered ts k [] h b = refl
parts-ordered ts k (p ∷ ps) h b = and_from (is_ordered (type_at ts p)) (are_ordered (types_at ts ps)) (h p b.0) (parts-ordered ts k ps h b.1)

pub next-ordered : (ts : List Typ) (k : ℕ) (s : Symbol) (ps : List ℕ) → ((j : ℕ) → j < k → is_ordered (type_at ts j) ≡ true) → type_at ts k ≡ con s (types_at ts ps)
    → begins_in_order s ≡ true → AllBelow k ps → is_ordered (type_at ts k) ≡ true
next-ordered ts k s ps h e o b = ap is_ordered e ∙ and_from (begins_in_order s) (are_ordered (types_at ts ps)) o (parts-ordered ts k ps h b)

past-ordered : (ts : List Typ) (k : ℕ) → length ts ≤ k → is_ordered (type_at ts k) ≡ true
past-ordered [] k le = refl
past-ordered (t ∷ ts) zero le = absurd (omega (arith, le))
past-ordered (t ∷ ts) (suc k) le = past-ordered ts k (omega (arith, le))

pub table-ordered : (ts : List Typ) (i : ℕ) → length ts ≤ i → ((j : ℕ) → j < i → is_ordered (type_at ts j) ≡ true) → (k : ℕ) → is_ordered (type_at ts k) ≡ true
table-ordered ts i le h k = by (nat_lt k i) refl
  where
    by : (b : Bool) → nat_lt k i ≡ b → is_ordered (type_at ts k) ≡ true
    by true e = h k (ltb-true k i e)
    by false e = past-ordered ts k (let a = ltb-false k i e in omega (arith, a, le))

pub one-more : (P : ℕ → Type 0) (i : ℕ) → ((j : ℕ) → j < i → P j) → P i → (j : ℕ) → j < i + 1 → P j
one-more P i h p j lt = by (nat_lt j i) refl
  where
    by : (b : Bool) → nat_lt j i ≡ b → P j
    by true e = h j (ltb-true j i e)
    by false e = let a = ltb-false j i e in let s : i ≡ j = omega (arith, a, lt) in subst P s p

-- slots

pub seen-at : (ts : List Typ) (os : List Slot) (v : ℕ) (d : Slot) → v < length os → seen ts os v ≡ entry_of ts (get_or os v d)
seen-at ts [] v d lt = absurd (omega (arith, lt))
seen-at ts (o ∷ os) zero d lt = refl
seen-at ts (o ∷ os) (suc v) d lt = seen-at ts os v d (omega (arith, lt))

pub seen-settled : (ts : List Typ) (os : List Slot) (i : ℕ) → length os ≤ i → ((v : ℕ) → v < i → is_row (seen ts os v) ≡ false) → (v : ℕ) → is_row (seen ts os v) ≡ false
seen-settled ts os i le h v = by (nat_lt v i) refl
  where
    past : (os : List Slot) (v : ℕ) → length os ≤ v → is_row (seen ts os v) ≡ false
    past [] v le = refl
    past (o ∷ os) zero le = absurd (omega (arith, le))
    past (o ∷ os) (suc v) le = past os v (omega (arith, le))

    by : (b : Bool) → nat_lt v i ≡ b → is_row (seen ts os v) ≡ false
    by true e = h v (ltb-true v i e)
    by false e = past os v (let a = ltb-false v i e in omega (arith, a, le))

pub row-at : (ts : List Typ) (os l : List Slot) (v : ℕ) (x : Slot) (b : Bool) → l ≡ os → v < length l → x ≡ get_or l v x → b ≡ is_row (entry_of ts x) → is_row (seen ts os v) ≡ b
row-at ts os l v x b same lt e h = subst (λ m. is_row (seen ts m v) ≡ b) same (ap is_row (seen-at ts l v x lt) ∙ ap (λ o. is_row (entry_of ts o)) (sym e) ∙ sym h)
