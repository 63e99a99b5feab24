-- Fields in the order of their labels.
use Rattle.std.proofs.Common.{◌≡◌, ◌⊎◌, inl, inr, ◌<◌, ◌≤◌, ◌+◌, ◌-◌, ℕ, zero, suc, Bool, true, false, ◌&&◌, cond, List, [], ◌∷◌, length, map, take, get_or, Some, refl, sym, ap, ap₂, subst, ◌∙◌, arith}
use Rattle.std.proofs.lemmas.Bool.{ltb-true, and_parts}
use Rattle.std.proofs.lemmas.Bool.Decides.{nat_tests}
use Rattle.std.proofs.lemmas.Option.{get_or_from_slice_get, slice_get-get_or}
use Rattle.std.specs.List.{AllByRecursion}
use Rattle.std.specs.Map.{lookup}
use Rattle.mlc_names.specs.declared.label.Label.{Label}
use Rattle.mlc_names.specs.declared.label.Label.TheVariants.{Number, Word}
use Rattle.ty_core.specs.Types.{Typ, con, labels, more, typs_of}
use Rattle.ty_basis.specs.Types.{labels_in, row_type}
use Rattle.label_rows.specs.declared.sort.Field.{Field}
use Rattle.label_rows.specs.Order.{label_before}
use Rattle.label_rows.specs.Sorting.{sorted, put_field}
use Rattle.label_rows.proofs.Mapped.{sorted-map}
use Rattle.label_rows.proofs.Merging.{before-trans}
use Rattle.elab_types.specs.of_core_rules.Objects.{sorted as sorted_row}
use Rattle.ir_values.specs.Values.{same_label}
use Rattle.elab_state.specs.of_ir_poly.Types.{ascend}
use Rattle.elab_state.specs.declared.state.State.{State}
use Rattle.elab_steps.specs.Growing.{HasType, AreTypes, types_of}
use Rattle.elab_steps.specs.Rows.{row_of}
use Rattle.elab_steps.specs.World.{World, type_of}

-- what holds of all fields holds of them in order
module _ (P : Field → Type 0) where
  put-all : (x : Field) (ys : List Field) → P x → AllByRecursion P ys → AllByRecursion P (put_field x ys)
  put-all x [] p h = (p, tt)
  put-all x (y ∷ ys) p h = by (label_before y.label x.label) (put-all x ys p h.1)
    where
      by : (b : Bool) → AllByRecursion P (put_field x ys) → AllByRecursion P (cond b (y ∷ put_field x ys) (x ∷ y ∷ ys))
      by true k = (h.0, k)
      by false k = (p, (h.0, h.1))

  pub sorted-all : (xs : List Field) → AllByRecursion P xs → AllByRecursion P (sorted xs)
  sorted-all [] h = tt
  sorted-all (x ∷ xs) h = put-all x (sorted xs) h.0 (sorted-all xs h.1)

-- x stands among the fields
abbrev pub Among : Field → List Field → Type 0
Among x [] = ⊥
Among x (y ∷ ys) = (x ≡ y) ⊎ Among x ys

put-first : (x : Field) (ys : List Field) → Among x (put_field x ys)
put-first x [] = inl refl
put-first x (y ∷ ys) = by (label_before y.label x.label) (put-first x ys)
  where
    by : (b : Bool) → Among x (put_field x ys) → Among x (cond b (y ∷ put_field x ys) (x ∷ y ∷ ys))
    by true h = inr h
    by false h = inl refl

put-stays : (z x : Field) (ys : List Field) → Among z ys → Among z (put_field x ys)
put-stays z x [] h = absurd h
put-stays z x (y ∷ ys) h = by (label_before y.label x.label) h (put-stays z x ys)
  where
    by : (b : Bool) → Among z (y ∷ ys) → (Among z ys → Among z (put_field x ys)) → Among z (cond b (y ∷ put_field x ys) (x ∷ y ∷ ys))
    by true (inl e) k = inl e
    by true (inr a) k = inr (k a)
    by false a k = inr a

pub among-sorted : (z : Field) (xs : List Field) → Among z xs → Among z (sorted xs)
among-sorted z [] h = absurd h
among-sorted z (x ∷ xs) (inl e) = subst (λ w. Among w (put_field x (sorted xs))) (sym e) (put-first x (sorted xs))
among-sorted z (x ∷ xs) (inr h) = put-stays z x (sorted xs) (among-sorted z xs h)

-- labels that ascend

pub same-itself : (l : Label) → same_label l l ≡ true
same-itself (Number n) = grind (arith, nat_tests)
same-itself (Word x) = grind (arith, nat_tests)

pub before-differs : (l k : Label) → label_before l k ≡ true → same_label k l ≡ false
before-differs (Number m) (Number n) e = let lt = ltb-true m n e in grind (arith, nat_tests)
before-differs (Number m) (Word x) e = refl
before-differs (Word x) (Number n) e = refl
before-differs (Word x) (Word y) e = let lt = ltb-true x y e in grind (arith, nat_tests)

abbrev labels-at : List Field → List Label
labels-at = map (λ f. f.label)

ascend-tail : (y : Field) (ys : List Field) → ascend (labels-at (y ∷ ys)) ≡ true → ascend (labels-at ys) ≡ true
ascend-tail y [] e = refl
ascend-tail y (z ∷ ys) e = (and_parts (label_before y.label z.label) (ascend (labels-at (z ∷ ys))) e).1

first-before : (y x : Field) (ys : List Field) → ascend (labels-at (y ∷ ys)) ≡ true → Among x ys → label_before y.label x.label ≡ true
first-before y x [] e h = absurd h
first-before y x (z ∷ ys) e (inl q) = subst (λ w. label_before y.label w.label ≡ true) (sym q) (and_parts (label_before y.label z.label) (ascend (labels-at (z ∷ ys))) e).0
first-before y x (z ∷ ys) e (inr h) =
    let p = and_parts (label_before y.label z.label) (ascend (labels-at (z ∷ ys))) e in
    before-trans y.label z.label x.label p.0 (first-before z x ys p.1 h)

pub found-among : (W : World) (x : Field) (ys : List Field) → ascend (labels-at ys) ≡ true → Among x ys → lookup (same_label x.label) (row_of W ys) ≡ Some (type_of W x.part)
found-among W x [] e h = absurd h
found-among W x (y ∷ ys) e (inl q) =
    subst (λ w. lookup (same_label x.label) (row_of W (w ∷ ys)) ≡ Some (type_of W x.part)) q
    (ap (λ b. cond b (Some (type_of W x.part)) (lookup (same_label x.label) (row_of W ys))) (same-itself x.label))
found-among W x (y ∷ ys) e (inr h) =
    ap (λ b. cond b (Some (type_of W y.part)) (lookup (same_label x.label) (row_of W ys))) (before-differs y.label x.label (first-before y x ys e h))
    ∙ found-among W x ys (ascend-tail y ys e) h

-- the row in order
pub row-sorted : (W : World) (xs : List Field) → row_of W (sorted xs) ≡ sorted_row (row_of W xs)
row-sorted W = sorted-map (λ f. f.label) (λ f. f.0) (λ f. (f.label, type_of W f.part)) (λ x. refl)

-- so each field is found in it
pub found-sorted : (W : World) (x : Field) (xs : List Field) → ascend (labels-at (sorted xs)) ≡ true → Among x xs
    → lookup (same_label x.label) (sorted_row (row_of W xs)) ≡ Some (type_of W x.part)
found-sorted W x xs e h = ap (lookup (same_label x.label)) (sym (row-sorted W xs)) ∙ found-among W x (sorted xs) e (among-sorted x xs h)

-- its type
pub labels-of : (W : World) (xs : List Field) → labels_in (row_of W xs) ≡ labels-at xs
labels-of W [] = refl
labels-of W (x ∷ xs) = ap (λ l. x.label ∷ l) (labels-of W xs)

parts-of : (W : World) (xs : List Field) → typs_of (map (λ f. f.1) (row_of W xs)) ≡ types_of W (map (λ f. f.part) xs)
parts-of W [] = refl
parts-of W (x ∷ xs) = ap (more (type_of W x.part)) (parts-of W xs)

pub row-is : (W : World) (xs ys : List Field) (t : Typ) (ls : List Label) (ks : List ℕ) → ys ≡ sorted xs → ls ≡ labels-at ys → ks ≡ map (λ f. f.part) ys
    → t ≡ con (labels ls) (types_of W ks) → t ≡ row_type (sorted_row (row_of W xs))
row-is W xs ys t ls ks e l k h =
    h ∙ ap₂ (λ ls ts. con (labels ls) ts) (l ∙ ap labels-at e ∙ sym (labels-of W (sorted xs))) (ap (types_of W) (k ∙ ap (map (λ f. f.part)) e) ∙ sym (parts-of W (sorted xs)))
    ∙ ap row_type (row-sorted W xs)

pub types-held : (S : State) (ys : List Field) → AllByRecursion (λ f. HasType S f.part) ys → AreTypes S (map (λ f. f.part) ys)
types-held S [] h = tt
types-held S (y ∷ ys) h = (h.0, types-held S ys h.1)

-- loops along fields

take-all : (xs : List Field) (i : ℕ) → length xs ≤ i → take i xs ≡ xs
take-all [] zero le = refl
take-all [] (suc i) le = refl
take-all (x ∷ xs) zero le = absurd (omega arith)
take-all (x ∷ xs) (suc i) le = ap (λ l. x ∷ l) (take-all xs i (omega arith))

pub column : {B : Type 0} (f : Field → B) (xs : List Field) (i : ℕ) (bs : List B) → length xs ≤ i → bs ≡ map f (take i xs) → bs ≡ map f xs
column f xs i bs le e = e ∙ ap (map f) (take-all xs i le)

-- labels that ascend so far
ascend-at : (xs : List Field) (i : ℕ) (d : Field) → suc i < length xs → ascend (labels-at xs) ≡ true → label_before (get_or xs i d).label (get_or xs (suc i) d).label ≡ true
ascend-at [] i d lt e = absurd (omega arith)
ascend-at (x ∷ []) i d lt e = absurd (omega arith)
ascend-at (x ∷ y ∷ xs) zero d lt e = (and_parts (label_before x.label y.label) (ascend (labels-at (y ∷ xs))) e).0
ascend-at (x ∷ y ∷ xs) (suc i) d lt e = ascend-at (y ∷ xs) i d (omega arith) (and_parts (label_before x.label y.label) (ascend (labels-at (y ∷ xs))) e).1

each-ascends : (xs : List Field) → ((i : ℕ) (d : Field) → suc i < length xs → label_before (get_or xs i d).label (get_or xs (suc i) d).label ≡ true) → ascend (labels-at xs) ≡ true
each-ascends [] h = refl
each-ascends (x ∷ []) h = refl
each-ascends (x ∷ y ∷ xs) h = ap₂ (λ a b. a && b) (h 0 x (omega arith)) (each-ascends (y ∷ xs) (λ i d lt. h (suc i) d (omega arith)))

pub ascends-whole : (xs : List Field) → ((k : ℕ) (d : Field) → k + 1 < length xs → label_before (get_or xs k d).label (get_or xs (k + 1) d).label ≡ true) → true ≡ ascend (labels-at xs)
ascends-whole xs h =
    sym (each-ascends xs (λ i d lt. let s : i + 1 ≡ suc i = omega arith in subst (λ j. label_before (get_or xs i d).label (get_or xs j d).label ≡ true) s (h i d (omega arith))))

same-read : (xs : List Field) (i : ℕ) (x y : Field) → i < length xs → get_or xs i x ≡ get_or xs i y
same-read xs i x y lt = get_or_from_slice_get xs i (get_or xs i y) x (slice_get-get_or xs i y lt)

pub not-ascending : (xs : List Field) (i : ℕ) (x y : Field) → 1 ≤ i → i < length xs → label_before (get_or xs (i - 1) x).label (get_or xs i y).label ≡ false → false ≡ ascend (labels-at xs)
not-ascending xs i x y ge lt h = by (ascend (labels-at xs)) refl
  where
    by : (b : Bool) → ascend (labels-at xs) ≡ b → false ≡ b
    by true e =
        let s : suc (i - 1) ≡ i = omega arith in
        let at = ascend-at xs (i - 1) x (omega arith) e in
        let second : get_or xs i y ≡ get_or xs (suc (i - 1)) x = sym (ap (λ j. get_or xs j x) s ∙ same-read xs i x y lt) in
        let found : label_before (get_or xs (i - 1) x).label (get_or xs i y).label ≡ true = ap (λ b. label_before (get_or xs (i - 1) x).label b.label) second ∙ at in
        absurd (cc)
    by false e = refl
