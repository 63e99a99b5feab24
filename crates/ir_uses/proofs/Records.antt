-- Types of records.
use Rattle.std.proofs.Common.{◌≡◌, ◌≢◌, ◌↔◌, ℕ, zero, suc, ◌+◌, ◌-◌, ◌<◌, ◌≤◌, Bool, true, false, ◌&&◌, List, [], ◌∷◌, length, take, zip, map, slice_index_or, Option, Some, None, IsTrue, cond, refl, sym, ap, ◌∙◌, subst, arith}
use Rattle.std.proofs.lemmas.Bool.{and_parts, and_from}
use Rattle.std.proofs.Math.Seq.{take-length}
use Rattle.std.specs.Option.{option_map, option_and_then}
use Rattle.std.specs.Map.{lookup}
use Rattle.mlc_names.specs.declared.label.Label.{Label}
use Rattle.ty_core.specs.Types.{Symbol, arrow, labels, name, Typ, var, con, Typs, typs_of}
use Rattle.ty_table.specs.TypeAt.{type_at, types_at}
use Rattle.prog_check.specs.of_ir_values.Values.{same_label}
use Rattle.ir_known.specs.of_ir_poly.Types.{ascend, label_before, labels_in, row_type}
use Rattle.ir_known.specs.of_ir_poly.TestsChecked.{is_size}
use Rattle.prog_check.specs.Deciding.{joined, in_front, row_in}
use Rattle.prog_check.proofs.DecidingLemmas.{row-sound, row-complete}
use Rattle.prog_check.proofs.SameLemmas.{label-same, same-label}
use Rattle.ir_uses.specs.Fields.{field_types, HasField, IsSized}
use Rattle.ir_uses.proofs.Constructing.{typs-same}

field-labels : (ts : List Typ) (fs : List (Label × ℕ)) → map (λ f. f.0) (field_types ts fs) ≡ map (λ f. f.0) fs
field-labels ts [] = refl
field-labels ts (f ∷ fs) = ap (λ ls. f.0 ∷ ls) (field-labels ts fs)

types-fields : (ts : List Typ) (fs : List (Label × ℕ)) → map (λ f. f.1) (field_types ts fs) ≡ map (λ f. type_at ts f.1) fs
types-fields ts [] = refl
types-fields ts (f ∷ fs) = ap (λ us. type_at ts f.1 ∷ us) (types-fields ts fs)

row-fields : (ts : List Typ) (fs : List (Label × ℕ)) → row_type (field_types ts fs) ≡ con (labels (map (λ f. f.0) fs)) (typs_of (map (λ f. type_at ts f.1) fs))
row-fields ts fs = ap (λ ls. con (labels ls) (typs_of (map (λ f. f.1) (field_types ts fs)))) (field-labels ts fs) ∙ ap (λ us. con (labels (map (λ f. f.0) fs)) (typs_of us)) (types-fields ts fs)

parts-are : {h k : Symbol} {ts us : Typs} → con h ts ≡ con k us → ts ≡ us
parts-are e = cc

labels-are : {ls ks : List Label} {ts us : Typs} → con (labels ls) ts ≡ con (labels ks) us → ls ≡ ks
labels-are e = cc

some-is : {A : Type 0} {a b : A} → Some a ≡ Some b → a ≡ b
some-is e = cc

module _ (ts : List Typ) (t : Typ) (fs : List (Label × ℕ)) where
  pub record-is : (ls : List Label) (ks : List ℕ) (answer : Bool) → t ≡ con (labels ls) (types_at ts ks) → ls ≡ map (λ f. f.0) fs → IsTrue answer ↔ (map (type_at ts) ks ≡ map (λ f. type_at ts f.1) fs)
      → IsTrue answer ↔ (t ≡ row_type (field_types ts fs))
  record-is ls ks answer e i w = (
    (λ p. e ∙ ap (λ z. con (labels z) (types_at ts ks)) i ∙ ap (λ us. con (labels (map (λ f. f.0) fs)) (typs_of us)) (w.0 p) ∙ sym (row-fields ts fs)),
    (λ p. w.1 (typs-same _ _ (parts-are (sym e ∙ p ∙ row-fields ts fs)))),
  )

  pub record-differs : (ls : List Label) (us : Typs) → t ≡ con (labels ls) us → (ls ≡ map (λ f. f.0) fs → ⊥) → IsTrue false ↔ (t ≡ row_type (field_types ts fs))
  record-differs ls us e n = ((λ f. absurd (cc)), (λ p. absurd (n (labels-are (sym e ∙ p ∙ row-fields ts fs)))))

  pub record-not : ((ls : List Label) (us : Typs) → t ≡ con (labels ls) us → ⊥) → IsTrue false ↔ (t ≡ row_type (field_types ts fs))
  record-not n = ((λ f. absurd (cc)), (λ p. absurd (n (map (λ f. f.0) (field_types ts fs)) (typs_of (map (λ f. f.1) (field_types ts fs))) p)))

-- The fields of a type

pub joined-zip : (ts : List Typ) (ls : List Label) (ks : List ℕ) → length ls ≡ length ks → joined ls (types_at ts ks) ≡ Some (zip ls (map (type_at ts) ks))
joined-zip ts [] [] e = refl
joined-zip ts [] (k ∷ ks) e = absurd (omega arith)
joined-zip ts (l ∷ ls) [] e = absurd (omega arith)
joined-zip ts (l ∷ ls) (k ∷ ks) e = ap (option_map (in_front l (type_at ts k))) (joined-zip ts ls ks (omega arith))

joined-long : (ts : List Typ) (ls : List Label) (ks : List ℕ) → length ls ≢ length ks → joined ls (types_at ts ks) ≡ None
joined-long ts [] [] n = absurd (n refl)
joined-long ts [] (k ∷ ks) n = refl
joined-long ts (l ∷ ls) [] n = refl
joined-long ts (l ∷ ls) (k ∷ ks) n = ap (option_map (in_front l (type_at ts k))) (joined-long ts ls ks (λ e. n (ap (λ m. suc m) e)))

pub row-none : (t : Typ) → ((ls : List Label) (us : Typs) → t ≡ con (labels ls) us → ⊥) → row_in t ≡ None
row-none (var v) n = refl
row-none (con arrow us) n = refl
row-none (con (labels ls) us) n = absurd (n ls us refl)
row-none (con (name m) us) n = refl

pub row-long : (ts : List Typ) (t : Typ) (ls : List Label) (ks : List ℕ) → t ≡ con (labels ls) (types_at ts ks) → length ls ≢ length ks → row_in t ≡ None
row-long ts t ls ks e n = ap row_in e ∙ joined-long ts ls ks n

pub row-some : (ts : List Typ) (t : Typ) (ls : List Label) (ks : List ℕ) → t ≡ con (labels ls) (types_at ts ks) → length ls ≡ length ks → row_in t ≡ Some (zip ls (map (type_at ts) ks))
row-some ts t ls ks e l = ap row_in e ∙ joined-zip ts ls ks l

zip-long : {A B : Type 0} (xs : List A) (ys : List B) → length xs ≡ length ys → length (zip xs ys) ≡ length xs
zip-long [] ys e = refl
zip-long (x ∷ xs) [] e = absurd (omega arith)
zip-long (x ∷ xs) (y ∷ ys) e = ap (λ n. suc n) (zip-long xs ys (omega arith))

map-long : {A B : Type 0} (f : A → B) (xs : List A) → length (map f xs) ≡ length xs
map-long f [] = refl
map-long f (x ∷ xs) = ap (λ n. suc n) (map-long f xs)

pub size-some : (ts : List Typ) (t : Typ) (ls : List Label) (ks : List ℕ) → t ≡ con (labels ls) (types_at ts ks) → length ls ≡ length ks → Some (length ls) ≡ option_map length (row_in t)
size-some ts t ls ks e l = sym (ap (option_map length) (row-some ts t ls ks e l) ∙ ap Some (zip-long ls (map (type_at ts) ks) (l ∙ sym (map-long (type_at ts) ks))))

pub size-none : (t : Typ) → row_in t ≡ None → None ≡ option_map length (row_in t)
size-none t e = sym (ap (option_map length) e)

module _ {A B : Type 0} (p : Label → Bool) (f : A → B) where
  lookup-zip : (ls : List Label) (ks : List A) → lookup p (zip ls (map f ks)) ≡ option_map f (lookup p (zip ls ks))
  lookup-zip [] ks = refl
  lookup-zip (l ∷ ls) [] = refl
  lookup-zip (l ∷ ls) (k ∷ ks) = by (p l) (lookup-zip ls ks)
    where
      by : (b : Bool) → lookup p (zip ls (map f ks)) ≡ option_map f (lookup p (zip ls ks)) → cond b (Some (f k)) (lookup p (zip ls (map f ks))) ≡ option_map f (cond b (Some k) (lookup p (zip ls ks)))
      by true e = refl
      by false e = e

pub field-some : (ts : List Typ) (t : Typ) (ls : List Label) (ks : List ℕ) (l : Label) (r : Option ℕ) → t ≡ con (labels ls) (types_at ts ks) → length ls ≡ length ks → r ≡ lookup (same_label l) (zip ls ks)
    → option_map (type_at ts) r ≡ option_and_then (lookup (same_label l)) (row_in t)
field-some ts t ls ks l r e n i = ap (option_map (type_at ts)) i ∙ sym (lookup-zip (same_label l) (type_at ts) ls ks) ∙ sym (ap (option_and_then (lookup (same_label l))) (row-some ts t ls ks e n))

pub field-none : (t : Typ) (l : Label) → row_in t ≡ None → None ≡ option_and_then (lookup (same_label l)) (row_in t)
field-none t l e = sym (ap (option_and_then (lookup (same_label l))) e)

-- Looking along labels

module _ (l : Label) where
  no-label : (k : Label) → (l ≡ k → ⊥) → same_label l k ≡ false
  no-label k n = by (same_label l k) refl
    where
      by : (b : Bool) → same_label l k ≡ b → b ≡ false
      by true e = absurd (n (label-same l k e))
      by false e = refl

  pub beside-more : (ls : List Label) (ks : List ℕ) (i : ℕ) (d : Label) → i < length ls → length ls ≡ length ks → lookup (same_label l) (zip (take i ls) (take i ks)) ≡ None → (l ≡ slice_index_or ls i d → ⊥)
      → lookup (same_label l) (zip (take (i + 1) ls) (take (i + 1) ks)) ≡ None
  beside-more ls ks i d lt e z n = subst (λ m. lookup (same_label l) (zip (take m ls) (take m ks)) ≡ None) one (go ls ks i lt e z n)
    where
      one : suc i ≡ i + 1
      one = omega arith

      none-later : (b : Bool) (k : ℕ) (o : Option ℕ) → cond b (Some k) o ≡ None → (b ≡ false) × (o ≡ None)
      none-later true k o e = absurd (cc)
      none-later false k o e = (refl, e)

      go : (ls : List Label) (ks : List ℕ) (i : ℕ) → i < length ls → length ls ≡ length ks → lookup (same_label l) (zip (take i ls) (take i ks)) ≡ None → (l ≡ slice_index_or ls i d → ⊥)
          → lookup (same_label l) (zip (take (suc i) ls) (take (suc i) ks)) ≡ None
      go [] ks i lt e z n = absurd (omega arith)
      go (m ∷ ls) [] i lt e z n = absurd (omega arith)
      go (m ∷ ls) (k ∷ ks) zero lt e z n = ap (λ b. cond b (Some k) None) (no-label m n)
      go (m ∷ ls) (k ∷ ks) (suc i) lt e z n =
          let h = none-later (same_label l m) k (lookup (same_label l) (zip (take i ls) (take i ks))) z in
          ap (λ b. cond b (Some k) (lookup (same_label l) (zip (take (suc i) ls) (take (suc i) ks)))) h.0 ∙ go ls ks i (omega arith) (omega arith) h.1 n

  pub beside-found : (ls : List Label) (ks : List ℕ) (i : ℕ) (d : Label) (c : ℕ) → i < length ls → length ls ≡ length ks → lookup (same_label l) (zip (take i ls) (take i ks)) ≡ None → l ≡ slice_index_or ls i d
      → Some (slice_index_or ks i c) ≡ lookup (same_label l) (zip ls ks)
  beside-found [] ks i d c lt e z s = absurd (omega arith)
  beside-found (m ∷ ls) [] i d c lt e z s = absurd (omega arith)
  beside-found (m ∷ ls) (k ∷ ks) zero d c lt e z s = sym (ap (λ b. cond b (Some k) (lookup (same_label l) (zip ls ks))) (ap (λ x. same_label l x) (sym s) ∙ same-label l))
  beside-found (m ∷ ls) (k ∷ ks) (suc i) d c lt e z s = by (same_label l m) refl z (λ h. beside-found ls ks i d c (omega arith) (omega arith) h s)
    where
      by : (b : Bool) → same_label l m ≡ b → cond b (Some k) (lookup (same_label l) (zip (take i ls) (take i ks))) ≡ None
          → (lookup (same_label l) (zip (take i ls) (take i ks)) ≡ None → Some (slice_index_or ks i c) ≡ lookup (same_label l) (zip ls ks))
          → Some (slice_index_or ks i c) ≡ cond (same_label l m) (Some k) (lookup (same_label l) (zip ls ks))
      by true q h r = absurd (cc)
      by false q h r = r h ∙ sym (ap (λ b. cond b (Some k) (lookup (same_label l) (zip ls ks))) q)

  pub beside-none : (ls : List Label) (ks : List ℕ) → length ls ≡ length ks → lookup (same_label l) (zip (take (length ls) ls) (take (length ls) ks)) ≡ None → None ≡ lookup (same_label l) (zip ls ks)
  beside-none ls ks e z = sym (ap (λ x. lookup (same_label l) (zip x ks)) (sym (take-length ls)) ∙ ap (λ x. lookup (same_label l) (zip (take (length ls) ls) x)) (sym (take-length ks) ∙ ap (λ n. take n ks) (sym e)) ∙ z)

-- What is found

module _ (ts : List Typ) (l : Label) (u t : Typ) (r : Option ℕ) (is : option_map (type_at ts) r ≡ option_and_then (lookup (same_label l)) (row_in u)) where
  pub selected : (found : ℕ) (answer : Bool) → r ≡ Some found → IsTrue answer ↔ (type_at ts found ≡ t) → IsTrue answer ↔ HasField l u t
  selected found answer e w = (
    (λ p. go (row_in u) refl (sym (sym (ap (option_map (type_at ts)) e) ∙ is) ∙ ap Some (w.0 p))),
    (λ h. w.1 (some-is (sym (ap (option_map (type_at ts)) e) ∙ is ∙ ap (option_and_then (lookup (same_label l))) (row-complete u h.0 h.1) ∙ h.2))),
  )
    where
      go : (o : Option (List (Label × Typ))) → row_in u ≡ o → option_and_then (lookup (same_label l)) o ≡ Some t → HasField l u t
      go None i e = absurd (cc)
      go (Some row) i e = (row, row-sound u row i, e)

  pub not-selected : r ≡ None → IsTrue false ↔ HasField l u t
  not-selected e = (
    (λ f. absurd (cc)),
    (λ h. absurd (
        let q : None ≡ Some t = sym (ap (option_map (type_at ts)) e) ∙ is ∙ ap (option_and_then (lookup (same_label l))) (row-complete u h.0 h.1) ∙ h.2 in cc)),
  )

module _ (size : Option ℕ) (t : Typ) (r : Option ℕ) (is : r ≡ option_map length (row_in t)) where
  pub sized : (n : ℕ) (answer : Bool) → r ≡ Some n → answer ≡ is_size size n → IsTrue answer ↔ IsSized size t
  sized n answer e i = (
    (λ p. go (row_in t) refl (sym is ∙ e) (sym i ∙ p)),
    (λ h. i ∙ ap (is_size size) (some-is (sym e ∙ is ∙ ap (option_map length) (row-complete t h.0 h.1))) ∙ h.2),
  )
    where
      go : (o : Option (List (Label × Typ))) → row_in t ≡ o → option_map length o ≡ Some n → is_size size n ≡ true → IsSized size t
      go None k e y = absurd (cc)
      go (Some row) k e y = (row, row-sound t row k, ap (is_size size) (some-is e) ∙ y)

  pub not-sized : r ≡ None → IsTrue false ↔ IsSized size t
  not-sized e = ((λ f. absurd (cc)), (λ h. absurd (let q : None ≡ Some (length h.0) = sym e ∙ is ∙ ap (option_map length) (row-complete t h.0 h.1) in cc)))

-- Labels that ascend

ascend-more : (ls : List Label) (i : ℕ) (c d : Label) → suc i < length ls → ascend (take (suc i) ls) ≡ true → label_before (slice_index_or ls i c) (slice_index_or ls (suc i) d) ≡ true → ascend (take (suc (suc i)) ls) ≡ true
ascend-more [] i c d lt e b = absurd (omega arith)
ascend-more (l ∷ []) i c d lt e b = absurd (omega arith)
ascend-more (l ∷ k ∷ ls) zero c d lt e b = and_from _ _ b refl
ascend-more (l ∷ k ∷ ls) (suc i) c d lt e b = let a = and_parts (label_before l k) _ e in and_from _ _ a.0 (ascend-more (k ∷ ls) i c d (omega arith) a.1 b)

ascend-not : (ls : List Label) (i : ℕ) (c d : Label) → suc i < length ls → label_before (slice_index_or ls i c) (slice_index_or ls (suc i) d) ≡ false → ascend ls ≡ false
ascend-not [] i c d lt b = absurd (omega arith)
ascend-not (l ∷ []) i c d lt b = absurd (omega arith)
ascend-not (l ∷ k ∷ ls) zero c d lt b = ap (λ z. z && ascend (k ∷ ls)) b
ascend-not (l ∷ k ∷ ls) (suc i) c d lt b = go (label_before l k) (ascend-not (k ∷ ls) i c d (omega arith) b)
  where
    go : (z : Bool) → ascend (k ∷ ls) ≡ false → (z && ascend (k ∷ ls)) ≡ false
    go true e = e
    go false e = refl

at-label : (fs : List (Label × ℕ)) (i : ℕ) (d : Label × ℕ) → slice_index_or (map (λ f. f.0) fs) i d.0 ≡ (slice_index_or fs i d).0
at-label [] i d = refl
at-label (f ∷ fs) zero d = refl
at-label (f ∷ fs) (suc i) d = at-label fs i d

taken-labels : (fs : List (Label × ℕ)) (n : ℕ) → map (λ f. f.0) (take n fs) ≡ take n (map (λ f. f.0) fs)
taken-labels [] zero = refl
taken-labels [] (suc n) = refl
taken-labels (f ∷ fs) zero = refl
taken-labels (f ∷ fs) (suc n) = ap (λ ls. f.0 ∷ ls) (taken-labels fs n)

pub fields-ascend : (fs : List (Label × ℕ)) (i : ℕ) (c d : Label × ℕ) → 1 ≤ i → i < length fs → ascend (map (λ f. f.0) (take i fs)) ≡ true → label_before (slice_index_or fs (i - 1) c).0 (slice_index_or fs i d).0 ≡ true
    → ascend (map (λ f. f.0) (take (i + 1) fs)) ≡ true
fields-ascend fs zero c d le lt e b = absurd (omega arith)
fields-ascend fs (suc i) c d le lt e b =
    subst (λ n. ascend (map (λ f. f.0) (take n fs)) ≡ true) one (ap ascend (taken-labels fs (suc (suc i)))
    ∙ ascend-more (map (λ f. f.0) fs) i c.0 d.0 (let m = map-long (λ f. f.0) fs in omega arith) (ap ascend (sym (taken-labels fs (suc i))) ∙ e)
    (ap (λ l. label_before l (slice_index_or (map (λ f. f.0) fs) (suc i) d.0)) (at-label fs i c) ∙ ap (label_before (slice_index_or fs i c).0) (at-label fs (suc i) d) ∙ subst (λ n. label_before (slice_index_or fs n c).0 (slice_index_or fs (suc i) d).0 ≡ true) back b))
  where
    one : suc (suc i) ≡ suc i + 1
    one = omega arith

    back : suc i - 1 ≡ i
    back = omega arith

pub fields-descend : (ts : List Typ) (fs : List (Label × ℕ)) (i : ℕ) (c d : Label × ℕ) → 1 ≤ i → i < length fs → label_before (slice_index_or fs (i - 1) c).0 (slice_index_or fs i d).0 ≡ false → false ≡ ascend (labels_in (field_types ts fs))
fields-descend ts fs zero c d le lt b = absurd (omega arith)
fields-descend ts fs (suc i) c d le lt b =
    sym (ap ascend (field-labels ts fs) ∙ ascend-not (map (λ f. f.0) fs) i c.0 d.0 (let m = map-long (λ f. f.0) fs in omega arith)
    (ap (λ l. label_before l (slice_index_or (map (λ f. f.0) fs) (suc i) d.0)) (at-label fs i c) ∙ ap (label_before (slice_index_or fs i c).0) (at-label fs (suc i) d) ∙ subst (λ n. label_before (slice_index_or fs n c).0 (slice_index_or fs (suc i) d).0 ≡ false) back b))
  where
    back : suc i - 1 ≡ i
    back = omega arith

pub all-ascend : (ts : List Typ) (fs : List (Label × ℕ)) (n : ℕ) → length fs ≤ n → ascend (map (λ f. f.0) (take n fs)) ≡ true → true ≡ ascend (labels_in (field_types ts fs))
all-ascend ts fs n le e = sym e ∙ ap (λ gs. ascend (map (λ f. f.0) gs)) (whole fs n le) ∙ sym (ap ascend (field-labels ts fs))
  where
    whole : (fs : List (Label × ℕ)) (n : ℕ) → length fs ≤ n → take n fs ≡ fs
    whole [] zero le = refl
    whole [] (suc n) le = refl
    whole (f ∷ fs) zero le = absurd (omega arith)
    whole (f ∷ fs) (suc n) le = ap (λ gs. f ∷ gs) (whole fs n (omega arith))
