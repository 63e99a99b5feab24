-- A record type in order that has some fields is that of those and others.
use Rattle.std.specs.Prelude.{⊤}
use Rattle.std.specs.Map.{lookup}
use Rattle.std.proofs.Common.{◌≡◌, ◌⊎◌, inl, inr, ◌++◌, ℕ, Bool, true, false, ◌&&◌, ◌||◌, not, cond, List, [], ◌∷◌, Some, map, refl, sym, ap, ap₂, subst, ◌∙◌, arith}
use Rattle.std.proofs.lemmas.Bool.{eqb-true, and_parts}
use Rattle.std.proofs.lemmas.Bool.Decides.{nat_tests}
use Rattle.mlc_names.specs.declared.label.Label.{Label}
use Rattle.mlc_names.specs.declared.label.Label.TheVariants.{Number, Word}
use Rattle.ty_core.specs.Types.{Typ, Typs, con, labels, none, more, typs_of}
use Rattle.ty_basis.specs.Types.{Row, labels_in, row_type}
use Rattle.elab_types.specs.of_ty_solve.Rows.{At, Extends, IsProper}
use Rattle.label_rows.specs.declared.sort.Field.{Field}
use Rattle.label_rows.specs.Order.{label_before}
use Rattle.label_rows.specs.Sorting.{sorted as sorted_fields}
use Rattle.label_rows.proofs.Merging.{before-trans}
use Rattle.elab_types.specs.of_core_rules.Words.{same_label, is_in}
use Rattle.elab_types.specs.of_core_rules.Restrictions.{distinct}
use Rattle.elab_types.specs.of_core_rules.Objects.{sorted, put_field}
use Rattle.ir_values.specs.Values as values
use Rattle.elab_state.specs.of_ir_poly.Types.{ascend}
use Rattle.elab_steps.specs.Growing.{types_of}
use Rattle.elab_steps.specs.Ordered.{is_ordered, are_ordered}
use Rattle.elab_steps.specs.Rows.{HasFields, row_of}
use Rattle.elab_steps.specs.World.{World, type_of}
use Rattle.elab_steps.proofs.Sorting.{Among, before-differs, labels-of, row-sorted, same-itself as same-value}

-- labels

same-itself : (l : Label) → same_label l l ≡ true
same-itself (Number n) = grind (arith, nat_tests)
same-itself (Word x) = grind (arith, nat_tests)

same-is : (l k : Label) → same_label l k ≡ true → l ≡ k
same-is (Number m) (Number n) e = ap Number (eqb-true m n e)
same-is (Word x) (Word y) e = ap Word (eqb-true x y e)
same-is (Number m) (Word y) e = cc
same-is (Word x) (Number n) e = cc

before-irreflexive : (l : Label) → label_before l l ≡ false
before-irreflexive (Number n) = grind arith
before-irreflexive (Word x) = grind arith

pub before-apart : (l k : Label) → label_before l k ≡ true → l ≡ k → ⊥
before-apart l k b e = let i = before-irreflexive k in let h = subst (λ j. label_before j k ≡ true) e b in cc

before-back : (l k : Label) → label_before l k ≡ true → label_before k l ≡ false
before-back l k b = by (label_before k l) refl
  where
    by : (c : Bool) → label_before k l ≡ c → c ≡ false
    by true e = absurd (before-apart l l (before-trans l k l b e) refl)
    by false e = refl

-- a field stands in a row, and its label

abbrev In : Label → Typ → Row → Type 0
In l t [] = ⊥
In l t (f ∷ fs) = ((l ≡ f.0) × (t ≡ f.1)) ⊎ In l t fs

abbrev Named : Label → Row → Type 0
Named l [] = ⊥
Named l (f ∷ fs) = (l ≡ f.0) ⊎ Named l fs

in-named : (l : Label) (t : Typ) (w : Row) → In l t w → Named l w
in-named l t [] h = h
in-named l t (f ∷ fs) (inl e) = inl e.0
in-named l t (f ∷ fs) (inr h) = inr (in-named l t fs h)

not-named : (l : Label) (w : Row) → (Named l w → ⊥) → is_in same_label l (labels_in w) ≡ false
not-named l [] h = refl
not-named l (f ∷ fs) h = by (same_label l f.0) refl (not-named l fs (λ n. h (inr n)))
  where
    by : (b : Bool) → same_label l f.0 ≡ b → is_in same_label l (labels_in fs) ≡ false → (b || is_in same_label l (labels_in fs)) ≡ false
    by true e n = absurd (h (inl (same-is l f.0 e)))
    by false e n = n

-- a row in order: each field stands before those behind it

abbrev AllAfter : Label → Row → Type 0
AllAfter l [] = ⊤
AllAfter l (f ∷ fs) = (label_before l f.0 ≡ true) × AllAfter l fs

abbrev Ascends : Row → Type 0
Ascends [] = ⊤
Ascends (f ∷ fs) = AllAfter f.0 fs × Ascends fs

after-trans : (l k : Label) (w : Row) → label_before l k ≡ true → AllAfter k w → AllAfter l w
after-trans l k [] b h = tt
after-trans l k (f ∷ fs) b h = (before-trans l k f.0 b h.0, after-trans l k fs b h.1)

ascends : (w : Row) → ascend (labels_in w) ≡ true → Ascends w
ascends [] e = tt
ascends (f ∷ []) e = (tt, tt)
ascends (f ∷ g ∷ fs) e =
    let p = and_parts (label_before f.0 g.0) (ascend (labels_in (g ∷ fs))) e in
    let h = ascends (g ∷ fs) p.1 in
    ((p.0, after-trans f.0 g.0 fs p.0 h.0), h)

after-named : (l k : Label) (w : Row) → AllAfter l w → Named k w → label_before l k ≡ true
after-named l k [] a h = absurd h
after-named l k (f ∷ fs) a (inl e) = subst (λ j. label_before l j ≡ true) (sym e) a.0
after-named l k (f ∷ fs) a (inr h) = after-named l k fs a.1 h

after-apart : (l : Label) (w : Row) → AllAfter l w → Named l w → ⊥
after-apart l w a h = before-apart l l (after-named l l w a h) refl

-- a field put in front of what stands behind it
put-front : (f : Label × Typ) (w : Row) → AllAfter f.0 w → put_field f w ≡ f ∷ w
put-front f [] a = refl
put-front f (g ∷ gs) a = ap (λ b. cond b (g ∷ put_field f gs) (f ∷ g ∷ gs)) (before-back f.0 g.0 a.0)

sorted-stays : (w : Row) → Ascends w → sorted w ≡ w
sorted-stays [] h = refl
sorted-stays (f ∷ fs) h = ap (put_field f) (sorted-stays fs h.1) ∙ put-front f fs h.0

-- what is put is there, and all else stays

put-named : (k : Label) (f : Label × Typ) (w : Row) → (k ≡ f.0) ⊎ Named k w → Named k (put_field f w)
put-named k f [] h = h
put-named k f (g ∷ gs) h = by (label_before g.0 f.0) h (put-named k f gs)
  where
    by : (b : Bool) → (k ≡ f.0) ⊎ Named k (g ∷ gs) → ((k ≡ f.0) ⊎ Named k gs → Named k (put_field f gs)) → Named k (cond b (g ∷ put_field f gs) (f ∷ g ∷ gs))
    by true (inl e) again = inr (again (inl e))
    by true (inr (inl e)) again = inl e
    by true (inr (inr n)) again = inr (again (inr n))
    by false h again = h

sorted-named : (k : Label) (r : Row) → Named k r → Named k (sorted r)
sorted-named k [] h = h
sorted-named k (f ∷ fs) (inl e) = put-named k f (sorted fs) (inl e)
sorted-named k (f ∷ fs) (inr h) = put-named k f (sorted fs) (inr (sorted-named k fs h))

put-after : (l : Label) (f : Label × Typ) (w : Row) → AllAfter l (put_field f w) → AllAfter l w
put-after l f [] h = tt
put-after l f (g ∷ gs) h = by (label_before g.0 f.0) h (put-after l f gs)
  where
    by : (b : Bool) → AllAfter l (cond b (g ∷ put_field f gs) (f ∷ g ∷ gs)) → (AllAfter l (put_field f gs) → AllAfter l gs) → AllAfter l (g ∷ gs)
    by true h again = (h.0, again h.1)
    by false h again = h.1

-- where a field is put into a row and all is in order, the row is, and has no field with its label
record Parted (f : Label × Typ) (w : Row) : Type 0 where
  rest : Ascends w
  apart : Named f.0 w → ⊥

parted : (f : Label × Typ) (w : Row) → Ascends (put_field f w) → Parted f w
parted f [] h = record { rest = tt; apart = λ n. n }
parted f (g ∷ gs) h = by (label_before g.0 f.0) refl h (parted f gs)
  where
    by : (b : Bool) → label_before g.0 f.0 ≡ b → Ascends (cond b (g ∷ put_field f gs) (f ∷ g ∷ gs)) → (Ascends (put_field f gs) → Parted f gs) → Parted f (g ∷ gs)
    by true e h again =
        let p = again h.1 in
        record {
          rest = (put-after g.0 f gs h.0, p.rest);
          apart = λ n. elim n [ inl s ↦ before-apart g.0 f.0 e (sym s) | inr m ↦ p.apart m ];
        }
    by false e h again = record { rest = h.1; apart = λ n. after-apart f.0 (g ∷ gs) h.0 n }

-- a row without the field of a label

abbrev without : Label → Row → Row
without l [] = []
without l (f ∷ fs) = cond (same_label l f.0) fs (f ∷ without l fs)

without-after : (l k : Label) (w : Row) → AllAfter k w → AllAfter k (without l w)
without-after l k [] h = tt
without-after l k (f ∷ fs) h = by (same_label l f.0) (without-after l k fs h.1)
  where
    by : (b : Bool) → AllAfter k (without l fs) → AllAfter k (cond b fs (f ∷ without l fs))
    by true a = h.1
    by false a = (h.0, a)

without-ascends : (l : Label) (w : Row) → Ascends w → Ascends (without l w)
without-ascends l [] h = tt
without-ascends l (f ∷ fs) h = by (same_label l f.0) (without-ascends l fs h.1)
  where
    by : (b : Bool) → Ascends (without l fs) → Ascends (cond b fs (f ∷ without l fs))
    by true a = h.1
    by false a = (without-after l f.0 fs h.0, a)

without-in : (l k : Label) (t : Typ) (w : Row) → (k ≡ l → ⊥) → In k t w → In k t (without l w)
without-in l k t [] ne h = h
without-in l k t (f ∷ fs) ne h = by (same_label l f.0) refl h (without-in l k t fs ne)
  where
    by : (b : Bool) → same_label l f.0 ≡ b → In k t (f ∷ fs) → (In k t fs → In k t (without l fs)) → In k t (cond b fs (f ∷ without l fs))
    by true e (inl i) again = absurd (ne (i.0 ∙ sym (same-is l f.0 e)))
    by true e (inr i) again = i
    by false e (inl i) again = inl i
    by false e (inr i) again = inr (again i)

without-named : (l : Label) (w : Row) → Ascends w → Named l (without l w) → ⊥
without-named l [] h n = n
without-named l (f ∷ fs) h n = by (same_label l f.0) refl n (without-named l fs h.1)
  where
    by : (b : Bool) → same_label l f.0 ≡ b → Named l (cond b fs (f ∷ without l fs)) → (Named l (without l fs) → ⊥) → ⊥
    by true e n again = after-apart f.0 fs h.0 (subst (λ j. Named j fs) (same-is l f.0 e) n)
    by false e (inl s) again = let i = same-itself l in let j = subst (λ j. same_label l j ≡ false) (sym s) e in cc
    by false e (inr n) again = again n

-- the field put back
put-without : (f : Label × Typ) (w : Row) → Ascends w → In f.0 f.1 w → put_field f (without f.0 w) ≡ w
put-without f [] h i = absurd i
put-without f (g ∷ gs) h (inl e) =
    let same : same_label f.0 g.0 ≡ true = subst (λ j. same_label f.0 j ≡ true) e.0 (same-itself f.0) in
    ap (λ b. put_field f (cond b gs (g ∷ without f.0 gs))) same ∙ put-front f gs (subst (λ j. AllAfter j gs) (sym e.0) h.0) ∙ ap₂ (λ l t. (l, t) ∷ gs) e.0 e.1
put-without f (g ∷ gs) h (inr i) =
    let b = after-named g.0 f.0 gs h.0 (in-named f.0 f.1 gs i) in
    ap (λ c. put_field f (cond c gs (g ∷ without f.0 gs))) (differs (same_label f.0 g.0) refl b) ∙ ap (λ c. cond c (g ∷ put_field f (without f.0 gs)) (f ∷ g ∷ without f.0 gs)) b
    ∙ ap (λ l. g ∷ l) (put-without f gs h.1 i)
  where
    differs : (c : Bool) → same_label f.0 g.0 ≡ c → label_before g.0 f.0 ≡ true → c ≡ false
    differs true e b = absurd (before-apart g.0 f.0 b (sym (same-is f.0 g.0 e)))
    differs false e b = refl

-- a row's fields are found in it, also in order

put-in : (k : Label) (t : Typ) (f : Label × Typ) (w : Row) → In k t (f ∷ w) → In k t (put_field f w)
put-in k t f [] h = h
put-in k t f (g ∷ gs) h = by (label_before g.0 f.0) h (put-in k t f gs)
  where
    by : (b : Bool) → In k t (f ∷ g ∷ gs) → (In k t (f ∷ gs) → In k t (put_field f gs)) → In k t (cond b (g ∷ put_field f gs) (f ∷ g ∷ gs))
    by true (inl e) again = inr (again (inl e))
    by true (inr (inl e)) again = inl e
    by true (inr (inr n)) again = inr (again (inr n))
    by false h again = h

sorted-in : (k : Label) (t : Typ) (r : Row) → In k t r → In k t (sorted r)
sorted-in k t [] h = h
sorted-in k t (f ∷ fs) (inl e) = put-in k t f (sorted fs) (inl e)
sorted-in k t (f ∷ fs) (inr h) = put-in k t f (sorted fs) (inr (sorted-in k t fs h))

front-in : (k : Label) (t : Typ) (r o : Row) → In k t r → In k t (r ++ o)
front-in k t [] o h = absurd h
front-in k t (f ∷ fs) o (inl e) = inl e
front-in k t (f ∷ fs) o (inr h) = inr (front-in k t fs o h)

found-in : (k : Label) (t : Typ) (w : Row) → Ascends w → In k t w → lookup (values.same_label k) w ≡ Some t
found-in k t [] a h = absurd h
found-in k t (f ∷ fs) a (inl e) =
    ap (λ b. cond b (Some f.1) (lookup (values.same_label k) fs)) (subst (λ j. values.same_label k j ≡ true) e.0 (same-value k)) ∙ ap Some (sym e.1)
found-in k t (f ∷ fs) a (inr h) =
    ap (λ b. cond b (Some f.1) (lookup (values.same_label k) fs)) (before-differs f.0 k (after-named f.0 k fs a.0 (in-named k t fs h))) ∙ found-in k t fs a.1 h

-- in a row whose labels stand in order, none twice, no label comes twice
once-sorted : (r : Row) → Ascends (sorted r) → distinct same_label (labels_in r) ≡ true
once-sorted [] a = refl
once-sorted (f ∷ fs) a =
    let p = parted f (sorted fs) a in
    ap₂ (λ a b. not a && b) (not-named f.0 fs (λ n. p.apart (sorted-named f.0 fs n))) (once-sorted fs p.rest)

-- all fields of r taken from w

abbrev taken : Row → Row → Row
taken [] w = w
taken (f ∷ fs) w = taken fs (without f.0 w)

all-in : (f : Label × Typ) (fs w : Row) → (Named f.0 (sorted fs) → ⊥) → ((l : Label) (t : Typ) → In l t (f ∷ fs) → In l t w)
    → (l : Label) (t : Typ) → In l t fs → In l t (without f.0 w)
all-in f fs w apart has l t i =
    without-in f.0 l t w (λ e. apart (subst (λ j. Named j (sorted fs)) e (sorted-named l fs (in-named l t fs i)))) (has l t (inr i))

whole : (r w : Row) → Ascends (sorted r) → Ascends w → ((l : Label) (t : Typ) → In l t r → In l t w) → sorted (r ++ taken r w) ≡ w
whole [] w a b has = sorted-stays w b
whole (f ∷ fs) w a b has =
    let p = parted f (sorted fs) a in
    ap (put_field f) (whole fs (without f.0 w) p.rest (without-ascends f.0 w b) (all-in f fs w p.apart has)) ∙ put-without f w b (has f.0 f.1 (inl (refl, refl)))

-- labels and types apart

abbrev row_by : List Label → Typs → Row
row_by [] us = []
row_by (k ∷ ks) none = []
row_by (k ∷ ks) (more u us) = (k, u) ∷ row_by ks us

by-labels : (ks : List Label) (us : Typs) → IsProper ks us → labels_in (row_by ks us) ≡ ks
by-labels [] us p = refl
by-labels (k ∷ ks) none p = absurd p
by-labels (k ∷ ks) (more u us) p = ap (λ l. k ∷ l) (by-labels ks us p.1)

by-types : (ks : List Label) (us : Typs) → IsProper ks us → typs_of (map (λ f. f.1) (row_by ks us)) ≡ us
by-types [] none p = refl
by-types [] (more u us) p = absurd p
by-types (k ∷ ks) none p = absurd p
by-types (k ∷ ks) (more u us) p = ap (more u) (by-types ks us p.1)

at-by : (l : Label) (t : Typ) (ks : List Label) (us : Typs) → At l t ks us → In l t (row_by ks us)
at-by l t [] us h = absurd h
at-by l t (k ∷ ks) none h = absurd h
at-by l t (k ∷ ks) (more u us) (inl e) = inl e
at-by l t (k ∷ ks) (more u us) (inr h) = inr (at-by l t ks us h)

by-at : (W : World) (l : Label) (t : Typ) (ys : List Field) → In l t (row_of W ys) → At l t (map (λ f. f.label) ys) (types_of W (map (λ f. f.part) ys))
by-at W l t [] h = absurd h
by-at W l t (y ∷ ys) (inl e) = inl e
by-at W l t (y ∷ ys) (inr h) = inr (by-at W l t ys h)

by-row : (t : Typ) (ks : List Label) (us : Typs) → IsProper ks us → t ≡ con (labels ks) us → t ≡ row_type (row_by ks us)
by-row t ks us p e = e ∙ ap₂ (λ l u. con (labels l) u) (sym (by-labels ks us p)) (sym (by-types ks us p))

-- A type in order that extends a row has its fields.
pub opened : (W : World) (m : ℕ → Bool) (d : Bool) (xs ys : List Field) (us : Typs) (t : Typ) → ys ≡ sorted_fields xs → ascend (map (λ f. f.label) ys) ≡ true
    → us ≡ types_of W (map (λ f. f.part) ys) → is_ordered t ≡ true → Extends m d (map (λ f. f.label) ys) us t → HasFields W xs t
opened W m d xs ys us t e up same o h =
    let r = row_of W xs in
    let w = row_by h.names h.types in
    let in-order : sorted r ≡ row_of W ys = sym (row-sorted W xs) ∙ ap (row_of W) (sym e) in
    let inner : ascend (labels_in (sorted r)) ≡ true = ap (λ l. ascend (labels_in l)) in-order ∙ ap ascend (labels-of W ys) ∙ up in
    let outer : ascend (labels_in w) ≡ true
    = ap ascend (by-labels h.names h.types h.proper) ∙ (and_parts (ascend h.names) (are_ordered h.types) (ap is_ordered (sym h.is) ∙ o)).0 in
    let is = whole r w (ascends (sorted r) inner) (ascends w outer)
    (λ l u i. at-by l u h.names h.types
    (h.fields l u (subst (At l u (map (λ f. f.label) ys)) (sym same) (by-at W l u ys (subst (In l u) in-order (sorted-in l u r i)))))) in
    record {
      others = taken r w;
      is = by-row t h.names h.types h.proper h.is ∙ ap row_type (sym is);
      once = ap (λ l. ascend (labels_in l)) is ∙ outer;
    }

-- what a pattern of records asks

pub open-once : (r o : Row) → ascend (labels_in (sorted (r ++ o))) ≡ true → distinct same_label (labels_in (r ++ o)) ≡ true
open-once r o e = once-sorted (r ++ o) (ascends (sorted (r ++ o)) e)

among-in : (W : World) (x : Field) (xs : List Field) → Among x xs → In x.label (type_of W x.part) (row_of W xs)
among-in W x [] h = absurd h
among-in W x (y ∷ ys) (inl e) = inl (ap (λ f. f.label) e, ap (λ f. type_of W f.part) e)
among-in W x (y ∷ ys) (inr h) = inr (among-in W x ys h)

pub open-found : (W : World) (x : Field) (xs : List Field) (o : Row) → ascend (labels_in (sorted (row_of W xs ++ o))) ≡ true → Among x xs
    → lookup (values.same_label x.label) (sorted (row_of W xs ++ o)) ≡ Some (type_of W x.part)
open-found W x xs o e h =
    let r = row_of W xs ++ o in
    found-in x.label (type_of W x.part) (sorted r) (ascends (sorted r) e)
    (sorted-in x.label (type_of W x.part) r (front-in x.label (type_of W x.part) (row_of W xs) o (among-in W x xs h)))
