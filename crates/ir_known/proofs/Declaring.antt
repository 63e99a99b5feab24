-- Parameters that are declared from the last to the first.
use Rattle.std.proofs.Common.{◌≡◌, ℕ, zero, suc, ◌<◌, ◌≤◌, ◌-◌, Bool, true, false, not, ◌&&◌, ◌||◌, List, [], ◌∷◌, ◌++◌, length, drop, slice_index_or, Some, None, nat_eq, cond, refl, sym, ap, ◌∙◌, subst, arith}
use Rattle.std.proofs.lemmas.Bool.{and_parts, and_from, both_ways, eqb-true, eq-eqb}
use Rattle.std.specs.Map.{lookup}
use Rattle.ir_tables.specs.of_ty_core.declared.mark.Mark.{Mark}
use Rattle.ir_tables.specs.of_ty_core.declared.scheme.Quantified.{Quantified}
use Rattle.ir_tables.specs.of_ir_poly.Types.{in_scope, is_declarable, are_new}
use Rattle.ir_known.specs.Knows.{marks_of}

pub nat_eq-turned : (x y : ℕ) → nat_eq x y ≡ nat_eq y x
nat_eq-turned x y = by (nat_eq x y) (nat_eq y x) refl refl
  where
    by : (a b : Bool) → nat_eq x y ≡ a → nat_eq y x ≡ b → a ≡ b
    by true true p q = refl
    by false false p q = refl
    by true false p q = absurd (let same : nat_eq y x ≡ true = eq-eqb y x (sym (eqb-true x y p)) in cc)
    by false true p q = absurd (let same : nat_eq x y ≡ true = eq-eqb x y (sym (eqb-true y x q)) in cc)

-- what is not found is not in scope
pub not-in-scope : (rows : List (ℕ × Mark)) (v : ℕ) → lookup (nat_eq v) rows ≡ None → in_scope (marks_of rows) v ≡ false
not-in-scope [] v e = refl
not-in-scope (q ∷ rows) v e = ap (λ b. b || in_scope (marks_of rows) v) (nat_eq-turned q.0 v) ∙ by (nat_eq v q.0) e (not-in-scope rows v)
  where
    by : (b : Bool) → cond b (Some q.1) (lookup (nat_eq v) rows) ≡ None → (lookup (nat_eq v) rows ≡ None → in_scope (marks_of rows) v ≡ false) → (b || in_scope (marks_of rows) v) ≡ false
    by true e rest = absurd (cc)
    by false e rest = rest e

pub outside-found : (rows : List (ℕ × Mark)) (v : ℕ) → in_scope (marks_of rows) v ≡ false → lookup (nat_eq v) rows ≡ None
outside-found [] v e = refl
outside-found (q ∷ rows) v e = by (nat_eq v q.0) (ap (λ b. b || in_scope (marks_of rows) v) (sym (nat_eq-turned q.0 v)) ∙ e) (outside-found rows v)
  where
    by : (b : Bool) → (b || in_scope (marks_of rows) v) ≡ false → (in_scope (marks_of rows) v ≡ false → lookup (nat_eq v) rows ≡ None) → cond b (Some q.1) (lookup (nat_eq v) rows) ≡ None
    by true e rest = absurd (cc)
    by false e rest = rest e

in_scope-append : (qs D : List Quantified) (v : ℕ) → in_scope (qs ++ D) v ≡ (in_scope qs v || in_scope D v)
in_scope-append [] D v = refl
in_scope-append (q ∷ qs) D v = by (nat_eq q.variable v) (in_scope-append qs D v)
  where
    by : (b : Bool) → in_scope (qs ++ D) v ≡ (in_scope qs v || in_scope D v) → (b || in_scope (qs ++ D) v) ≡ ((b || in_scope qs v) || in_scope D v)
    by true e = refl
    by false e = e

-- one more is new where it is outside all that are in scope then
new-more : (q : Quantified) (qs D : List Quantified) → is_declarable q.mark ≡ true → are_new qs D ≡ true → in_scope (qs ++ D) q.variable ≡ false → are_new (q ∷ qs) D ≡ true
new-more q qs D m n o = and_from _ _ m (by (in_scope qs q.variable) (in_scope D q.variable) (sym (in_scope-append qs D q.variable) ∙ o))
  where
    by : (a b : Bool) → (a || b) ≡ false → (not b && (not a && are_new qs D)) ≡ true
    by false false e = n
    by true b e = absurd (cc)
    by false true e = absurd (cc)

new-outside : (q : Quantified) (qs D : List Quantified) → are_new (q ∷ qs) D ≡ true → in_scope (qs ++ D) q.variable ≡ false
new-outside q qs D n = in_scope-append qs D q.variable ∙ by (in_scope qs q.variable) (in_scope D q.variable) (and_parts (is_declarable q.mark) _ n).1
  where
    by : (a b : Bool) → (not b && (not a && are_new qs D)) ≡ true → (a || b) ≡ false
    by false false e = refl
    by true true e = absurd (cc)
    by true false e = absurd (cc)
    by false true e = absurd (cc)

new-rest : (q : Quantified) (qs D : List Quantified) → are_new (q ∷ qs) D ≡ true → are_new qs D ≡ true
new-rest q qs D n = by (not (in_scope D q.variable)) (not (in_scope qs q.variable)) (and_parts (is_declarable q.mark) _ n).1
  where
    by : (a b : Bool) → (a && (b && are_new qs D)) ≡ true → are_new qs D ≡ true
    by true true e = e
    by true false e = absurd (cc)
    by false b e = absurd (cc)

new-dropped : (n : ℕ) (qs D : List Quantified) → are_new qs D ≡ true → are_new (drop n qs) D ≡ true
new-dropped zero qs D e = e
new-dropped (suc n) [] D e = e
new-dropped (suc n) (q ∷ qs) D e = new-dropped n qs D (new-rest q qs D e)

drop-there : (n : ℕ) (qs : List Quantified) (q d : Quantified) → n < length qs → q ≡ slice_index_or qs n d → drop n qs ≡ q ∷ drop (suc n) qs
drop-there n [] q d lt e = absurd (omega arith)
drop-there zero (p ∷ qs) q d lt e = ap (λ p. p ∷ qs) (sym e)
drop-there (suc n) (p ∷ qs) q d lt e = drop-there n qs q d (omega arith) e

-- those from n on are declared
pub record Declared (rows all : List (ℕ × Mark)) (qs : List Quantified) (n : ℕ) : Type 0 where
  pub within : n ≤ length qs
  pub new : are_new (drop n qs) (marks_of rows) ≡ true
  pub declared : marks_of all ≡ drop n qs ++ marks_of rows
  pub longer : length rows ≤ length all
  pub behind : drop (length all - length rows) all ≡ rows

pub one-declared : (rows all : List (ℕ × Mark)) (qs : List Quantified) (n : ℕ) (d : Quantified) → n < length qs → Declared rows all qs (suc n) → is_declarable (slice_index_or qs n d).mark ≡ true → lookup (nat_eq (slice_index_or qs n d).variable) all ≡ None
    → (new : List (ℕ × Mark)) → new ≡ ((slice_index_or qs n d).variable, (slice_index_or qs n d).mark) ∷ all → Declared rows new qs n
one-declared rows all qs n d lt f mark none new is = record {
  within = omega arith;
  new = subst (λ l. are_new l (marks_of rows) ≡ true) (sym there)
      (new-more q (drop (suc n) qs) (marks_of rows) mark f.new (subst (λ l. in_scope l q.variable ≡ false) f.declared (not-in-scope all q.variable none)));
  declared = ap marks_of is ∙ ap (λ l. q ∷ l) f.declared ∙ ap (λ l. l ++ marks_of rows) (sym there);
  longer = let e = ap length is in let l = f.longer in omega arith;
  behind = ap (λ l. drop (length l - length rows) l) is ∙ ap (λ k. drop k ((q.variable, q.mark) ∷ all)) less ∙ f.behind;
}
  where
    q : Quantified
    q = slice_index_or qs n d

    there : drop n qs ≡ q ∷ drop (suc n) qs
    there = drop-there n qs q d lt refl

    less : suc (length all) - length rows ≡ suc (length all - length rows)
    less = let l = f.longer in omega arith

pub not-declared : (rows all : List (ℕ × Mark)) (qs : List Quantified) (n : ℕ) (d : Quantified) → n < length qs → Declared rows all qs (suc n) → (lookup (nat_eq (slice_index_or qs n d).variable) all ≡ None → ⊥)
    → are_new qs (marks_of rows) ≡ true → ⊥
not-declared rows all qs n d lt f some new = some (outside-found all q.variable (subst (λ l. in_scope l q.variable ≡ false) (sym f.declared)
    (new-outside q (drop (suc n) qs) (marks_of rows) (subst (λ l. are_new l (marks_of rows) ≡ true) (drop-there n qs q d lt refl) (new-dropped n qs (marks_of rows) new)))))
  where
    q : Quantified
    q = slice_index_or qs n d

pub not-declarable : (rows : List (ℕ × Mark)) (qs : List Quantified) (n : ℕ) (d : Quantified) → n < length qs → is_declarable (slice_index_or qs n d).mark ≡ false → are_new qs (marks_of rows) ≡ true → ⊥
not-declarable rows qs n d lt mark new =
    let q = slice_index_or qs n d in
    both_ways (is_declarable q.mark) mark
    (and_parts (is_declarable q.mark) _ (subst (λ l. are_new l (marks_of rows) ≡ true) (drop-there n qs q d lt refl) (new-dropped n qs (marks_of rows) new))).0

pub the-next : (n : ℕ) → 0 < n → n ≡ suc (n - 1)
the-next n lt = omega arith

pub not-yes : {b : Bool} → b ≡ false → b ≡ true → ⊥
not-yes e f = cc
