-- Labels are distinct where their numbers are once.
use Rattle.std.proofs.Common.{◌≡◌, ◌↔◌, ℕ, zero, suc, ◌+◌, ◌≤◌, Bool, true, false, ◌&&◌, List, [], ◌∷◌, map, nat_eq, cond, if◌then◌else◌, IsTrue, refl, sym, ap, ◌∙◌, subst, arith}
use Rattle.std.proofs.lemmas.Bool.{eqb-true, eq-eqb, and_parts, and_from}
use Rattle.mlc_names.specs.declared.label.Label.{Label}
use Rattle.mlc_names.specs.declared.label.Label.TheVariants.{Number, Word}
use Rattle.ir_values.specs.Values.{same_label}
use Rattle.ir_plain.specs.Once.{hit}
use Rattle.plain_tree.specs.Sums.{count_of}
use Rattle.mono_uses.specs.of_mono_fits.Asked.{is_other, are_distinct}
use Rattle.mono_operations.specs.Keys.{label_key}

same-answer : (a b : Bool) → (a ≡ true → b ≡ true) → (b ≡ true → a ≡ true) → a ≡ b
same-answer true true f g = refl
same-answer false false f g = refl
same-answer true false f g = absurd (let e : false ≡ true = f refl in cc)
same-answer false true f g = absurd (let e : false ≡ true = g refl in cc)

odd-even : (m n : ℕ) → m + m ≡ n + n + 1 → ⊥
odd-even zero n e = absurd (omega arith)
odd-even (suc m) zero e = absurd (omega arith)
odd-even (suc m) (suc n) e = odd-even m n (omega arith)

halves : (m n : ℕ) → m + m ≡ n + n → m ≡ n
halves m n e = omega arith

-- two labels are one where their numbers are
key-same : (l k : Label) → nat_eq (label_key l) (label_key k) ≡ same_label l k
key-same (Number m) (Number n) = same-answer (nat_eq (m + m) (n + n)) (nat_eq m n) (λ e. eq-eqb m n (halves m n (eqb-true (m + m) (n + n) e))) (λ e. let same : m ≡ n = eqb-true m n e in eq-eqb (m + m) (n + n) (omega arith))
key-same (Word x) (Word y) = same-answer (nat_eq (x + x + 1) (y + y + 1)) (nat_eq x y)
    (λ e. let p : x + x + 1 ≡ y + y + 1 = eqb-true (x + x + 1) (y + y + 1) e in eq-eqb x y (halves x y (omega arith))) (λ e. let same : x ≡ y = eqb-true x y e in eq-eqb (x + x + 1) (y + y + 1) (omega arith))
key-same (Number m) (Word y) = same-answer (nat_eq (m + m) (y + y + 1)) false (λ e. absurd (odd-even m y (eqb-true (m + m) (y + y + 1) e))) (λ e. absurd (cc))
key-same (Word x) (Number n) = same-answer (nat_eq (x + x + 1) (n + n)) false (λ e. absurd (odd-even n x (sym (eqb-true (x + x + 1) (n + n) e)))) (λ e. absurd (cc))

turned : (x y : ℕ) → nat_eq x y ≡ nat_eq y x
turned x y = same-answer (nat_eq x y) (nat_eq y x) (λ e. eq-eqb y x (sym (eqb-true x y e))) (λ e. eq-eqb x y (sym (eqb-true y x e)))

-- a label is none of the others where its number is not among theirs
other-count : (l : Label) (ls : List Label) → is_other l ls ≡ true → count_of (label_key l) (map label_key ls) ≡ 0
other-count l [] e = refl
other-count l (k ∷ ls) e = by (same_label k l) (turned (label_key l) (label_key k) ∙ key-same k l) e (other-count l ls)
  where
    by : (b : Bool) → nat_eq (label_key l) (label_key k) ≡ b → cond b false (is_other l ls) ≡ true → (is_other l ls ≡ true → count_of (label_key l) (map label_key ls) ≡ 0)
        → hit (label_key l) (label_key k) + count_of (label_key l) (map label_key ls) ≡ 0
    by true d e rest = absurd (cc)
    by false d e rest = let z : hit (label_key l) (label_key k) ≡ 0 = ap (λ b. if b then 1 else 0) d in let r = rest e in omega arith

count-other : (l : Label) (ls : List Label) → count_of (label_key l) (map label_key ls) ≡ 0 → is_other l ls ≡ true
count-other l [] e = refl
count-other l (k ∷ ls) e = by (same_label k l) (turned (label_key l) (label_key k) ∙ key-same k l) e (count-other l ls)
  where
    by : (b : Bool) → nat_eq (label_key l) (label_key k) ≡ b → hit (label_key l) (label_key k) + count_of (label_key l) (map label_key ls) ≡ 0
        → (count_of (label_key l) (map label_key ls) ≡ 0 → is_other l ls ≡ true) → cond b false (is_other l ls) ≡ true
    by true d e rest = absurd (let z : hit (label_key l) (label_key k) ≡ 1 = ap (λ b. if b then 1 else 0) d in omega arith)
    by false d e rest = rest (omega arith)

hit-self : (k : ℕ) → hit k k ≡ 1
hit-self k = ap (λ b. if b then 1 else 0) (eq-eqb k k refl)

once-since : (ls : List Label) → are_distinct ls ≡ true → (k : ℕ) → count_of k (map label_key ls) ≤ 1
once-since [] e k = omega arith
once-since (l ∷ ls) e k =
    let a = and_parts (is_other l ls) (are_distinct ls) e in
    let z = other-count l ls a.0 in
    let r = once-since ls a.1 k in
    by (nat_eq k (label_key l)) refl z r
  where
    by : (b : Bool) → nat_eq k (label_key l) ≡ b → count_of (label_key l) (map label_key ls) ≡ 0 → count_of k (map label_key ls) ≤ 1 → hit k (label_key l) + count_of k (map label_key ls) ≤ 1
    by true d z r =
        let h : hit k (label_key l) ≡ 1 = ap (λ b. if b then 1 else 0) d in
        let y : count_of k (map label_key ls) ≡ 0 = subst (λ j. count_of j (map label_key ls) ≡ 0) (sym (eqb-true k (label_key l) d)) z in omega arith
    by false d z r = let h : hit k (label_key l) ≡ 0 = ap (λ b. if b then 1 else 0) d in omega arith

distinct-since : (ls : List Label) → ((k : ℕ) → count_of k (map label_key ls) ≤ 1) → are_distinct ls ≡ true
distinct-since [] f = refl
distinct-since (l ∷ ls) f =
    let p : hit (label_key l) (label_key l) + count_of (label_key l) (map label_key ls) ≤ 1 = f (label_key l) in
    let h = hit-self (label_key l) in
    and_from (is_other l ls) (are_distinct ls) (count-other l ls (omega arith)) (distinct-since ls (λ k. let q : hit k (label_key l) + count_of k (map label_key ls) ≤ 1 = f k in omega arith))

pub distinct-once : (ls : List Label) (keys : List ℕ) (b : Bool) → keys ≡ map label_key ls → IsTrue b ↔ ((k : ℕ) → count_of k keys ≤ 1) → b ≡ are_distinct ls
distinct-once ls keys b e w = same-answer b (are_distinct ls) (λ y. distinct-since ls (λ k. subst (λ l. count_of k l ≤ 1) e (w.0 y k))) (λ y. w.1 (λ k. subst (λ l. count_of k l ≤ 1) (sym e) (once-since ls y k)))
