-- A closure is made of few pieces: what is captured around and captured again is a run for each gap.
use Rattle.std.proofs.Common.{◌≡◌, ◌≤◌, ℕ, zero, suc, ◌+◌, List, [], ◌∷◌, ◌++◌, length, Bool, true, false, if◌then◌else◌, nat_eq, refl, sym, ap, subst, arith}
use Rattle.flow_sets.specs.of_ir_plain.Tree.{Fun}
use Rattle.flow_sets.specs.of_ir_mono.Types as table
use Rattle.flow_sets.specs.of_ir_mono.Mono.{mono}
use Rattle.flow_sets.proofs.Member.{nat_eq-same}
use Rattle.closure_convert.specs.Scope.{names, Scope, index_of, Piece, alone, those}
use Rattle.closure_convert.specs.Capture.{occurs_fun, onto, kept, is_outer, add_run, cut, wanted}
use Rattle.closure_convert.specs.Counts.{dropped, Aligned}

-- Runs

-- the pieces begin with a run from i, and are at most one more than this, or they are at most this
pub data Few (i n : ℕ) : List Piece → Type 0 where
  begins : (count : ℕ) (ps : List Piece) → suc (length ps) ≤ suc n → Few i n (those i count ∷ ps)
  others : (ps : List Piece) → length ps ≤ n → Few i n ps

add-some : (i n : ℕ) (ps : List Piece) → length ps ≤ n → Few i n (add_run i ps)
add-some i n [] h = begins (suc zero) [] (omega (arith, h))
add-some i n (alone y ∷ ps) h = begins (suc zero) (alone y ∷ ps) (omega (arith, h))
add-some i n (those j c ∷ ps) h = pick (nat_eq j (suc i))
  where
    pick : (b : Bool) → Few i n (if b then those i (suc c) ∷ ps else those i (suc zero) ∷ those j c ∷ ps)
    pick true = begins (suc c) ps (omega (arith, h))
    pick false = begins (suc zero) (those j c ∷ ps) (omega (arith, h))

add-few : (i n : ℕ) {ps : List Piece} → Few (suc i) n ps → Few i n (add_run i ps)
add-few i n (begins c ps h) = subst (λ b. Few i n (if b then those i (suc c) ∷ ps else those i (suc zero) ∷ those (suc i) c ∷ ps)) (sym (nat_eq-same (suc i))) (begins (suc c) ps h)
add-few i n (others ps h) = add-some i n ps h

skip-few : (i j n : ℕ) {ps : List Piece} → Few i n ps → Few j (suc n) ps
skip-few i j n (begins c ps h) = others _ h
skip-few i j n (others ps h) = others ps (omega (arith, h))

pub few-at-most : (i n : ℕ) {ps : List Piece} → Few i n ps → length ps ≤ suc n
few-at-most i n (begins c ps h) = h
few-at-most i n (others ps h) = omega (arith, h)

pub cut-few : (s : Scope) (p : ℕ → Bool) (i : ℕ) (ds tail : List ℕ) → Aligned s i ds → Few i (dropped p ds + length (cut s tail)) (cut s (kept p ds ++ tail))
cut-few s p i [] tail h = others (cut s tail) (omega arith)
cut-few s p i (y ∷ ds) tail h = pick (p y) (cut-few s p (suc i) ds tail h.1.1)
  where
    outer_is : Few i (dropped p ds + length (cut s tail)) (add_run i (cut s (kept p ds ++ tail))) → Few i (dropped p ds + length (cut s tail)) (cut s (y ∷ (kept p ds ++ tail)))
    outer_is k = subst (λ b. Few i (dropped p ds + length (cut s tail)) (if b then add_run (index_of y s.captured) (cut s (kept p ds ++ tail)) else alone y ∷ cut s (kept p ds ++ tail))) (sym h.0)
        (subst (λ j. Few i (dropped p ds + length (cut s tail)) (add_run j (cut s (kept p ds ++ tail)))) (sym h.1.0) k)

    one_more : (n : ℕ) → Few (suc i) n (cut s (kept p ds ++ tail)) → Few i (suc n) (cut s (kept p ds ++ tail))
    one_more n k = skip-few (suc i) i n k

    moved : (n m : ℕ) → m ≡ suc n → Few i (suc n) (cut s (kept p ds ++ tail)) → Few i m (cut s (kept p ds ++ tail))
    moved n m e k = subst (λ l. Few i l (cut s (kept p ds ++ tail))) (sym e) k

    pick : (b : Bool) → Few (suc i) (dropped p ds + length (cut s tail)) (cut s (kept p ds ++ tail)) → Few i ((if b then dropped p ds else suc (dropped p ds)) + length (cut s tail)) (cut s ((if b then y ∷ kept p ds else kept p ds) ++ tail))
    pick true k = outer_is (add-few i (dropped p ds + length (cut s tail)) k)
    pick false k = moved (dropped p ds + length (cut s tail)) (suc (dropped p ds) + length (cut s tail)) (omega arith) (one_more (dropped p ds + length (cut s tail)) k)

-- never more pieces than variables
run-short : (i : ℕ) (ps : List Piece) → length (add_run i ps) ≤ suc (length ps)
run-short i [] = omega arith
run-short i (alone y ∷ ps) = omega arith
run-short i (those j n ∷ ps) = pick (nat_eq j (suc i))
  where
    pick : (b : Bool) → length (if b then those i (suc n) ∷ ps else those i (suc zero) ∷ those j n ∷ ps) ≤ suc (suc (length ps))
    pick true = omega arith
    pick false = omega arith

pub cut-short : (s : Scope) (xs : List ℕ) → length (cut s xs) ≤ length xs
cut-short s [] = omega arith
cut-short s (y ∷ ys) = pick (is_outer s y) (cut-short s ys)
  where
    pick : (b : Bool) → length (cut s ys) ≤ length ys → length (if b then add_run (index_of y s.captured) (cut s ys) else alone y ∷ cut s ys) ≤ suc (length ys)
    pick true h = let k = run-short (index_of y s.captured) (cut s ys) in omega (arith, h, k)
    pick false h = omega (arith, h)

pub kept-joined : (p : ℕ → Bool) (xs ys : List ℕ) → kept p (xs ++ ys) ≡ kept p xs ++ kept p ys
kept-joined p [] ys = refl
kept-joined p (x ∷ xs) ys = pick (p x) (kept-joined p xs ys)
  where
    pick : (b : Bool) → kept p (xs ++ ys) ≡ kept p xs ++ kept p ys → (if b then x ∷ kept p (xs ++ ys) else kept p (xs ++ ys)) ≡ (if b then x ∷ kept p xs else kept p xs) ++ kept p ys
    pick true e = ap (λ l. x ∷ l) e
    pick false e = e

-- what a function captures of its surroundings: a run for each gap, and one piece for each of the others
pub made-few : (types : List table.Row) (s : Scope) (f : Fun (mono types)) → Aligned s zero s.captured → length (cut s (wanted types s f)) ≤ suc (dropped (λ y. occurs_fun types y f) s.captured) + length (kept (λ y. occurs_fun types y f) (names s.group ++ onto s.locals []))
made-few types s f h =
    let tail : List ℕ = kept (λ y. occurs_fun types y f) (names s.group ++ onto s.locals []) in
    let few : length (cut s (kept (λ y. occurs_fun types y f) s.captured ++ tail)) ≤ suc (dropped (λ y. occurs_fun types y f) s.captured + length (cut s tail)) = few-at-most zero (dropped (λ y. occurs_fun types y f) s.captured + length (cut s tail)) (cut-few s (λ y. occurs_fun types y f) zero s.captured tail h) in
    let short : length (cut s tail) ≤ length tail = cut-short s tail in
    subst (λ l. length (cut s l) ≤ suc (dropped (λ y. occurs_fun types y f) s.captured) + length tail) (sym (kept-joined (λ y. occurs_fun types y f) s.captured (names s.group ++ onto s.locals []))) (omega (arith, few, short))
