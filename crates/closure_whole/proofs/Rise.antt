-- The sets by type in rising order have the same functions.
use Rattle.std.proofs.Common.{◌≡◌, ℕ, zero, suc, ◌+◌, ◌<◌, ◌≤◌, Bool, true, false, ◌||◌, List, [], ◌∷◌, length, Option, Some, None, nat_eq, nat_lt, if◌then◌else◌, get_or, refl, sym, ap, subst, ◌∙◌, arith}
use Rattle.std.proofs.lemmas.Bool.{ltb-true, ltb-false}
use mathlib.Core.Logic.{◌⊎◌, inl, inr}
use Rattle.ir_mono.specs.Types.{Node, node, node_at, Is}
use Rattle.ir_mono.specs.Types as table
use Rattle.flow_sets.specs.Member.{is_in, Within}
use Rattle.flow_sets.specs.ByType.{What, value, name, parameter, Bound, bound_in, is_of, sets_from}
use Rattle.flow_sets.proofs.Member.{nat_eq-to, nat_eq-same, or_left}
use Rattle.flow_sets.proofs.Sets.{AllKnown, IsParameter, of, in-set, of-set}
use Rattle.closure_whole.specs.Rising.{is_function, functions_from, larger, above, rising_from}

or-right : (a : Bool) {d : Bool} → d ≡ true → (a || d) ≡ true
or-right true h = refl
or-right false h = h

-- what is among them is a function of the type
at-one : (t k x : ℕ) (bs : List Bound) (ks : List ℕ) → (is_in k ks ≡ true → is_function t (bound_in k bs) ≡ true) → (b : Bool) → is_function t (bound_in x bs) ≡ b → (c : Bool) → nat_eq k x ≡ c
    → is_in k (if b then x ∷ ks else ks) ≡ true → is_function t (bound_in k bs) ≡ true
at-one t k x bs ks more true e true q i = subst (λ z. is_function t (bound_in z bs) ≡ true) (sym (nat_eq-to k x q)) e
at-one t k x bs ks more true e false q i = more (sym (ap (λ c. c || is_in k ks) q) ∙ i)
at-one t k x bs ks more false e c q i = more i

pub among-functions : (t k x n : ℕ) (bs : List Bound) → is_in k (functions_from t x n bs) ≡ true → is_function t (bound_in k bs) ≡ true
among-functions t k x zero bs i = absurd (cc)
among-functions t k x (suc n) bs i = at-one t k x bs (functions_from t (suc x) n bs) (among-functions t k (suc x) n bs) (is_function t (bound_in x bs)) refl (nat_eq k x) refl i

in-front : (k x : ℕ) (ks : List ℕ) (b : Bool) → is_in k ks ≡ true → is_in k (if b then x ∷ ks else ks) ≡ true
in-front k x ks true i = or-right (nat_eq k x) i
in-front k x ks false i = i

apart : (k x : ℕ) → nat_eq k x ≡ false → x ≤ k → suc x ≤ k
apart k x q l = by (nat_lt x k) refl
  where
    by : (c : Bool) → nat_lt x k ≡ c → suc x ≤ k
    by true w = let v : x < k = ltb-true x k w in omega (arith, v)
    by false w =
        let v : k ≤ x = ltb-false x k w in
        let e : k ≡ x = omega (arith, v, l) in
        let r : nat_eq k x ≡ true = subst (λ z. nat_eq k z ≡ true) e (nat_eq-same k) in absurd (cc)

at-first : (t k x n : ℕ) (bs : List Bound) → x ≤ k → is_function t (bound_in k bs) ≡ true → (c : Bool) → nat_eq k x ≡ c → (suc x ≤ k → is_in k (functions_from t (suc x) n bs) ≡ true)
    → is_in k (if is_function t (bound_in x bs) then x ∷ functions_from t (suc x) n bs else functions_from t (suc x) n bs) ≡ true
at-first t k x n bs l f true q more =
    let e : x ≡ k = sym (nat_eq-to k x q) in
    let g : is_function t (bound_in x bs) ≡ true = subst (λ z. is_function t (bound_in z bs) ≡ true) (sym e) f in
    ap (λ b. is_in k (if b then x ∷ functions_from t (suc x) n bs else functions_from t (suc x) n bs)) g ∙ or_left (nat_eq k x) (is_in k (functions_from t (suc x) n bs)) q
at-first t k x n bs l f false q more = in-front k x (functions_from t (suc x) n bs) (is_function t (bound_in x bs)) (more (apart k x q l))

-- and each function of the type that is in the range is among them
functions-have : (t k x n : ℕ) (bs : List Bound) → x ≤ k → k < x + n → is_function t (bound_in k bs) ≡ true → is_in k (functions_from t x n bs) ≡ true
functions-have t k x zero bs l h f = absurd (omega (arith, l, h))
functions-have t k x (suc n) bs l h f = at-first t k x n bs l f (nat_eq k x) refl (λ further. functions-have t k (suc x) n bs further (omega (arith, h)) f)

larger-more : (x n k : ℕ) → (k < n) ⊎ (k ≡ x) → k < larger x n
larger-more x n k h = by (nat_lt x n) refl h
  where
    by : (b : Bool) → nat_lt x n ≡ b → (k < n) ⊎ (k ≡ x) → k < (if b then n else suc x)
    by true q (inl l) = l
    by true q (inr e) = let v : x < n = ltb-true x n q in omega (arith, v, e)
    by false q (inl l) = let v : n ≤ x = ltb-false x n q in omega (arith, v, l)
    by false q (inr e) = omega (arith, e)

below-at : (k : ℕ) (c : Bound) (bs : List Bound) (b : Bound) (x : Bool) → nat_eq k c.variable ≡ x → (bound_in k bs ≡ Some b → k < above bs) → (if x then Some c else bound_in k bs) ≡ Some b → k < larger c.variable (above bs)
below-at k c bs b true q more h = larger-more c.variable (above bs) k (inr (nat_eq-to k c.variable q))
below-at k c bs b false q more h = larger-more c.variable (above bs) k (inl (more h))

bound-below : (k : ℕ) (bs : List Bound) {b : Bound} → bound_in k bs ≡ Some b → k < above bs
bound-below k [] e = absurd (cc)
bound-below k (c ∷ bs) {b} e = below-at k c bs b (nat_eq k c.variable) refl (λ h. bound-below k bs h) e

rising-at : (t n i : ℕ) (bs : List Bound) → i < n → get_or (rising_from t n bs) i [] ≡ functions_from (t + i) zero (above bs) bs
rising-at t zero i bs h = absurd (omega (arith, h))
rising-at t (suc n) zero bs h = let e : t ≡ t + zero = omega arith in ap (λ u. functions_from u zero (above bs) bs) e
rising-at t (suc n) (suc i) bs h = let e : suc t + i ≡ t + suc i = omega arith in rising-at (suc t) n i bs (omega (arith, h)) ∙ ap (λ u. functions_from u zero (above bs) bs) e

rising-past : (t n i : ℕ) (bs : List Bound) → n ≤ i → get_or (rising_from t n bs) i [] ≡ []
rising-past t zero i bs h = refl
rising-past t (suc n) zero bs h = absurd (omega (arith, h))
rising-past t (suc n) (suc i) bs h = rising-past (suc t) n i bs (omega (arith, h))

sets-past : (t n i : ℕ) (bs : List Bound) → n ≤ i → get_or (sets_from t n bs) i [] ≡ []
sets-past t zero i bs h = refl
sets-past t (suc n) zero bs h = absurd (omega (arith, h))
sets-past t (suc n) (suc i) bs h = sets-past (suc t) n i bs (omega (arith, h))

-- a row of the table is a type
record IsType (types : List table.Row) (t : ℕ) : Type 0 where
  head : Rattle.ty_core.specs.Types.Symbol
  parts : List ℕ
  is : Is types t head parts

row-there : (types : List table.Row) (t : ℕ) → t < length types → IsType types t
row-there [] t h = absurd (omega (arith, h))
row-there (r ∷ rs) zero h = of-node r.type refl
  where
    of-node : (n : Node) → r.type ≡ n → IsType (r ∷ rs) zero
    of-node (node s ps) e = record { head = s; parts = ps; is = ap Some e }
row-there (r ∷ rs) (suc t) h = let w = row-there rs t (omega (arith, h)) in record { head = w.head; parts = w.parts; is = w.is }

-- a function of the type has an entry that says so
entry-of : (t : ℕ) (all : List Bound) (k : ℕ) (o : Option Bound) → bound_in k all ≡ o → is_function t o ≡ true → IsParameter all k t
entry-of t all k None e f = absurd (cc)
entry-of t all k (Some b) e f = record { entry = b; found = e; is = by b.what f }
  where
    by : (w : What) → is_of t w ≡ true → w ≡ parameter t
    by (value u) f = absurd (cc)
    by name f = absurd (cc)
    by (parameter u) f = ap parameter (sym (nat_eq-to t u f))

is-function : (t : ℕ) (all : List Bound) (k : ℕ) → IsParameter all k t → is_function t (bound_in k all) ≡ true
is-function t all k p = ap (is_function t) p.found ∙ (ap (is_of t) p.is ∙ nat_eq-same t)

module _ (types : List table.Row) (all : List Bound) (known : AllKnown all all) where
  abbrev pub up : ℕ → List ℕ
  up t = get_or (rising_from 0 (length types) all) t []

  up-row : (t : ℕ) → t < length types → up t ≡ functions_from t zero (above all) all
  up-row t h = let z : 0 + t ≡ t = omega arith in rising-at 0 (length types) t all h ∙ ap (λ u. functions_from u zero (above all) all) z

  there : (t k : ℕ) → t < length types → is_in k (of types all t) ≡ true → is_in k (up t) ≡ true
  there t k h i =
      let w = row-there types t h in
      let p = of-set types all t k known w.is i in
      ap (is_in k) (up-row t h) ∙ functions-have t k zero (above all) all (omega arith) (let l = bound-below k all p.found in omega (arith, l)) (is-function t all k p)

  back : (t k : ℕ) → t < length types → is_in k (up t) ≡ true → is_in k (of types all t) ≡ true
  back t k h i =
      let w = row-there types t h in
      let p = entry-of t all k (bound_in k all) refl (among-functions t k zero (above all) all (sym (ap (is_in k) (up-row t h)) ∙ i)) in
      in-set types all t k p.entry w.is p.found p.is

  outside : (t k : ℕ) (xs : List ℕ) → xs ≡ [] → is_in k xs ≡ true → ⊥
  outside t k xs e i = let s = sym (ap (is_in k) e) ∙ i in cc

  pub rises : (t : ℕ) → Within (of types all t) (up t)
  rises t = record { all = λ k i. by k (nat_lt t (length types)) refl i }
    where
      by : (k : ℕ) (b : Bool) → nat_lt t (length types) ≡ b → is_in k (of types all t) ≡ true → is_in k (up t) ≡ true
      by k true q i = there t k (ltb-true t (length types) q) i
      by k false q i = absurd (outside t k (of types all t) (sets-past 0 (length types) t all (ltb-false t (length types) q)) i)

  pub falls : (t : ℕ) → Within (up t) (of types all t)
  falls t = record { all = λ k i. by k (nat_lt t (length types)) refl i }
    where
      by : (k : ℕ) (b : Bool) → nat_lt t (length types) ≡ b → is_in k (up t) ≡ true → is_in k (of types all t) ≡ true
      by k true q i = back t k (ltb-true t (length types) q) i
      by k false q i = absurd (outside t k (up t) (rising-past 0 (length types) t all (ltb-false t (length types) q)) i)
