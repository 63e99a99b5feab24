-- The end of a declaration.
use Rattle.std.proofs.Common.{◌≡◌, ◌<◌, ◌≤◌, ℕ, zero, suc, Bool, true, false, nat_eq, nat_lt, if◌then◌else◌, List, [], ◌∷◌, length, set, get_or, refl, sym, ap, subst, ◌∙◌, arith}
use Rattle.std.proofs.lemmas.Bool.{ltb-true, ltb-false, lt-ltb, eqb-true, eq-eqb}
use Rattle.ty_solve.specs.Limits.{limit_at}
use Rattle.ty_solve.specs.declared.limit.Limit.{Limit}
use Rattle.elab_state.specs.States.{dead_level}
use Rattle.general_vals.specs.Closing.{ended, ended_at}

-- limits in a list

abbrev never : Limit
never = record { names = 4; level = 0 }

pub limit-past : (ls : List Limit) (x : ℕ) → length ls ≤ x → limit_at ls x ≡ never
limit-past [] x le = refl
limit-past (k ∷ ls) zero le = absurd (omega (arith, le))
limit-past (k ∷ ls) (suc x) le = limit-past ls x (omega (arith, le))

limit-here : (ls : List Limit) (v : ℕ) (k : Limit) → v < length ls → limit_at (set ls v k) v ≡ k
limit-here [] v k lt = absurd (omega (arith, lt))
limit-here (l ∷ ls) zero k lt = refl
limit-here (l ∷ ls) (suc v) k lt = limit-here ls v k (omega (arith, lt))

limit-elsewhere : (ls : List Limit) (v : ℕ) (k : Limit) (x : ℕ) → (v ≡ x → ⊥) → limit_at (set ls v k) x ≡ limit_at ls x
limit-elsewhere [] v k x d = refl
limit-elsewhere (l ∷ ls) zero k zero d = absurd (d refl)
limit-elsewhere (l ∷ ls) zero k (suc x) d = refl
limit-elsewhere (l ∷ ls) (suc v) k zero d = refl
limit-elsewhere (l ∷ ls) (suc v) k (suc x) d = limit-elsewhere ls v k x (λ e. d (ap suc e))

pub limit-get : (ls : List Limit) (v : ℕ) (k : Limit) → v < length ls → k ≡ get_or ls v k → limit_at ls v ≡ k
limit-get [] v k lt e = absurd (omega (arith, lt))
limit-get (l ∷ ls) zero k lt e = sym e
limit-get (l ∷ ls) (suc v) k lt e = limit-get ls v k (omega (arith, lt)) e

-- limits below v are those of variables that are done with
pub record Ending (old now : List Limit) (l first v : ℕ) : Type 0 where
  pub same : length now ≡ length old
  pub each : (x : ℕ) → limit_at now x ≡ (if nat_lt x v then ended_at l first x (limit_at old x) else limit_at old x)

pub ending-init : (old : List Limit) (l first : ℕ) → Ending old old l first first
ending-init old l first = record { same = refl; each = λ x. by x (nat_lt x first) }
  where
    by : (x : ℕ) (c : Bool) → limit_at old x ≡ (if c then (if c then limit_at old x else ended l (limit_at old x)) else limit_at old x)
    by x true = refl
    by x false = refl

pub ending-next : (old now new : List Limit) (l first v n : ℕ) (k k' : Limit) → n ≡ suc v → first ≤ v → v < length now → Ending old now l first v → k ≡ get_or now v k
    → k' ≡ ended l k → new ≡ set now v k' → Ending old new l first n
ending-next old now new l first v n k k' e le lt h is made put = record {
  same = ap length put ∙ length-set now v k' ∙ h.same;
  each = λ x. ap (λ ls. limit_at ls x) put ∙ at x (nat_eq v x) refl;
}
  where
    length-set : (ls : List Limit) (v : ℕ) (k : Limit) → length (set ls v k) ≡ length ls
    length-set [] v k = refl
    length-set (l ∷ ls) zero k = refl
    length-set (l ∷ ls) (suc v) k = ap suc (length-set ls v k)

    less : (a b : ℕ) → b ≤ a → nat_lt a b ≡ false
    less a b le = go (nat_lt a b) refl
      where
        go : (c : Bool) → nat_lt a b ≡ c → c ≡ false
        go true e = absurd (let q = ltb-true a b e in omega (arith, q, le))
        go false e = refl

    more : (x : ℕ) → (v ≡ x → ⊥) → nat_lt x n ≡ nat_lt x v
    more x ne = go (nat_lt x v) refl
      where
        go : (c : Bool) → nat_lt x v ≡ c → nat_lt x n ≡ c
        go true q = lt-ltb x n (let a = ltb-true x v q in omega (arith, a, e))
        go false q = less x n (let a = ltb-false x v q in beyond a (nat_lt v x) refl)
          where
            beyond : v ≤ x → (d : Bool) → nat_lt v x ≡ d → n ≤ x
            beyond a true w = let b = ltb-true v x w in omega (arith, b, e)
            beyond a false w = absurd (ne (let b = ltb-false v x w in omega (arith, a, b)))

    at : (x : ℕ) (c : Bool) → nat_eq v x ≡ c → limit_at (set now v k') x ≡ (if nat_lt x n then ended_at l first x (limit_at old x) else limit_at old x)
    at x true q =
        let same : v ≡ x = eqb-true v x q in
        let here : nat_lt x n ≡ true = lt-ltb x n (omega (arith, same, e)) in
        let past : nat_lt x first ≡ false = less x first (omega (arith, same, le)) in
        let was : limit_at now x ≡ limit_at old x = h.each x ∙ ap (λ c. if c then ended_at l first x (limit_at old x) else limit_at old x) (less x v (omega (arith, same))) in
        let got : limit_at now x ≡ k = subst (λ y. limit_at now y ≡ k) same (limit-get now v k lt is) in
        subst (λ y. limit_at (set now v k') y ≡ k') same (limit-here now v k' lt) ∙ made ∙ ap (ended l) (sym got ∙ was)
        ∙ sym (ap (λ c. if c then ended_at l first x (limit_at old x) else limit_at old x) here ∙ ap (λ c. if c then limit_at old x else ended l (limit_at old x)) past)
    at x false q =
        let apart : v ≡ x → ⊥ = λ s. let z = sym q ∙ eq-eqb v x s in cc in
        limit-elsewhere now v k' x apart ∙ h.each x ∙ ap (λ c. if c then ended_at l first x (limit_at old x) else limit_at old x) (sym (more x apart))

pub ending-end : (old now : List Limit) (l first v : ℕ) → first ≤ v → length now ≤ v → Ending old now l first v → (x : ℕ) → limit_at now x ≡ ended_at l first x (limit_at old x)
ending-end old now l first v le most h x = by (nat_lt x v) refl
  where
    by : (c : Bool) → nat_lt x v ≡ c → limit_at now x ≡ ended_at l first x (limit_at old x)
    by true e = h.each x ∙ ap (λ c. if c then ended_at l first x (limit_at old x) else limit_at old x) e
    by false e =
        let a = ltb-false x v e in
        let len = h.same in
        let past : limit_at old x ≡ never = limit-past old x (omega (arith, a, most, len)) in
        h.each x ∙ ap (λ c. if c then ended_at l first x (limit_at old x) else limit_at old x) e ∙ past
        ∙ sym (ap (ended_at l first x) past ∙ still (nat_lt x first))
      where
        still : (c : Bool) → (if c then never else ended l (never)) ≡ never
        still true = refl
        still false = low (nat_lt l 0) refl
          where
            low : (c : Bool) → nat_lt l 0 ≡ c → (if c then record { names = 4; level = dead_level } else never) ≡ never
            low true e = absurd (let a = ltb-true l 0 e in omega (arith, a))
            low false e = refl
