-- What a checker keeps of sets says exactly which calls fit.
use Rattle.std.proofs.Common.{◌≡◌, ◌↔◌, ℕ, zero, suc, ◌<◌, ◌≤◌, Bool, true, false, ◌&&◌, List, [], ◌∷◌, map, length, get_or, nat_eq, cond, Option, Some, None, slice_get, IsTrue, refl, sym, ap, ◌∙◌, subst, arith}
use Rattle.std.proofs.lemmas.Bool.{eqb-true, eq-eqb, false≢true}
use Rattle.std.specs.List.{AllByRecursion}
use Rattle.first_values.specs.Operations.{Tables, Member, one_of}
use Rattle.first_values.specs.WellFormed.{Takes, IsIn, IsCallee}
use Rattle.first_known.specs.declared.calls.Taking.{Taking}
use Rattle.first_known.specs.declared.calls.Taking.TheVariants.{Any, Each, Differ}
use Rattle.first_known.specs.Takings.{taking_with, taking_one, taking_of, takings_of, FitsTaking}
use Rattle.first_known.proofs.Flags.{both-is, iff-along}

-- the first and the others fit exactly where both do
with-fits : (a b : Taking) (n : ℕ) → (FitsTaking a n × FitsTaking b n) ↔ FitsTaking (taking_with a b) n
with-fits Any b n = (λ w. w.1, λ w. (tt, w))
with-fits (Each k) Any n = (λ w. w.0, λ w. (w, tt))
with-fits (Each k) (Each j) n = by (nat_eq k j) refl
  where
    by : (q : Bool) → nat_eq k j ≡ q → ((k ≡ suc n) × (j ≡ suc n)) ↔ FitsTaking (cond q (Each j) Differ) n
    by true e = (λ w. w.1, λ w. (eqb-true k j e ∙ w, w))
    by false e = (λ w. absurd (false≢true (sym e ∙ eq-eqb k j (w.0 ∙ sym w.1))), λ w. absurd w)
with-fits (Each k) Differ n = (λ w. w.1, λ w. absurd w)
with-fits Differ b n = (λ w. w.0, λ w. absurd w)

one-fits : (o : Option ℕ) (n : ℕ) → (o ≡ Some (suc n)) ↔ FitsTaking (taking_one o) n
one-fits None n = (λ e. (cc), λ w. absurd w)
one-fits (Some k) n = (λ e. (cc), λ e. ap Some e)

module _ (T : Tables) (arities : List ℕ) where
  set-fits : (n : ℕ) (ms : List Member) → AllByRecursion (λ m. Takes T arities (suc n) m.function) ms ↔ FitsTaking (taking_of arities ms) n
  set-fits n [] = (λ w. tt, λ w. tt)
  set-fits n (m ∷ ms) =
      let r = set-fits n ms in
      let o = one-fits (slice_get arities m.function) n in
      let b = with-fits (taking_one (slice_get arities m.function)) (taking_of arities ms) n in
      (λ w. b.0 (o.0 w.0, r.0 w.1), λ w. let v = b.1 w in (o.1 v.0, r.1 v.1))

  -- the set of a number and what is kept of it
  at-fits : (sets : List (List Member)) (s n : ℕ) (d : Taking) → s < length sets
      → FitsTaking (get_or (takings_of arities sets) s d) n ↔ ((set : List Member) × (slice_get sets s ≡ Some set) × AllByRecursion (λ m. Takes T arities (suc n) m.function) set)
  at-fits [] s n d lt = absurd (omega (arith, lt))
  at-fits (ms ∷ sets) zero n d lt =
      let r = set-fits n ms in
      (λ w. (ms, refl, r.1 w), λ v. let e : ms ≡ v.0 = cc in r.0 (subst (λ l. AllByRecursion (λ m. Takes T arities (suc n) m.function) l) (sym e) v.2))
  at-fits (ms ∷ sets) (suc s) n d lt = at-fits sets s n d (omega (arith, lt))

  none-fits : (sets : List (List Member)) (s n : ℕ) → length sets ≤ s → ((set : List Member) × (slice_get sets s ≡ Some set) × AllByRecursion (λ m. Takes T arities (suc n) m.function) set) → ⊥
  none-fits [] s n le v = let e = v.1 in (cc)
  none-fits (ms ∷ sets) zero n le v = absurd (omega (arith, le))
  none-fits (ms ∷ sets) (suc s) n le v = none-fits sets s n (omega (arith, le)) v

  length-takings : (sets : List (List Member)) → length (takings_of arities sets) ≡ length sets
  length-takings [] = refl
  length-takings (ms ∷ sets) = ap suc (length-takings sets)

  pub set-called : (xs : List ℕ) (takings : List Taking) (s x n : ℕ) (d : Taking) (h f c : Bool) → takings ≡ takings_of arities T.sets → s < length takings → IsTrue h ↔ IsIn xs x
      → IsTrue f ↔ FitsTaking (get_or takings s d) n → c ≡ (h && f) → IsTrue c ↔ IsCallee T arities xs (one_of s x) n
  set-called xs takings s x n d h f c e lt hh hf ec =
      let l : s < length T.sets = omega (arith, lt, ap length e, length-takings T.sets) in
      both-is c h f ec hh (iff-along f (at-fits T.sets s n d l) (subst (λ ts. IsTrue f ↔ FitsTaking (get_or ts s d) n) e hf))

  pub no-set-called : (xs : List ℕ) (takings : List Taking) (s x n : ℕ) → takings ≡ takings_of arities T.sets → length takings ≤ s → IsTrue false ↔ IsCallee T arities xs (one_of s x) n
  no-set-called xs takings s x n e le =
      (λ t. absurd (false≢true t), λ w. absurd (none-fits T.sets s n (omega (arith, le, ap length e, length-takings T.sets)) w.1))
