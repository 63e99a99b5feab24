-- Limits by their place.
use Rattle.std.proofs.Common.{◌≡◌, ◌<◌, ◌≤◌, ◌^◌, ◌-◌, ℕ, zero, suc, Bool, true, false, nat_eq, nat_lt, List, [], ◌∷◌, length, get_or, refl, sym, ap, ◌∙◌, arith}
use Rattle.std.proofs.lemmas.Bool.{ltb-true}
use Rattle.ty_solve.specs.Limits.{limit_at}
use Rattle.ty_solve.specs.declared.limit.Limit.{Limit}

pub limit-there : (ls : List Limit) (v : ℕ) (d : Limit) → v < length ls → get_or ls v d ≡ limit_at ls v
limit-there [] v d lt = absurd (omega (arith, lt))
limit-there (l ∷ ls) zero d lt = refl
limit-there (l ∷ ls) (suc v) d lt = limit-there ls v d (omega (arith, lt))

pub limit-past : (ls : List Limit) (v : ℕ) → length ls ≤ v → (limit_at ls v).level ≡ 0
limit-past [] v le = refl
limit-past (l ∷ ls) zero le = absurd (omega (arith, le))
limit-past (l ∷ ls) (suc v) le = limit-past ls v (omega (arith, le))

-- a variable that wasn't made is not done with
pub never-done : (ls : List Limit) (v n : ℕ) → n ≤ v → n ≡ length ls → nat_lt v n ≡ nat_eq (limit_at ls v).level (2 ^ 64 - 1)
never-done ls v n le e = by (nat_lt v n) refl
  where
    by : (b : Bool) → nat_lt v n ≡ b → nat_lt v n ≡ nat_eq (limit_at ls v).level (2 ^ 64 - 1)
    by true p = let q = ltb-true v n p in absurd (omega (arith, le, q))
    by false p = p ∙ sym (ap (λ l. nat_eq l (2 ^ 64 - 1)) (limit-past ls v (omega (arith, le, e))))
