-- What the code's tree says of its clean tree.
use Rattle.std.proofs.Common.{◌≡◌, ◌↔◌, ℕ, ◌+◌, ◌≤◌, ◌^◌, ◌-◌, Bool, List, [], ◌∷◌, min, IsTrue, refl, sym, ap, ◌∙◌, subst}
use Rattle.ir_plain.specs.Once.{IsOnce, hit, times}
use Rattle.ir_plain.specs.Weight.{weight}
use Rattle.ir_mono.specs.Mono.{mono}
use Rattle.plain_tree.specs.declared.tree.Exp.{Exp}
use Rattle.plain_tree.specs.Sums.{count_of, binders_of, weight_of}
use Rattle.plain_tree.proofs.Agree.{weights-agree}
use Rattle.plain_tree.proofs.AgreeOnce.{tally, binders-agree}
use Rattle.mono_operations.specs.declared.tables.Tables.{Tables}
use Rattle.mono_operations.specs.Reads.{reading}
use Rattle.mono_tree.specs.Programs.{body_of}

counted : (t : Tables) (k : ℕ) (xs : List ℕ) → tally (reading t) (λ x. hit k x) xs ≡ count_of k xs
counted t k [] = refl
counted t k (x ∷ xs) = ap (λ n. hit k x + n) (counted t k xs)

bound : (t : Tables) (e : Exp) (k : ℕ) → times {F = mono t.types} (λ x. hit k x) (body_of t e) ≡ count_of k (binders_of e)
bound t e k = binders-agree (reading t) (λ x. hit k x) e ∙ counted t k (binders_of e)

pub once-bound : (t : Tables) (e : Exp) (b : Bool) → IsTrue b ↔ ((k : ℕ) → count_of k (binders_of e) ≤ 1) → IsTrue b ↔ IsOnce {F = mono t.types} (λ x. x) (body_of t e)
once-bound t e b w = (
  (λ y k. subst (λ n. n ≤ 1) (sym (bound t e k)) (w.0 y k)),
  (λ o. w.1 (λ k. subst (λ n. n ≤ 1) (bound t e k) (o k))),
)

pub weighed : (t : Tables) (e : Exp) (n : ℕ) → n ≡ min (weight_of e) (2 ^ 64 - 1) → n ≡ min (weight (body_of t e)) (2 ^ 64 - 1)
weighed t e n i = i ∙ ap (λ w. min w (2 ^ 64 - 1)) (sym (weights-agree (reading t) e))
