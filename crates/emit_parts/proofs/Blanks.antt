-- Labels that have no place yet, one more.
use Rattle.std.proofs.Common.{◌≡◌, ℕ, suc, ◌+◌, List, [], ◌∷◌, ◌++◌, sym, ap, ◌∙◌, append_assoc, arith}
use Rattle.walk_labels.specs.Labels.{blank}
use Rattle.walk_labels.proofs.Arms.{blank-last}

pub blank-next : (old now new : List ℕ) (i : ℕ) → now ≡ old ++ blank i → new ≡ now ++ 0 ∷ [] → new ≡ old ++ blank (i + 1)
blank-next old now new i h k =
    k ∙ ap (λ l. l ++ 0 ∷ []) h ∙ append_assoc old (blank i) (0 ∷ []) ∙ ap (λ l. old ++ l) (sym (blank-last i))
    ∙ ap (λ n. old ++ blank n) (let e : suc i ≡ i + 1 = omega arith in e)

pub blank-all : (old now new : List ℕ) (i n : ℕ) → i ≡ n → now ≡ old ++ blank i → new ≡ now ++ 0 ∷ [] → new ≡ old ++ blank (suc n)
blank-all old now new i n e h k =
    k ∙ ap (λ l. l ++ 0 ∷ []) h ∙ append_assoc old (blank i) (0 ∷ []) ∙ ap (λ l. old ++ l) (sym (blank-last i)) ∙ ap (λ z. old ++ blank (suc z)) e
