-- Labels that are gone along, with the parts beside them.
use Rattle.std.proofs.Common.{◌≡◌, ℕ, zero, suc, ◌+◌, ◌<◌, ◌≤◌, Bool, false, List, [], ◌∷◌, length, drop, slice_index_or, Option, Some, None, if◌then◌else◌, refl, sym, ap, ◌∙◌, arith}
use Rattle.mlc_names.specs.declared.label.Label.{Label}
use Rattle.ir_values.specs.Values.{same_label}
use Rattle.ir_mono.specs.Types.{part}

no-part : (l : Label) (ls : List Label) (ps : List ℕ) (i : ℕ) → length ps ≤ i → part l (drop i ls) (drop i ps) ≡ None
no-part l [] ps zero e = refl
no-part l [] ps (suc i) e = refl
no-part l (k ∷ ls) [] zero e = refl
no-part l (k ∷ ls) (p ∷ ps) zero e = absurd (omega arith)
no-part l (k ∷ ls) (p ∷ ps) (suc i) e = no-part l ls ps i (omega arith)
no-part l (k ∷ ls) [] (suc i) e = by (drop i ls)
  where
    by : (ls : List Label) → part l ls [] ≡ None
    by [] = refl
    by (k ∷ ls) = refl

pub part-none : (l : Label) (ls : List Label) (ps : List ℕ) (i : ℕ) → length ps ≤ i → part l ls ps ≡ part l (drop i ls) (drop i ps) → None ≡ part l ls ps
part-none l ls ps i e w = sym (w ∙ no-part l ls ps i e)

passed : (l : Label) (ls : List Label) (ps : List ℕ) (i : ℕ) (k : Label) → i < length ls → i < length ps → k ≡ slice_index_or ls i k → same_label l k ≡ false
    → part l (drop i ls) (drop i ps) ≡ part l (drop (suc i) ls) (drop (suc i) ps)
passed l [] ps i k a b e f = absurd (omega arith)
passed l (x ∷ ls) [] i k a b e f = absurd (omega arith)
passed l (x ∷ ls) (p ∷ ps) zero k a b e f = ap (λ q. if q then Some p else part l ls ps) (ap (same_label l) (sym e) ∙ f)
passed l (x ∷ ls) (p ∷ ps) (suc i) k a b e f = passed l ls ps i k (omega arith) (omega arith) e f

pub part-next : (l : Label) (ls : List Label) (ps : List ℕ) (i : ℕ) (k : Label) (y : Bool) → i < length ls → i < length ps → k ≡ slice_index_or ls i k → y ≡ same_label l k → y ≡ false
    → part l ls ps ≡ part l (drop i ls) (drop i ps) → part l ls ps ≡ part l (drop (i + 1) ls) (drop (i + 1) ps)
part-next l ls ps i k y a b e s f w = w ∙ passed l ls ps i k a b e (sym s ∙ f) ∙ ap (λ n. part l (drop n ls) (drop n ps)) more
  where
    more : suc i ≡ i + 1
    more = omega arith
