-- The codes of labels, one after the other.
use Rattle.std.proofs.Common.{◌≡◌, ℕ, zero, suc, ◌<◌, List, [], ◌∷◌, ◌++◌, length, get_or, take, refl, sym, ap, ◌∙◌, arith, append_assoc}
use Rattle.ty_core.specs.of_mlc_names.declared.label.Label.{Label}
use Rattle.ty_table.specs.Codes.{label_code, labels_code}

append_none : (l : List ℕ) → l ++ [] ≡ l
append_none [] = refl
append_none (k ∷ l) = ap (λ m. k ∷ m) (append_none l)

pub next-label : (ls : List Label) (i : ℕ) (d : Label) → i < length ls → labels_code (take (suc i) ls) ≡ labels_code (take i ls) ++ label_code (get_or ls i d)
next-label [] i d lt = absurd (omega arith)
next-label (l ∷ ls) zero d lt = append_none (label_code l)
next-label (l ∷ ls) (suc i) d lt = ap (λ m. label_code l ++ m) (next-label ls i d (omega arith)) ∙ sym (append_assoc (label_code l) (labels_code (take i ls)) (label_code (get_or ls i d)))

pub all-labels : (ls : List Label) → take (length ls) ls ≡ ls
all-labels [] = refl
all-labels (l ∷ ls) = ap (λ m. l ∷ m) (all-labels ls)
