use Rattle.std.proofs.Common.{◌≡◌, ◌<◌, ℕ, List, add-one, suc, ◌++◌, ◌∷◌, get_or, length, take, ap, sym, ◌∙◌}
use Rattle.ty_core.specs.of_mlc_names.declared.label.Label.{Label}
use Rattle.ty_table.specs.Codes.{label_code, labels_code}
use Rattle.ty_table.proofs.Coding.{next-label}
use Rattle.ty_table.proofs.code.record_code.Goals as goal

more : (old new : List ℕ) (ls : List Label) (i : ℕ) (l : Label) → i < length ls → l ≡ get_or ls i l → old ≡ 2 ∷ labels_code (take i ls) → new ≡ old ++ label_code l → new ≡ 2 ∷ labels_code (take (suc i) ls)
more old new ls i l lt is e n = n ∙ ap (λ m. m ++ label_code l) e ∙ ap (λ x. 2 ∷ (labels_code (take i ls) ++ label_code x)) is ∙ ap (λ m. 2 ∷ m) (sym (next-label ls i l lt))

pub loop-label-preserved : goal.loop-label-preserved
loop-label-preserved c = rw add-one (more c.loop-label.code.items c.push_label.new.code.items c.args.labels.now c.loop-label.label-index c.label-item.result c.loop-label-test.true c.label-item.is c.loop-label.invariant c.in_ok-push_label.ensures)
