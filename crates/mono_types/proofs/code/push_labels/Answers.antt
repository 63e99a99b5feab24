use Rattle.std.proofs.Common.{◌≡◌, ◌<◌, ℕ, List, [], add-one, suc, ◌++◌, ◌∷◌, get_or, length, take, ap, sym, ◌∙◌, append_assoc, arith, refl}
use Rattle.mlc_names.specs.declared.label.Label.{Label}
use Rattle.ty_table.specs.Codes.{label_code, labels_code}
use Rattle.ty_table.proofs.Coding.{next-label, all-labels}
use Rattle.mono_types.proofs.code.push_labels.Goals as goal

more : (first old new : List ℕ) (ls : List Label) (i : ℕ) (l : Label) → i < length ls → l ≡ get_or ls i l → old ≡ first ++ labels_code (take i ls) → new ≡ old ++ label_code l
    → new ≡ first ++ labels_code (take (suc i) ls)
more first old new ls i l lt is e n =
    n ∙ ap (λ m. m ++ label_code l) e ∙ append_assoc first (labels_code (take i ls)) (label_code l)
    ∙ ap (λ x. first ++ (labels_code (take i ls) ++ label_code x)) is ∙ ap (λ m. first ++ m) (sym (next-label ls i l lt))

pub loop-i-preserved : goal.loop-i-preserved
loop-i-preserved c = rw add-one (more c.args.code.now.items c.loop-i.code.items c.push_label.new.code.items c.args.labels.now c.loop-i.i c.index-labels-i.result c.loop-i-test.true c.index-labels-i.is c.loop-i.invariant c.in_ok-push_label.ensures)

none-left : (ls : List Label) (i : ℕ) → i ≡ length ls → labels_code (take i ls) ≡ labels_code ls
none-left ls i e = ap (λ i. labels_code (take i ls)) e ∙ ap labels_code (all-labels ls)

pub returns : goal.returns
returns c = c.loop-i.invariant ∙ ap (λ l. c.args.code.now.items ++ l) (none-left c.args.labels.now c.loop-i.i (omega arith))
