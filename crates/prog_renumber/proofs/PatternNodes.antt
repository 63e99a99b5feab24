-- What patterns with other numbers stand for, by their parts.
use Rattle.std.proofs.Common.{◌≡◌, ℕ, Bool, map, Vec, Box, Global, sym, ap, ap₂, ◌∙◌}
use Rattle.ir_poly.specs.Prog as t
use Rattle.prog_tree.specs.TreeOf.{Reading, PatFieldTree, PatPartTree, pat_of, pat_field_of, pat_part_of, fields_of, before, chain_pats, node_pat, node_pat_field, node_pat_part}
use Rattle.prog_tree.specs.declared.tree.Head.{Head}
use Rattle.prog_tree.specs.declared.tree.Side.{Side}
use Rattle.prog_tree.specs.declared.tree.Pat.{Pat, Pat-F, fold-roll-Pat}
use Rattle.prog_tree.specs.declared.tree.Pat.TheVariants.{As, Before, Chain, Record, rolls-As, rolls-Before}
use Rattle.prog_tree.specs.declared.tree.PatField.{PatField, fold_out-PatField}
use Rattle.prog_tree.specs.declared.tree.PatPart.{PatPart, fold_out-PatPart}
use Rattle.prog_tree.proofs.ExpOf.{pat_of-Record, pat_of-Chain}
use Rattle.prog_tree.specs.declared.tree.Pair.{Pair}
use Rattle.prog_renumber.specs.Renumbered.{number_at, pair_at, renumbered}
use Rattle.prog_renumber.specs.declared.numbers.Numbers.{Numbers}

module _ (R : Reading) where
  pat_of-Before : (h : Head) (a : ℕ) (p : Box Pat Global) → pat_of R (Before h a p) ≡ before h (R.type a) (pat_of R p.value)
  pat_of-Before h a p = ap (pat_of R) (sym (rolls-Before h a p)) ∙ fold-roll-Pat t.Pat PatFieldTree PatPartTree (node_pat R) (node_pat_field R) (node_pat_part R) (Pat-F.Before h a p)

  pat_of-As : (x : ℕ) (p : Box Pat Global) → pat_of R (As x p) ≡ t.as_pat x (pat_of R p.value)
  pat_of-As x p = ap (pat_of R) (sym (rolls-As x p)) ∙ fold-roll-Pat t.Pat PatFieldTree PatPartTree (node_pat R) (node_pat_field R) (node_pat_part R) (Pat-F.As x p)

  field-is : (f : PatField) → pat_field_of R f ≡ record { label = f.label; type = R.type f.ty; pat = pat_of R f.pat }
  field-is = fold_out-PatField t.Pat PatFieldTree PatPartTree (node_pat R) (node_pat_field R) (node_pat_part R)

  part-is : (j : PatPart) → pat_part_of R j ≡ record { head = j.head; whole = R.type j.pair.ty; left = R.type j.pair.left; right = R.type j.pair.right; pat = pat_of R j.pat }
  part-is = fold_out-PatPart t.Pat PatFieldTree PatPartTree (node_pat R) (node_pat_field R) (node_pat_part R)

module _ (n : Numbers) (Q : Reading) where
  pub field-renumbered : (f f' : PatField) → f'.label ≡ f.label → f'.ty ≡ number_at n f.ty → pat_of Q f'.pat ≡ pat_of (renumbered n Q) f.pat → pat_field_of Q f' ≡ pat_field_of (renumbered n Q) f
  field-renumbered f f' e g h =
      field-is Q f' ∙ ap₂ (λ x y. record { label = x; type = Q.type y; pat = pat_of Q f'.pat }) e g
      ∙ ap (λ y. record { label = f.label; type = Q.type (number_at n f.ty); pat = y }) h ∙ sym (field-is (renumbered n Q) f)

  pub part-renumbered : (j j' : PatPart) → j'.head ≡ j.head → j'.pair ≡ pair_at n j.pair → pat_of Q j'.pat ≡ pat_of (renumbered n Q) j.pat → pat_part_of Q j' ≡ pat_part_of (renumbered n Q) j
  part-renumbered j j' e g h =
      part-is Q j' ∙ ap₂ (λ x (y : Pair). record { head = x; whole = Q.type y.ty; left = Q.type y.left; right = Q.type y.right; pat = pat_of Q j'.pat }) e g
      ∙ ap (λ y. record { head = j.head; whole = Q.type (number_at n j.pair.ty); left = Q.type (number_at n j.pair.left); right = Q.type (number_at n j.pair.right); pat = y }) h
      ∙ sym (part-is (renumbered n Q) j)

  pub before-renumbered : (h h' : Head) (a a' : ℕ) (p p' : Box Pat Global) → h' ≡ h → a' ≡ number_at n a → pat_of Q p'.value ≡ pat_of (renumbered n Q) p.value
      → pat_of Q (Before h' a' p') ≡ pat_of (renumbered n Q) (Before h a p)
  before-renumbered h h' a a' p p' e f g =
      pat_of-Before Q h' a' p' ∙ ap₂ (λ x y. before x (Q.type y) (pat_of Q p'.value)) e f ∙ ap (before h (Q.type (number_at n a))) g ∙ sym (pat_of-Before (renumbered n Q) h a p)

  pub as-renumbered : (x x' : ℕ) (p p' : Box Pat Global) → x' ≡ x → pat_of Q p'.value ≡ pat_of (renumbered n Q) p.value → pat_of Q (As x' p') ≡ pat_of (renumbered n Q) (As x p)
  as-renumbered x x' p p' e g = pat_of-As Q x' p' ∙ ap₂ t.as_pat e g ∙ sym (pat_of-As (renumbered n Q) x p)

  pub record-renumbered : (b b' : Bool) (fs fs' : Vec PatField Global) → b' ≡ b → map (pat_field_of Q) fs'.items ≡ map (pat_field_of (renumbered n Q)) fs.items
      → pat_of Q (Record b' fs') ≡ pat_of (renumbered n Q) (Record b fs)
  record-renumbered b b' fs fs' e g = pat_of-Record Q b' fs' ∙ ap₂ (λ x y. t.fields_pat x (fields_of y)) e g ∙ sym (pat_of-Record (renumbered n Q) b fs)

  pub chain-renumbered : (s s' : Side) (p p' : Box Pat Global) (js js' : Vec PatPart Global) → s' ≡ s → pat_of Q p'.value ≡ pat_of (renumbered n Q) p.value
      → map (pat_part_of Q) js'.items ≡ map (pat_part_of (renumbered n Q)) js.items → pat_of Q (Chain s' p' js') ≡ pat_of (renumbered n Q) (Chain s p js)
  chain-renumbered s s' p p' js js' e g h =
      pat_of-Chain Q s' p' js' ∙ ap₂ (λ x y. chain_pats x y (map (pat_part_of Q) js'.items)) e g ∙ ap (chain_pats s (pat_of (renumbered n Q) p.value)) h
      ∙ sym (pat_of-Chain (renumbered n Q) s p js)
