-- Fields that are sorted by their labels are the atoms of a record in that order.
use Rattle.std.proofs.Common.{◌≡◌, Bool, true, false, cond, List, [], ◌∷◌, map, refl, ap, ◌∙◌}
use Rattle.label_rows.specs.Order.{label_before, put_by, sorted_by}
use Rattle.label_rows.specs.Sorting.{sorted}
use Rattle.label_rows.specs.declared.sort.Field.{Field as Labelled}
use Rattle.label_rows.proofs.Mapped.{sorted-map}
use Rattle.ir_plain.specs.Tree as te
use Rattle.ir_poly.specs.Tests.{poly}
use Rattle.match_compile.specs.Compile.{put_atom, sorted_row}
use Rattle.plain_tree.specs.TreeOf as plain
use Rattle.plain_tree.specs.declared.tree.Field.{Field}
use Rattle.exp_steps.specs.Rows.{field_of, plain_of}

back : (fs : List Field) → map plain_of (map field_of fs) ≡ fs
back [] = refl
back (f ∷ fs) = ap (λ l. f ∷ l) (back fs)

pub plain-in-order : (fs : List Field) (labelled ordered : List Labelled) (made : List Field) → made ≡ map plain_of ordered → ordered ≡ sorted labelled
    → labelled ≡ map field_of fs → made ≡ sorted_by (λ f. f.label) fs
plain-in-order fs labelled ordered made e h k =
    e ∙ ap (map plain_of) (h ∙ ap sorted k) ∙ sorted-map (λ d. d.label) (λ f. f.label) plain_of (λ d. refl) (map field_of fs) ∙ ap (sorted_by (λ f. f.label)) (back fs)

module _ (R : plain.Reading poly) where
  put-row : (f : Field) (fs : List Field) → plain.row_of R (put_by (λ f. f.label) f fs) ≡ put_atom f.label (R.atom f.atom) (plain.row_of R fs)
  put-row f [] = refl
  put-row f (g ∷ fs) = by (label_before g.label f.label) (put-row f fs)
    where
      by : (b : Bool) → plain.row_of R (put_by (λ f. f.label) f fs) ≡ put_atom f.label (R.atom f.atom) (plain.row_of R fs)
          → plain.row_of R (cond b (g ∷ put_by (λ f. f.label) f fs) (f ∷ g ∷ fs))
          ≡ cond b (te.a_row g.label (R.atom g.atom) (put_atom f.label (R.atom f.atom) (plain.row_of R fs))) (te.a_row f.label (R.atom f.atom) (te.a_row g.label (R.atom g.atom) (plain.row_of R fs)))
      by true h = ap (te.a_row g.label (R.atom g.atom)) h
      by false h = refl

  pub row-sorted : (fs : List Field) → plain.row_of R (sorted_by (λ f. f.label) fs) ≡ sorted_row (plain.row_of R fs)
  row-sorted [] = refl
  row-sorted (f ∷ fs) = put-row f (sorted_by (λ f. f.label) fs) ∙ ap (put_atom f.label (R.atom f.atom)) (row-sorted fs)
