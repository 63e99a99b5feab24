-- Fields and chains, one element after the other.
use Rattle.std.proofs.Common.{◌≡◌, ◌<◌, ℕ, zero, suc, ◌+◌, Bool, true, false, List, [], ◌∷◌, ◌++◌, map, length, take, drop, slice_index_or, Some, None, Box, Vec, Global, refl, sym, ap, ◌∙◌, arith}
use Rattle.ir_poly.specs.Prog as t
use Rattle.ir_poly.specs.ProgMeaning.{size_of}
use Rattle.prog_tree.specs.TreeOf.{Reading, PatPartTree, pat_of, pat_part_of, join_pats, right_pats, left_pats}
use Rattle.prog_tree.specs.declared.tree.PatField.{PatField}
use Rattle.prog_tree.specs.declared.tree.PatPart.{PatPart}
use Rattle.pattern_tests.specs.Tasks.{pattern}
use Rattle.pattern_tests.specs.Parts.{field_patterns, field_first, record_pattern, chained, right_chain, left_chain, joined}
use Rattle.pattern_tests.proofs.Nodes.{field_of-parts, part_of-parts}
use Rattle.prog_tree.proofs.ExpOf.{pat_of-Record, pat_of-Chain}
use Rattle.prog_tree.specs.declared.tree.Pat.{Pat}
use Rattle.prog_tree.specs.declared.tree.Pat.TheVariants as patterns
use Rattle.prog_tree.specs.declared.tree.Side.{Side}

pub fields-count : (R : Reading) (fs : List PatField) → t.pat_count (field_patterns fs R) ≡ length fs
fields-count R [] = refl
fields-count R (f ∷ fs) = ap suc (fields-count R fs)

pub size-true : (R : Reading) (fs : List PatField) → size_of true (field_patterns fs R) ≡ None
size-true R fs = refl

pub size-false : (R : Reading) (fs : List PatField) → size_of false (field_patterns fs R) ≡ Some (length fs)
size-false R fs = ap Some (fields-count R fs)

module _ {A : Type 0} where
  -- the next element of a list
  pub next-drop : (xs : List A) (i : ℕ) (x : A) → i < length xs → x ≡ slice_index_or xs i x → drop i xs ≡ x ∷ drop (i + 1) xs
  next-drop xs i x lt e = go xs i lt e ∙ ap (λ n. x ∷ drop n xs) one
    where
      one : suc i ≡ i + 1
      one = omega arith

      go : (xs : List A) (i : ℕ) → i < length xs → x ≡ slice_index_or xs i x → drop i xs ≡ x ∷ drop (suc i) xs
      go [] i lt e = absurd (omega arith)
      go (y ∷ xs) zero lt e = ap (λ z. z ∷ xs) (sym e)
      go (y ∷ xs) (suc i) lt e = go xs i (omega arith) e

  pub next-take : (xs : List A) (i : ℕ) (x : A) → i < length xs → x ≡ slice_index_or xs i x → take (i + 1) xs ≡ take i xs ++ x ∷ []
  next-take xs i x lt e = ap (λ n. take n xs) one ∙ go xs i lt e
    where
      one : i + 1 ≡ suc i
      one = omega arith

      go : (xs : List A) (i : ℕ) → i < length xs → x ≡ slice_index_or xs i x → take (suc i) xs ≡ take i xs ++ x ∷ []
      go [] i lt e = absurd (omega arith)
      go (y ∷ xs) zero lt e = ap (λ z. z ∷ []) (sym e)
      go (y ∷ xs) (suc i) lt e = ap (λ l. y ∷ l) (go xs i (omega arith) e)

  pub no-items : (xs : List A) → length xs ≡ 0 → xs ≡ []
  no-items [] e = refl
  no-items (x ∷ xs) e = absurd (omega arith)

pub field-next : (R : Reading) (f : PatField) (fs : List PatField) → field_patterns (f ∷ fs) R ≡ field_first f.label f.ty (pattern f.pat) (field_patterns fs) R
field-next R f fs = ap (λ x. t.a_pat x.label x.type x.pat (field_patterns fs R)) (field_of-parts R f)

pub right-next : (R : Reading) (p : t.Pat) (j : PatPart) (js : List PatPart) → right_pats p (map (pat_part_of R) (j ∷ js)) ≡ joined j.head j.pair (λ R. p) (right_chain (pattern j.pat) js) R
right-next R p j js = ap (λ x. join_pats x p (right_pats x.pat (map (pat_part_of R) js))) (part_of-parts R j)

left-append : (p : t.Pat) (js : List PatPartTree) (j : PatPartTree) → left_pats p (js ++ j ∷ []) ≡ join_pats j (left_pats p js) j.pat
left-append p [] j = refl
left-append p (k ∷ js) j = left-append (join_pats k p k.pat) js j

map-more : (R : Reading) (js : List PatPart) (j : PatPart) → map (pat_part_of R) (js ++ j ∷ []) ≡ map (pat_part_of R) js ++ pat_part_of R j ∷ []
map-more R [] j = refl
map-more R (k ∷ js) j = ap (λ l. pat_part_of R k ∷ l) (map-more R js j)

pub left-next : (R : Reading) (p : Reading → t.Pat) (js : List PatPart) (j : PatPart) → left_chain p (js ++ j ∷ []) R ≡ joined j.head j.pair (left_chain p js) (pattern j.pat) R
left-next R p js j = ap (left_pats (p R)) (map-more R js j) ∙ left-append (p R) (map (pat_part_of R) js) (pat_part_of R j) ∙ ap (λ x. join_pats x (left_chain p js R) x.pat) (part_of-parts R j)

-- what patterns with lists are
pub record-is : (R : Reading) (P : Pat) (further : Bool) (fs : Vec PatField Global) → P ≡ patterns.Record further fs → record_pattern further (field_patterns fs.items) R ≡ pattern P R
record-is R P further fs is = sym (ap (pat_of R) is ∙ pat_of-Record R further fs)

pub chain-is : (R : Reading) (P : Pat) (s : Side) (p : Box Pat Global) (js : Vec PatPart Global) → P ≡ patterns.Chain s p js → chained s (pattern p.value) js.items R ≡ pattern P R
chain-is R P s p js is = sym (ap (pat_of R) is ∙ pat_of-Chain R s p js)
