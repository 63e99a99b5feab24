-- Atomic patterns, and the lists in them, that are too deep are told to be.
use Rattle.std.proofs.Common.{◌≡◌, ℕ, zero, suc, ◌≤◌, ◌<◌, List, ◌∷◌, length, Option, inl, inr, refl, arith}
use Rattle.mlc_names.specs.declared.token.Reserved.TheVariants as res
use Rattle.sml_tree.specs.Fixity.{Fixity}
use Rattle.sml_tree.specs.Terminal.{Terminal, reserved}
use Rattle.sml_tree.specs.ReadTree.{Ty, Pat, pat}
use Rattle.sml_tree.specs.Depth.{depth_ty, depth_some, depth_pat, depth_pat_field}
use Rattle.sml_tree.specs.Levels.{pat_level}
use Rattle.sml_tree.specs.Grammar.{MaybeTy, without_ty, with_ty, Pattern}
use Rattle.sml_grammar.specs.Answer.{deep, read, many, whole}
use Rattle.sml_grammar.specs.Terminals.{after_word, no_state}
use Rattle.sml_grammar.specs.Types.{read_ty, maybe_ty}
use Rattle.sml_grammar.specs.Patterns.{pat_start, PatReader, AtPatReader, pat_commas_turn, field, put_field, pat_row_turn, at_pat}
use Rattle.sml_grammar.proofs.Answers.{many-deep, many-stop, le_or}
use Rattle.sml_grammar.proofs.Vids.{plain-found}
use Rattle.sml_grammar.proofs.TypePaths.{ty-opens}
use Rattle.sml_grammar.proofs.TypeOver.{ty-over}
use Rattle.sml_grammar.proofs.PatStarts.{begins-no_word}
use Rattle.sml_grammar.proofs.PatShapes.{field-shorter, pat-shorter, pat-begins, field-no_word}
use Rattle.sml_grammar.proofs.PatAtComplete.{CompletePat, before_comma, maybe-no_equals, colon-reads, label_equals-found, vid-no_label, before, field-complete}
use Rattle.sml_grammar.specs.PartialPatterns.{OpensPat, OpensAtPat, begun_atpat, in_paren_pat, in_tuple_pat, in_list_pat, in_record_pat, OpensPats, in_pat, past_pat, OpensPatRow, in_pat_field, past_pat_field, OpensField, in_labelled, in_punned_ty, in_punned_as}
use Rattle.sml_grammar.proofs.PatOpens.{field-opens, pat-opens, opens_pat-begins, opens_pats-begin, opens_field-no_word, opens_row-no_word}

abbrev pub OverPat : ℕ → PatReader → Type 0
OverPat n self = (f : Fixity) (l : ℕ) (i : List Terminal) (d : ℕ) → OpensPat f l i d → n < d → self f l i ≡ deep

abbrev pub OverAtPat : ℕ → AtPatReader → Type 0
OverAtPat n self = (f : Fixity) (i : List Terminal) (d : ℕ) → OpensAtPat f i d → n < d → self f i ≡ deep

-- an optional type that is too deep
pub maybe-too : (n : ℕ) {i o : List Terminal} {s : Option Ty} → MaybeTy i s o → n < depth_some s → maybe_ty n (after_word res.Colon i) i ≡ deep
maybe-too n without_ty lt = absurd (omega arith)
maybe-too n (with_ty {i} {a} p d) lt = let h : read_ty n 0 i ≡ deep = ty-over n 0 (ty-opens d (omega arith) (depth_ty a) (omega arith) (omega arith)) lt in rw h refl

module _ (n : ℕ) (self : PatReader) (complete : CompletePat n self) (over : OverPat n self) (f : Fixity) where
  -- a whole pattern that is too deep
  pub too : (l : ℕ) (i : List Terminal) (a : Pat) (o : List Terminal) → Pattern f i a o → l ≤ pat_level f a → n < depth_pat a → self f l i ≡ deep
  too l i a o d high lt = over f l i (depth_pat a) (pat-opens l d high (depth_pat a) (omega arith) (omega arith)) lt

  commas-over : {i : List Terminal} {d : ℕ} → OpensPats f i d → n < d → (k : ℕ) → length i < k → many (pat_commas_turn self f) k no_state i ≡ deep
  commas-over o lt zero le = absurd (omega arith)
  commas-over (in_pat {i} {d} o) lt (suc k) le = let h : self f 0 i ≡ deep = over f 0 i d o lt in many-stop (pat_commas_turn self f) k (rw h refl)
  commas-over (past_pat {i} {m} {a} q d o) lt (suc k) le =
      elim (le_or (depth_pat a) n) [
        | inl p ↦
            let h = before n self complete f res.Comma refl q m d p in
            let sh = pat-shorter d in
            many-deep (pat_commas_turn self f) k {put = pat a} (rw h refl) (commas-over o lt k (omega arith))
        | inr p ↦ let h : self f 0 i ≡ deep = too 0 i a (reserved q res.Comma ∷ m) d (omega arith) p in many-stop (pat_commas_turn self f) k (rw h refl)
      ]

  pub commas-deep : {i : List Terminal} {d : ℕ} → OpensPats f i d → n < d → whole (pat_commas_turn self f) no_state i ≡ deep
  commas-deep {i} o lt = commas-over o lt (suc (length i)) (omega arith)

  field-over : {i : List Terminal} {d : ℕ} → OpensField f i d → n < d → field n self f i ≡ deep
  field-over (in_labelled {i} {d} p l o) lt =
      let g = label_equals-found p i l in
      let h : self f 0 i ≡ deep = over f 0 i d o lt in
      rw (g, h) refl
  field-over (in_punned_ty {i} q v e o) lt =
      let g = vid-no_label (reserved q res.Colon ∷ i) v refl in
      let u = plain-found f v e (reserved q res.Colon ∷ i) in
      let h : read_ty n 0 i ≡ deep = ty-over n 0 o lt in
      rw (g, u, h) refl
  field-over (in_punned_as {i} {m} {s} {d} q v e mt o) lt =
      let g = vid-no_label i v (maybe-no_equals mt refl) in
      let u = plain-found f v e i in
      elim (le_or (depth_some s) n) [
        | inl p ↦
            let h : maybe_ty n (after_word res.Colon i) i ≡ read s (reserved q res.As ∷ m) = colon-reads n mt p refl refl in
            let j : self f 0 m ≡ deep = over f 0 m d o lt in
            rw (g, u, h, j) refl
        | inr p ↦ let h : maybe_ty n (after_word res.Colon i) i ≡ deep = maybe-too n mt p in rw (g, u, h) refl
      ]

  row-over : {i : List Terminal} {d : ℕ} → OpensPatRow f i d → n < d → (k : ℕ) → length i < k → many (pat_row_turn n self f) k no_state i ≡ deep
  row-over o lt zero le = absurd (omega arith)
  row-over (in_pat_field {i} o) lt (suc k) le =
      let w = opens_field-no_word res.Dots o in
      let h : field n self f i ≡ deep = field-over o lt in
      many-stop (pat_row_turn n self f) k (rw (w, h) refl)
  row-over (past_pat_field {i} {m} {a} q d o) lt (suc k) le =
      let w = field-no_word res.Dots d in
      elim (le_or (depth_pat_field a) n) [
        | inl p ↦
            let h : field n self f i ≡ read a (reserved q res.Comma ∷ m) = field-complete n self complete f d p (before_comma q) in
            let sh = field-shorter d in
            many-deep (pat_row_turn n self f) k {put = put_field a} (rw (w, h) refl) (row-over o lt k (omega arith))
        | inr p ↦
            let h : field n self f i ≡ deep = field-over (field-opens d (depth_pat_field a) (omega arith) (omega arith)) p in
            many-stop (pat_row_turn n self f) k (rw (w, h) refl)
      ]

  row-deep : {i : List Terminal} {d : ℕ} → OpensPatRow f i d → n < d → whole (pat_row_turn n self f) no_state i ≡ deep
  row-deep {i} o lt = row-over o lt (suc (length i)) (omega arith)

  pub at-over : {i : List Terminal} {d : ℕ} → OpensAtPat f i d → suc n < d → at_pat n self f (pat_start f i) ≡ deep
  at-over (begun_atpat e) lt = absurd (omega arith)
  at-over (in_paren_pat {i} {d} p o) lt =
      let w = begins-no_word f res.RightParen i (λ p o. refl) (opens_pat-begins o) in
      let h : self f 0 i ≡ deep = over f 0 i d o (omega arith) in
      rw (w, h) refl
  at-over (in_tuple_pat {i} {m} {a} p q d o) lt =
      let w = begins-no_word f res.RightParen i (λ p o. refl) (pat-begins d) in
      elim (le_or (depth_pat a) n) [
        | inl x ↦
            let h = before n self complete f res.Comma refl q m d x in
            let g = commas-deep o (omega arith) in
            rw (w, h, g) refl
        | inr x ↦ let h : self f 0 i ≡ deep = too 0 i a (reserved q res.Comma ∷ m) d (omega arith) x in rw (w, h) refl
      ]
  at-over (in_list_pat {i} p o) lt =
      let w = begins-no_word f res.RightBracket i (λ p o. refl) (opens_pats-begin o) in
      let g = commas-deep o (omega arith) in
      rw (w, g) refl
  at-over (in_record_pat {i} p o) lt =
      let w = opens_row-no_word res.RightBrace o in
      let g = row-deep o (omega arith) in
      rw (w, g) refl
