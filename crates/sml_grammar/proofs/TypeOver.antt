-- Where a partial type is too deep, the answer is that it is.
use Rattle.std.proofs.Common.{◌≡◌, ℕ, zero, suc, ◌≤◌, ◌<◌, List, ◌∷◌, length, None, inl, inr, refl, ◌∙◌, arith}
use Rattle.mlc_names.specs.declared.token.Reserved.TheVariants as res
use Rattle.sml_tree.specs.Terminal.{LongId, Terminal, reserved, IsLongTycon}
use Rattle.sml_tree.specs.ReadTree.{Ty}
use Rattle.sml_tree.specs.Depth.{depth_ty}
use Rattle.sml_tree.specs.Levels.{ty_level}
use Rattle.sml_tree.specs.Grammar.{ReadsTy}
use Rattle.sml_grammar.specs.Answer.{deep, many}
use Rattle.sml_grammar.specs.Terminals.{after_word, NoState, no_state, tail}
use Rattle.sml_grammar.specs.Types.{TyReader, ty_start, ty_atom, ty_field_turn, ty_commas_turn, star_turn, arrow_turn, brace_ty, postfix_turn, ty_from, read_ty}
use Rattle.sml_grammar.specs.PartialTypes.{OpensTy, begun_ty, in_paren_ty, in_arguments, in_ty_row, applied_ty, starred, in_product, arrowed, in_function, OpensTys, in_ty, past_ty, OpensTyRow, in_ty_field, past_ty_field, OpensStars, in_star, past_star, OpensArrows, in_arrow, past_arrow}
use Rattle.sml_grammar.proofs.Answers.{fits, over, le_or, many-deep, many-stop}
use Rattle.sml_grammar.proofs.Words.{WordAt, at_word, StarAt, at_star}
use Rattle.sml_grammar.proofs.Terminals.{label-word, not-word}
use Rattle.sml_grammar.proofs.TypeShapes.{ty-shorter, star-no_con, arrow-no_con, arrow-no_star}
use Rattle.sml_grammar.proofs.TypeComplete.{SettlesTy, row-turns, row-deep, commas-turns, commas-deep, stars-turns, stars-deep, operand, arrows-turns, arrows-deep, domain, simple_ty, Comes, comes, sinks, simple-comes, simple-settled, postfix-deep, products, product-deep, product-goes, products-settled, arrows, arrow-deep, arrow-goes, from-arrows, ty-settled, star-length, arrow-length}
use Rattle.sml_grammar.proofs.TypePaths.{opens-begins}

abbrev pub OverTy : ℕ → TyReader → Type 0
OverTy n self = (l : ℕ) (i : List Terminal) (d : ℕ) → OpensTy l i d → n < d → self l i ≡ deep

-- what partial lists begin with
stars-front : {i : List Terminal} {d : ℕ} → OpensStars i d → StarAt i (tail i)
stars-front (in_star p x o) = at_star p x
stars-front (past_star p x lv d o) = at_star p x

arrows-front : {i : List Terminal} {d : ℕ} → OpensArrows i d → WordAt res.Arrow i (tail i)
arrows-front (in_arrow p o) = at_word p
arrows-front (past_arrow p lv d o) = at_word p

row-front : {i : List Terminal} {d : ℕ} → OpensTyRow i d → after_word res.RightBrace i ≡ None
row-front (in_ty_field {t} {i} p l o) = not-word res.RightBrace t (reserved p res.Colon ∷ i) (label-word l)
row-front (past_ty_field {t} {i} p q l d o) = not-word res.RightBrace t (reserved p res.Colon ∷ i) (label-word l)

module _ (n : ℕ) (self : TyReader) (settles : SettlesTy n self) (overs : OverTy n self) where
  row-over : {i : List Terminal} {d : ℕ} (s : NoState) → OpensTyRow i d → n < d → (k : ℕ) → length i < k → many (ty_field_turn self) k s i ≡ deep
  row-over s o lt zero fuel = absurd (omega arith)
  row-over s (in_ty_field {i} {d} p l o) lt (suc k) fuel = many-stop (ty_field_turn self) k (row-deep n self settles s p l (overs 0 i d o lt))
  row-over s (past_ty_field p q l d o) lt (suc k) fuel =
      let sh = ty-shorter d in
      elim (settles 0 _ _ _ d (omega arith) refl) [
        | fits le h ↦ many-deep (ty_field_turn self) k (row-turns n self settles s p q l h) (row-over s o lt k (omega arith))
        | over g h ↦ many-stop (ty_field_turn self) k (row-deep n self settles s p l h)
      ]

  commas-over : {i : List Terminal} {d : ℕ} (s : NoState) → OpensTys i d → n < d → (k : ℕ) → length i < k → many (ty_commas_turn self) k s i ≡ deep
  commas-over s o lt zero fuel = absurd (omega arith)
  commas-over s (in_ty {i} {d} o) lt (suc k) fuel = many-stop (ty_commas_turn self) k (commas-deep n self settles s (overs 0 i d o lt))
  commas-over s (past_ty q d o) lt (suc k) fuel =
      let sh = ty-shorter d in
      elim (settles 0 _ _ _ d (omega arith) refl) [
        | fits le h ↦ many-deep (ty_commas_turn self) k (commas-turns n self settles s q h) (commas-over s o lt k (omega arith))
        | over g h ↦ many-stop (ty_commas_turn self) k (commas-deep n self settles s h)
      ]

  stars-over : {i : List Terminal} {d : ℕ} (s : NoState) → OpensStars i d → n < d → (k : ℕ) → length i ≤ k → many (star_turn self) k s (tail i) ≡ deep
  stars-over s (in_star p x o) lt zero fuel = absurd (omega arith)
  stars-over s (past_star p x lv d o) lt zero fuel = absurd (omega arith)
  stars-over s (in_star {i} {d} p x o) lt (suc k) fuel = many-stop (star_turn self) k (stars-deep n self settles s (overs 2 i d o lt))
  stars-over s (past_star p x lv d o) lt (suc k) fuel =
      let sh = ty-shorter d in
      let w = stars-front o in
      elim (operand n self settles lv d (star-no_con w)) [
        | fits le h ↦ many-deep (star_turn self) k (stars-turns n self settles s h w) (stars-over s o lt k (omega arith))
        | over g h ↦ many-stop (star_turn self) k (stars-deep n self settles s h)
      ]

  arrows-over : {i : List Terminal} {d : ℕ} (s : NoState) → OpensArrows i d → n < d → (k : ℕ) → length i ≤ k → many (arrow_turn self) k s (tail i) ≡ deep
  arrows-over s (in_arrow p o) lt zero fuel = absurd (omega arith)
  arrows-over s (past_arrow p lv d o) lt zero fuel = absurd (omega arith)
  arrows-over s (in_arrow {i} {d} p o) lt (suc k) fuel = many-stop (arrow_turn self) k (arrows-deep n self settles s (overs 1 i d o lt))
  arrows-over s (past_arrow p lv d o) lt (suc k) fuel =
      let sh = ty-shorter d in
      let w = arrows-front o in
      elim (domain n self settles lv d (arrow-no_con w) (arrow-no_star w)) [
        | fits le h ↦ many-deep (arrow_turn self) k (arrows-turns n self settles s h w) (arrows-over s o lt k (omega arith))
        | over g h ↦ many-stop (arrow_turn self) k (arrows-deep n self settles s h)
      ]

  -- deep from the first part on
  from-atom : (l : ℕ) (i : List Terminal) → ty_atom self (ty_start i) ≡ deep → ty_from self n l i ≡ deep
  from-atom l i h = rw h refl

  from-simple : (l : ℕ) (i : List Terminal) → simple_ty n self settles i ≡ deep → ty_from self n l i ≡ deep
  from-simple l i h = from-arrows n self settles l i ∙ rw h refl

  from-products : (l : ℕ) (i : List Terminal) → products n self settles l i ≡ deep → ty_from self n l i ≡ deep
  from-products l i h = from-arrows n self settles l i ∙ rw h refl

  applied-over : {i m : List Terminal} {t : Terminal} {p : ℕ} {c : LongId} {a : Ty} → Comes n self settles i a (t ∷ m) → IsLongTycon t p c → n < depth_ty a → simple_ty n self settles i ≡ deep
  applied-over (sinks g h) c lt = h
  applied-over (comes le zero g h) c lt = absurd (omega arith)
  applied-over {m} {a} (comes le (suc k) g h) c lt = h ∙ many-stop (postfix_turn n) k (postfix-deep n self settles a m lt c)

  starred-over : (l : ℕ) {i m k : List Terminal} {a : Ty} → l ≤ 1 → 2 ≤ ty_level a → ReadsTy i a m → StarAt m k → n < depth_ty a → products n self settles l i ≡ deep
  starred-over l {a} low lv d w lt =
      elim (simple-settled n self settles lv d (star-no_con w)) [
        | fits le h ↦ (let e = product-deep n self settles l a low w lt in rw (h, e) refl)
        | over g h ↦ rw h refl
      ]

  product-over : (l : ℕ) {i m : List Terminal} {a : Ty} {d : ℕ} → l ≤ 1 → 2 ≤ ty_level a → ReadsTy i a m → OpensStars m d → n < d → products n self settles l i ≡ deep
  product-over l {m} {a} low lv d o lt =
      let w = stars-front o in
      elim (le_or (depth_ty a) n) [
        | inl p ↦ elim (simple-settled n self settles lv d (star-no_con w)) [
          | fits le h ↦ (let e = product-goes n self settles l a low w p in let r = stars-over no_state o lt (suc (length (tail m))) (star-length w) in rw (h, e, r) refl)
          | over g h ↦ rw h refl
        ]
        | inr p ↦ starred-over l low lv d w p
      ]

  arrowed-over : (l : ℕ) {i m k : List Terminal} {a : Ty} → l ≤ 0 → 1 ≤ ty_level a → ReadsTy i a m → WordAt res.Arrow m k → n < depth_ty a → arrows n self settles l i ≡ deep
  arrowed-over l {a} low lv d w lt =
      elim (products-settled n self settles l d lv (omega arith) (arrow-no_con w) (λ e. arrow-no_star w)) [
        | fits le h ↦ (let e = arrow-deep n self settles l a low w lt in rw (h, e) refl)
        | over g h ↦ rw h refl
      ]

  function-over : (l : ℕ) {i m : List Terminal} {a : Ty} {d : ℕ} → l ≤ 0 → 1 ≤ ty_level a → ReadsTy i a m → OpensArrows m d → n < d → arrows n self settles l i ≡ deep
  function-over l {m} {a} low lv d o lt =
      let w = arrows-front o in
      elim (le_or (depth_ty a) n) [
        | inl p ↦ elim (products-settled n self settles l d lv (omega arith) (arrow-no_con w) (λ e. arrow-no_star w)) [
          | fits le h ↦ (let e = arrow-goes n self settles l a low w p in let r = arrows-over no_state o lt (suc (length (tail m))) (arrow-length w) in rw (h, e, r) refl)
          | over g h ↦ rw h refl
        ]
        | inr p ↦ arrowed-over l low lv d w p
      ]

  brace-over : {i : List Terminal} {d : ℕ} (p : ℕ) → OpensTyRow i d → n < d → brace_ty self p i ≡ deep
  brace-over {i} p o lt = let e = row-front o in let r = row-over no_state o lt (suc (length i)) (omega arith) in rw (e, r) refl

  arguments-over : {i m : List Terminal} {a : Ty} {d : ℕ} (p q : ℕ) → ReadsTy i a (reserved q res.Comma ∷ m) → OpensTys m d → n < d → ty_atom self (ty_start (reserved p res.LeftParen ∷ i)) ≡ deep
  arguments-over {m} p q d o lt =
      elim (settles 0 _ _ _ d (omega arith) refl) [
        | fits le h ↦ (let r = commas-over no_state o lt (suc (length m)) (omega arith) in rw (h, r) refl)
        | over g h ↦ rw h refl
      ]

  from-over : (l : ℕ) (i : List Terminal) (d : ℕ) → OpensTy l i d → suc n < d → ty_from self n l i ≡ deep
  from-over l i d (begun_ty e) lt = absurd (omega arith)
  from-over l i d (in_paren_ty {i = j} {d = c} p o) lt = let h = overs 0 j c o (omega arith) in from-atom l (reserved p res.LeftParen ∷ j) (rw h refl)
  from-over l i d (in_arguments {i = j} p q e o) lt = from-atom l (reserved p res.LeftParen ∷ j) (arguments-over p q e o (omega arith))
  from-over l i d (in_ty_row {i = j} p o) lt = from-atom l (reserved p res.LeftBrace ∷ j) (brace-over p o (omega arith))
  from-over l i d (applied_ty lv e c le) lt = from-simple l i (applied-over (simple-comes n self settles lv e) c (omega arith))
  from-over l i d (starred p x low lv e le) lt = from-products l i (starred-over l low lv e (at_star p x) (omega arith))
  from-over l i d (in_product low lv e o) lt = from-products l i (product-over l low lv e o (omega arith))
  from-over l i d (arrowed p low lv e le) lt = from-arrows n self settles l i ∙ arrowed-over l low lv e (at_word p) (omega arith)
  from-over l i d (in_function low lv e o) lt = from-arrows n self settles l i ∙ function-over l low lv e o (omega arith)

overs-all : (n : ℕ) → OverTy n (read_ty n)
unfolding read_ty
overs-all zero l i d o lt = let e = opens-begins o in rw e refl
overs-all (suc n) l i d o lt = from-over n (read_ty n) (ty-settled n) (overs-all n) l i d o lt

pub ty-over : (n l : ℕ) {i : List Terminal} {d : ℕ} → OpensTy l i d → n < d → read_ty n l i ≡ deep
ty-over n l {i} {d} o lt = overs-all n l i d o lt
