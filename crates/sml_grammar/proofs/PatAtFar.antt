-- Where the answer is that an atomic pattern, or a list in one, is too deep, there is a partial one that is.
use Rattle.std.proofs.Common.{◌≡◌, ℕ, suc, ◌≤◌, List, ◌∷◌, length, Option, None, false, inl, inr, subst, arith}
use Rattle.mlc_names.specs.declared.label.Label.{Label}
use Rattle.mlc_names.specs.declared.token.Reserved.{Reserved}
use Rattle.mlc_names.specs.declared.token.Reserved.TheVariants as res
use Rattle.sml_tree.specs.declared.ident.Vid.TheVariants.{Named}
use Rattle.sml_tree.specs.Fixity.{Fixity, fix_of}
use Rattle.sml_tree.specs.Terminal.{Terminal, reserved, IsVid}
use Rattle.sml_tree.specs.ReadTree.{Placed, Ty, Pat, record_pat, unit_pat, tuple_pat, list_pat, paren_pat, Pats, no_pats, pat, no_pat_fields, PatField, labelled, punned, punned_as}
use Rattle.sml_tree.specs.Grammar.{MaybeTy, Field, Pattern}
use Rattle.sml_grammar.specs.Answer.{Read, ok, bad, deep, read, then_read, Turn, last, whole}
use Rattle.sml_grammar.specs.Terminals.{after_word, word_then, separated, NoState, no_state, plain_vid}
use Rattle.sml_grammar.specs.Types.{maybe_ty}
use Rattle.sml_grammar.specs.Patterns.{PatStart, PatReader, AtPatReader, pat_commas_turn, label_equals, pun, punned_field, field, PatRowRead, put_field, only_field, only_dots, pat_row_turn, brace_pat, bracket_pat, paren_pat_rest, paren_pat_in, at_pat}
use Rattle.sml_grammar.proofs.Answers.{got, then_ok, then_deep, not_deep, bad_deep, on_some-split, on_taken-split, word_then-deep, separated-ok, separated-deep, FarTurn, many-reach}
use Rattle.sml_grammar.proofs.Words.{WordAt, at_word}
use Rattle.sml_grammar.proofs.Terminals.{Front, front}
use Rattle.sml_grammar.proofs.Vids.{IsPlain, is_plain, plain-is}
use Rattle.sml_grammar.proofs.MaybeTypes.{colon-sound, maybe-far}
use Rattle.sml_grammar.proofs.PatStarts.{with-word, PatStartIs, is_wild, is_brace, is_paren, is_bracket, is_scon, is_name, is_none}
use Rattle.sml_grammar.proofs.PatAtSound.{GoodPat, SoundPat, LabelEquals, label_equals_at, label_equals-is, field-sound}
use Rattle.sml_grammar.specs.PartialTypes.{OpensTy}
use Rattle.sml_grammar.specs.PartialPatterns.{OpensPat, OpensAtPat, in_paren_pat, in_tuple_pat, in_list_pat, in_record_pat, OpensPats, in_pat, past_pat, OpensPatRow, in_pat_field, past_pat_field, OpensField, in_labelled, in_punned_ty, in_punned_as}

abbrev pub FarPat : ℕ → PatReader → Type 0
FarPat n self = (f : Fixity) (l : ℕ) (i : List Terminal) → l ≤ 1000 → self f l i ≡ deep → OpensPat f l i (suc n)

abbrev pub FarAtPat : ℕ → AtPatReader → Type 0
FarAtPat n self = (f : Fixity) (i : List Terminal) → self f i ≡ deep → OpensAtPat f i (suc n)

-- the closing word is never too deep
closed : {A B : Type 0} (w : Reserved) (g : List Terminal → Read A) (i : List Terminal) → word_then w (λ o. ok (g o)) i ≡ deep → B
closed w g i h = let t = word_then-deep w (λ o. ok (g o)) i h in not_deep t.2

module _ (n : ℕ) (self : PatReader) (sound : SoundPat n self) (far : FarPat n self) (f : Fixity) where
  abbrev FarCommas : NoState → List Terminal → Type 0
  FarCommas s i = OpensPats f i (suc n)

  commas-stop : (s : NoState) (i : List Terminal) → pat_commas_turn self f s i ≡ deep → FarCommas s i
  commas-stop s i h = elim (then_deep (self f 0 i) (λ a o. separated (after_word res.Comma o) (pat a) (pat a no_pats) s o) h) [
    | inl e ↦ in_pat (far f 0 i (omega arith) e)
    | inr t ↦ separated-deep (after_word res.Comma t.0.rest) (pat t.0.tree) (pat t.0.tree no_pats) s t.0.rest t.2
  ]

  commas-turn : (s : NoState) (i : List Terminal) (y : Read (Turn Pats NoState)) → pat_commas_turn self f s i ≡ ok y → FarTurn FarCommas s i y.tree y.rest
  commas-turn s i y h =
      let t = then_ok (self f 0 i) (λ a o. separated (after_word res.Comma o) (pat a) (pat a no_pats) s o) y h in
      let a = t.0.tree in let o = t.0.rest in
      let g = sound f 0 i t.0 (omega arith) t.1 in
      let P : Read (Turn Pats NoState) → Type 0 = λ z. FarTurn FarCommas s i z.tree z.rest in
      elim (separated-ok (after_word res.Comma o) (pat a) (pat a no_pats) s o t.2) [
        | inl p ↦ subst P p.1 tt
        | inr p ↦ subst P p.2 (λ (q : OpensPats f p.0 (suc n)). let w = with-word (λ z. Pattern f i a z) res.Comma o p.0 p.1 g.reads in past_pat w.0 w.1 q)
      ]

  pub commas-far : (i : List Terminal) → whole (pat_commas_turn self f) no_state i ≡ deep → OpensPats f i (suc n)
  commas-far i h = many-reach (pat_commas_turn self f) FarCommas commas-stop commas-turn (suc (length i)) no_state i h

  pun-far : {t : Terminal} {i m : List Terminal} {s : Option Ty} (x : Placed ℕ) → IsVid t x.place x.it → fix_of (Named x.it) f ≡ None → MaybeTy i s m → pun self f x s m ≡ deep → OpensField f (t ∷ i) (suc n)
  pun-far {i} {m} {s} x v e d h =
      elim (on_some-split (after_word res.As m) (λ k. then_read (self f 0 k) (λ a o. read (punned_as x.place x.it s a) o)) (read (punned x.place x.it s) m) h) [
        | inl p ↦ elim (then_deep (self f 0 p.0) (λ a o. read (punned_as x.place x.it s a) o) p.2) [
          | inl q ↦ let w = with-word (λ z. MaybeTy i s z) res.As m p.0 p.1 d in in_punned_as w.0 v e w.1 (far f 0 p.0 (omega arith) q)
          | inr t ↦ not_deep t.2
        ]
        | inr p ↦ not_deep p.1
      ]

  type-field : {t : Terminal} {i m : List Terminal} {p x d : ℕ} → IsVid t p x → fix_of (Named x) f ≡ None → WordAt res.Colon i m → OpensTy 0 m d → OpensField f (t ∷ i) d
  type-field v e (at_word q) o = in_punned_ty q v e o

  punned-far : (i : List Terminal) → punned_field n self f i ≡ deep → OpensField f i (suc n)
  punned-far i h = elim (on_taken-split (plain_vid f i) (λ x m. then_read (maybe_ty n (after_word res.Colon m) m) (pun self f x)) bad h) [
    | inl t ↦ go (plain-is f i t.0 t.1 t.2) t.3
    | inr p ↦ bad_deep {A = PatField} p.1
  ]
    where
      go : {i : List Terminal} {x : Placed ℕ} {m : List Terminal} → Front (IsPlain f) i x m → then_read (maybe_ty n (after_word res.Colon m) m) (pun self f x) ≡ deep → OpensField f i (suc n)
      go {x} (front {o = m} (is_plain v e)) h =
          elim (then_deep (maybe_ty n (after_word res.Colon m) m) (pun self f x) h) [
            | inl q ↦ let w = maybe-far n res.Colon m q in type-field v e w.1 w.2
            | inr t ↦ let g = colon-sound n m t.0 t.1 in pun-far x v e g.reads t.2
          ]

  field-far : (i : List Terminal) → field n self f i ≡ deep → OpensField f i (suc n)
  field-far i h = elim (on_taken-split (label_equals i) (λ l m. then_read (self f 0 m) (λ a o. read (labelled l a) o)) (punned_field n self f i) h) [
    | inl t ↦ go (label_equals-is i t.0 t.1 t.2) t.3
    | inr p ↦ punned-far i p.1
  ]
    where
      go : {i : List Terminal} {l : Label} {m : List Terminal} → LabelEquals i l m → then_read (self f 0 m) (λ a o. read (labelled l a) o) ≡ deep → OpensField f i (suc n)
      go {l} (label_equals_at {o = m} p r) h = elim (then_deep (self f 0 m) (λ a o. read (labelled l a) o) h) [
        | inl e ↦ in_labelled p r (far f 0 m (omega arith) e)
        | inr t ↦ not_deep t.2
      ]

  abbrev FarRow : NoState → List Terminal → Type 0
  FarRow s i = OpensPatRow f i (suc n)

  row-stop : (s : NoState) (i : List Terminal) → pat_row_turn n self f s i ≡ deep → FarRow s i
  row-stop s i h =
      elim (on_some-split (after_word res.Dots i) (λ o. read (last only_dots) o) (then_read (field n self f i) (λ a o. separated (after_word res.Comma o) (put_field a) (only_field a) s o)) h) [
        | inl p ↦ not_deep p.2
        | inr p ↦ elim (then_deep (field n self f i) (λ a o. separated (after_word res.Comma o) (put_field a) (only_field a) s o) p.1) [
          | inl e ↦ in_pat_field (field-far i e)
          | inr t ↦ separated-deep (after_word res.Comma t.0.rest) (put_field t.0.tree) (only_field t.0.tree) s t.0.rest t.2
        ]
      ]

  row-turn : (s : NoState) (i : List Terminal) (y : Read (Turn PatRowRead NoState)) → pat_row_turn n self f s i ≡ ok y → FarTurn FarRow s i y.tree y.rest
  row-turn s i y h =
      let P : Read (Turn PatRowRead NoState) → Type 0 = λ z. FarTurn FarRow s i z.tree z.rest in
      elim (on_some-split (after_word res.Dots i) (λ o. read (last only_dots) o) (then_read (field n self f i) (λ a o. separated (after_word res.Comma o) (put_field a) (only_field a) s o)) h) [
        | inl p ↦ subst P (got p.2) tt
        | inr p ↦
            let t = then_ok (field n self f i) (λ a o. separated (after_word res.Comma o) (put_field a) (only_field a) s o) y p.1 in
            let a = t.0.tree in let o = t.0.rest in
            let g = field-sound n self sound f i t.0 t.1 in
            elim (separated-ok (after_word res.Comma o) (put_field a) (only_field a) s o t.2) [
              | inl p ↦ subst P p.1 tt
              | inr p ↦ subst P p.2 (λ (q : OpensPatRow f p.0 (suc n)). let w = with-word (λ z. Field f i a z) res.Comma o p.0 p.1 g.reads in past_pat_field w.0 w.1 q)
            ]
      ]

  row-far : (i : List Terminal) → whole (pat_row_turn n self f) no_state i ≡ deep → OpensPatRow f i (suc n)
  row-far i h = many-reach (pat_row_turn n self f) FarRow row-stop row-turn (suc (length i)) no_state i h

  abbrev Deep : List Terminal → Type 0
  Deep i = OpensAtPat f i (suc (suc n))

  brace-far : (p : ℕ) (i : List Terminal) → brace_pat n self f p i ≡ deep → Deep (reserved p res.LeftBrace ∷ i)
  brace-far p i h =
      elim (on_some-split (after_word res.RightBrace i) (λ o. read (record_pat p no_pat_fields false) o)
      (then_read (whole (pat_row_turn n self f) no_state i) (λ r m. word_then res.RightBrace (λ o. read (record_pat p r.fields r.dots) o) m)) h) [
        | inl q ↦ not_deep q.2
        | inr q ↦ elim (then_deep (whole (pat_row_turn n self f) no_state i) (λ r m. word_then res.RightBrace (λ o. read (record_pat p r.fields r.dots) o) m) q.1) [
          | inl e ↦ in_record_pat p (row-far i e)
          | inr t ↦ closed res.RightBrace (λ o. record { tree = record_pat p t.0.tree.fields t.0.tree.dots; rest = o }) t.0.rest t.2
        ]
      ]

  bracket-far : (p : ℕ) (i : List Terminal) → bracket_pat self f p i ≡ deep → Deep (reserved p res.LeftBracket ∷ i)
  bracket-far p i h =
      elim (on_some-split (after_word res.RightBracket i) (λ o. read (list_pat p no_pats) o)
      (then_read (whole (pat_commas_turn self f) no_state i) (λ as_ m. word_then res.RightBracket (λ o. read (list_pat p as_) o) m)) h) [
        | inl q ↦ not_deep q.2
        | inr q ↦ elim (then_deep (whole (pat_commas_turn self f) no_state i) (λ as_ m. word_then res.RightBracket (λ o. read (list_pat p as_) o) m) q.1) [
          | inl e ↦ in_list_pat p (commas-far i e)
          | inr t ↦ closed res.RightBracket (λ o. record { tree = list_pat p t.0.tree; rest = o }) t.0.rest t.2
        ]
      ]

  rest-far : (p : ℕ) (i : List Terminal) (x : Read Pat) → GoodPat n f 0 i x → paren_pat_rest self f p x.tree x.rest ≡ deep → Deep (reserved p res.LeftParen ∷ i)
  rest-far p i x g h =
      elim (on_some-split (after_word res.Comma x.rest) (λ m. then_read (whole (pat_commas_turn self f) no_state m) (λ as_ k. word_then res.RightParen (λ o. read (tuple_pat p (pat x.tree as_)) o) k))
      (word_then res.RightParen (λ o. read (paren_pat p x.tree) o) x.rest) h) [
        | inl q ↦ elim (then_deep (whole (pat_commas_turn self f) no_state q.0) (λ as_ k. word_then res.RightParen (λ o. read (tuple_pat p (pat x.tree as_)) o) k) q.2) [
          | inl e ↦ let v = with-word (λ z. Pattern f i x.tree z) res.Comma x.rest q.0 q.1 g.reads in in_tuple_pat p v.0 v.1 (commas-far q.0 e)
          | inr t ↦ closed res.RightParen (λ o. record { tree = tuple_pat p (pat x.tree t.0.tree); rest = o }) t.0.rest t.2
        ]
        | inr q ↦ closed res.RightParen (λ o. record { tree = paren_pat p x.tree; rest = o }) x.rest q.1
      ]

  paren-far : (p : ℕ) (i : List Terminal) → paren_pat_in self f p i ≡ deep → Deep (reserved p res.LeftParen ∷ i)
  paren-far p i h =
      elim (on_some-split (after_word res.RightParen i) (λ o. read (unit_pat p) o) (then_read (self f 0 i) (paren_pat_rest self f p)) h) [
        | inl q ↦ not_deep q.2
        | inr q ↦ elim (then_deep (self f 0 i) (paren_pat_rest self f p) q.1) [
          | inl e ↦ in_paren_pat p (far f 0 i (omega arith) e)
          | inr t ↦ rest-far p i t.0 (sound f 0 i t.0 (omega arith) t.1) t.2
        ]
      ]

  pub at-far : {i : List Terminal} {v : PatStart} → PatStartIs f i v → at_pat n self f v ≡ deep → Deep i
  at-far (is_wild p) h = not_deep h
  at-far (is_brace {o} p) h = brace-far p o h
  at-far (is_paren {o} p) h = paren-far p o h
  at-far (is_bracket {o} p) h = bracket-far p o h
  at-far (is_scon c) h = not_deep h
  at-far (is_name x) h = not_deep h
  at-far is_none h = bad_deep {A = Pat} h
