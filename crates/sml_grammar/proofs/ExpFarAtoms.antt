-- Where lists of expressions and atomic expressions are too deep, a partial one is there.
use Rattle.std.proofs.Common.{◌≡◌, ℕ, suc, ◌≤◌, List, ◌∷◌, length, inl, inr, arith}
use Rattle.mlc_names.specs.declared.label.Label.{Label}
use Rattle.mlc_names.specs.declared.token.Reserved.TheVariants as res
use Rattle.sml_tree.specs.Terminal.{Terminal, reserved}
use Rattle.sml_tree.specs.Fixity.{Fixity}
use Rattle.sml_tree.specs.ReadTree.{Exp, Exps, no_exps, exp, ExpFields, no_exp_fields, exp_field, Decs}
use Rattle.sml_tree.specs.Levels.{after}
use Rattle.sml_tree.specs.Grammar.{Reads, Declares}
use Rattle.sml_grammar.specs.Answer.{Answer, deep, read, then_read, Turn, more, whole}
use Rattle.sml_grammar.specs.Terminals.{first_as, as_label, after_word, word_then, separated, NoState, no_state}
use Rattle.sml_grammar.specs.Patterns.{label_equals}
use Rattle.sml_grammar.specs.Expressions.{Reader, AtomReader, DecsReader, Readers, AtomStart, commas_turn, semicolons_turn, row_turn, brace_exp, bracket_exp, paren_rest, paren_in, let_body, let_exp, atom_by}
use Rattle.sml_grammar.specs.Partial.{Opens, OpensAtom, in_row, in_paren, in_tuple, in_sequence, in_list, in_decs, in_body, OpensRow, in_field, past_field, OpensCommas, in_comma, past_comma, OpensSemicolons, in_semicolon, past_semicolon, OpensDecs}
use Rattle.sml_grammar.proofs.Words.{word-at}
use Rattle.sml_grammar.proofs.Answers.{then_ok, then_deep, then_taken-ok, then_taken-deep, word_then-deep, on_some-split, bad_deep, not_deep, separated-deep, many-far}
use Rattle.sml_grammar.proofs.PatAtSound.{LabelEquals, label_equals_at, label_equals-is}
use Rattle.sml_grammar.proofs.ExpLevels.{AtomStartIs, is_constant_start, is_vid_start, is_equals_start, is_brace_start, is_hash_start, is_paren_start, is_bracket_start, is_let_start, is_no_atom}
use Rattle.sml_grammar.proofs.ExpTurns.{at-head, sep-more}
use Rattle.sml_grammar.proofs.ExpSoundAtoms.{Sounds, SoundsDecs}

abbrev pub Fars : ℕ → Reader → Type 0
Fars n self = (f : Fixity) (l : ℕ) (i : List Terminal) → l ≤ 1000 → self f l i ≡ deep → Opens f l i (suc n)

abbrev pub FarsAtom : ℕ → AtomReader → Type 0
FarsAtom n atom = (f : Fixity) (i : List Terminal) → atom f i ≡ deep → OpensAtom f i (suc n)

abbrev pub FarsDecs : ℕ → DecsReader → Type 0
FarsDecs n decs = (f : Fixity) (i : List Terminal) → decs f i ≡ deep → OpensDecs f i (suc n)

module _ (n : ℕ) (self : Reader) (sound : Sounds n self) (far : Fars n self) (f : Fixity) where
  commas-ends : (s : NoState) (i : List Terminal) → commas_turn self f s i ≡ deep → OpensCommas f i (suc n)
  commas-ends s i h =
      elim (then_deep (self f 0 i) _ h) [
        | inl x ↦ in_comma (far f 0 i (omega arith) x)
        | inr t ↦ separated-deep (after_word res.Comma t.0.rest) (exp t.0.tree) (exp t.0.tree no_exps) s t.0.rest t.2
      ]

  commas-goes : (s : NoState) (i : List Terminal) (put : Exps → Exps) (s' : NoState) (m : List Terminal) → commas_turn self f s i ≡ read (more put s') m → OpensCommas f m (suc n) → OpensCommas f i (suc n)
  commas-goes s i put s' m h k =
      let t = then_ok (self f 0 i) _ (record { tree = more put s'; rest = m }) h in
      let w = sep-more t.0.rest res.Comma (exp t.0.tree) (exp t.0.tree no_exps) s put s' m t.2 in
      let a = at-head w.0 (λ z. Reads f i t.0.tree z) (sound f 0 i t.0 (omega arith) t.1).reads in
      past_comma a.0 a.1 k

  pub commas-far : (i : List Terminal) → whole (commas_turn self f) no_state i ≡ deep → OpensCommas f i (suc n)
  commas-far i h = many-far (commas_turn self f) (λ s m. OpensCommas f m (suc n)) commas-ends commas-goes (suc (length i)) no_state i h

  semicolons-ends : (s : NoState) (i : List Terminal) → semicolons_turn self f s i ≡ deep → OpensSemicolons f i (suc n)
  semicolons-ends s i h =
      elim (then_deep (self f 0 i) _ h) [
        | inl x ↦ in_semicolon (far f 0 i (omega arith) x)
        | inr t ↦ separated-deep (after_word res.Semicolon t.0.rest) (exp t.0.tree) (exp t.0.tree no_exps) s t.0.rest t.2
      ]

  semicolons-goes : (s : NoState) (i : List Terminal) (put : Exps → Exps) (s' : NoState) (m : List Terminal) → semicolons_turn self f s i ≡ read (more put s') m → OpensSemicolons f m (suc n) →
      OpensSemicolons f i (suc n)
  semicolons-goes s i put s' m h k =
      let t = then_ok (self f 0 i) _ (record { tree = more put s'; rest = m }) h in
      let w = sep-more t.0.rest res.Semicolon (exp t.0.tree) (exp t.0.tree no_exps) s put s' m t.2 in
      let a = at-head w.0 (λ z. Reads f i t.0.tree z) (sound f 0 i t.0 (omega arith) t.1).reads in
      past_semicolon a.0 a.1 k

  pub semicolons-far : (i : List Terminal) → whole (semicolons_turn self f) no_state i ≡ deep → OpensSemicolons f i (suc n)
  semicolons-far i h = many-far (semicolons_turn self f) (λ s m. OpensSemicolons f m (suc n)) semicolons-ends semicolons-goes (suc (length i)) no_state i h

  abbrev field_read : NoState → Label → List Terminal → Answer (Turn ExpFields NoState)
  field_read s l m = then_read (self f 0 m) (λ e o. separated (after_word res.Comma o) (exp_field l e) (exp_field l e no_exp_fields) s o)

  field-ends : (s : NoState) {i m : List Terminal} {l : Label} → LabelEquals i l m → field_read s l m ≡ deep → OpensRow f i (suc n)
  field-ends s {m} {l} (label_equals_at p v) h =
      elim (then_deep (self f 0 m) _ h) [
        | inl x ↦ in_field p v (far f 0 m (omega arith) x)
        | inr t ↦ separated-deep (after_word res.Comma t.0.rest) (exp_field l t.0.tree) (exp_field l t.0.tree no_exp_fields) s t.0.rest t.2
      ]

  field-goes : (s : NoState) {i m : List Terminal} {l : Label} (put : ExpFields → ExpFields) (s' : NoState) (k : List Terminal) → LabelEquals i l m → field_read s l m ≡ read (more put s') k →
      OpensRow f k (suc n) →
      OpensRow f i (suc n)
  field-goes s {m} {l} put s' k (label_equals_at p v) h r =
      let t = then_ok (self f 0 m) _ (record { tree = more put s'; rest = k }) h in
      let w = sep-more t.0.rest res.Comma (exp_field l t.0.tree) (exp_field l t.0.tree no_exp_fields) s put s' k t.2 in
      let a = at-head w.0 (λ z. Reads f m t.0.tree z) (sound f 0 m t.0 (omega arith) t.1).reads in
      past_field p a.0 v a.1 r

  row-ends : (s : NoState) (i : List Terminal) → row_turn self f s i ≡ deep → OpensRow f i (suc n)
  row-ends s i h = let q = then_taken-deep (label_equals i) _ h in field-ends s (label_equals-is i q.0 q.1 q.2) q.3

  row-goes : (s : NoState) (i : List Terminal) (put : ExpFields → ExpFields) (s' : NoState) (m : List Terminal) → row_turn self f s i ≡ read (more put s') m → OpensRow f m (suc n) → OpensRow f i (suc n)
  row-goes s i put s' m h k = let q = then_taken-ok (label_equals i) _ (record { tree = more put s'; rest = m }) h in field-goes s put s' m (label_equals-is i q.0 q.1 q.2) q.3 k

  pub row-far : (i : List Terminal) → whole (row_turn self f) no_state i ≡ deep → OpensRow f i (suc n)
  row-far i h = many-far (row_turn self f) (λ s m. OpensRow f m (suc n)) row-ends row-goes (suc (length i)) no_state i h

  -- Atomic expressions, after their first terminal.

  brace-far : (p : ℕ) (i : List Terminal) → brace_exp self f p i ≡ deep → OpensAtom f (reserved p res.LeftBrace ∷ i) (suc (suc n))
  brace-far p i h =
      elim (on_some-split (after_word res.RightBrace i) _ _ h) [
        | inl q ↦ not_deep q.2
        | inr q ↦ elim (then_deep (whole (row_turn self f) no_state i) _ q.1) [
          | inl x ↦ in_row p (row-far i x)
          | inr t ↦ let w = word_then-deep res.RightBrace _ t.0.rest t.2 in not_deep w.2
        ]
      ]

  bracket-far : (p : ℕ) (i : List Terminal) → bracket_exp self f p i ≡ deep → OpensAtom f (reserved p res.LeftBracket ∷ i) (suc (suc n))
  bracket-far p i h =
      elim (on_some-split (after_word res.RightBracket i) _ _ h) [
        | inl q ↦ not_deep q.2
        | inr q ↦ elim (then_deep (whole (commas_turn self f) no_state i) _ q.1) [
          | inl x ↦ in_list p (commas-far i x)
          | inr t ↦ let w = word_then-deep res.RightBracket _ t.0.rest t.2 in not_deep w.2
        ]
      ]

  paren_rest-far : (p : ℕ) {i : List Terminal} {e : Exp} (m : List Terminal) → Reads f i e m → paren_rest self f p e m ≡ deep → OpensAtom f (reserved p res.LeftParen ∷ i) (suc (suc n))
  paren_rest-far p {i} {e} m d h =
      elim (on_some-split (after_word res.Comma m) _ _ h) [
        | inl q ↦ elim (then_deep (whole (commas_turn self f) no_state q.0) _ q.2) [
          | inl x ↦ let a = at-head (word-at res.Comma m q.0 q.1) (λ z. Reads f i e z) d in in_tuple p a.0 a.1 (commas-far q.0 x)
          | inr t ↦ let w = word_then-deep res.RightParen _ t.0.rest t.2 in not_deep w.2
        ]
        | inr q ↦ elim (on_some-split (after_word res.Semicolon m) _ _ q.1) [
          | inl v ↦ elim (then_deep (whole (semicolons_turn self f) no_state v.0) _ v.2) [
            | inl x ↦ let a = at-head (word-at res.Semicolon m v.0 v.1) (λ z. Reads f i e z) d in in_sequence p a.0 a.1 (semicolons-far v.0 x)
            | inr t ↦ let w = word_then-deep res.RightParen _ t.0.rest t.2 in not_deep w.2
          ]
          | inr v ↦ let w = word_then-deep res.RightParen _ m v.1 in not_deep w.2
        ]
      ]

  paren-far : (p : ℕ) (i : List Terminal) → paren_in self f p i ≡ deep → OpensAtom f (reserved p res.LeftParen ∷ i) (suc (suc n))
  paren-far p i h =
      elim (on_some-split (after_word res.RightParen i) _ _ h) [
        | inl q ↦ not_deep q.2
        | inr q ↦ elim (then_deep (self f 0 i) _ q.1) [
          | inl x ↦ in_paren p (far f 0 i (omega arith) x)
          | inr t ↦ paren_rest-far p t.0.rest (sound f 0 i t.0 (omega arith) t.1).reads t.2
        ]
      ]

module _ (n : ℕ) (self : Readers) (sound : Sounds n self.exp) (sound_decs : SoundsDecs n self.decs) (far : Fars n self.exp) (far_decs : FarsDecs n self.decs) (f : Fixity) where
  body-far : (p : ℕ) (i : List Terminal) (ds : Decs) (m : List Terminal) → Declares f i ds m → word_then res.In (let_body self.exp f p ds) m ≡ deep → OpensAtom f (reserved p res.Let ∷ i) (suc (suc n))
  body-far p i ds m d h =
      let w = word_then-deep res.In _ m h in
      elim (then_deep (whole (semicolons_turn self.exp (after f ds)) no_state w.0) _ w.2) [
        | inl x ↦ let a = at-head w.1 (λ z. Declares f i ds z) d in in_body p a.0 a.1 (semicolons-far n self.exp sound far (after f ds) w.0 x)
        | inr t ↦ let v = word_then-deep res.End _ t.0.rest t.2 in not_deep v.2
      ]

  let-far : (p : ℕ) (i : List Terminal) → let_exp self f p i ≡ deep → OpensAtom f (reserved p res.Let ∷ i) (suc (suc n))
  let-far p i h =
      elim (then_deep (self.decs f i) _ h) [ inl x ↦ in_decs p (far_decs f i x) | inr t ↦ body-far p i t.0.tree t.0.rest (sound_decs f i t.0 t.1).reads t.2 ]

  pub atom-far : {i : List Terminal} {s : AtomStart} → AtomStartIs f i s → atom_by self f s ≡ deep → OpensAtom f i (suc (suc n))
  atom-far (is_constant_start v) h = not_deep h
  atom-far (is_vid_start v) h = not_deep h
  atom-far (is_equals_start p e) h = not_deep h
  atom-far (is_brace_start {o} p) h = brace-far n self.exp sound far f p o h
  atom-far (is_hash_start {o} p) h = let q = then_taken-deep (first_as as_label o) _ h in not_deep q.3
  atom-far (is_paren_start {o} p) h = paren-far n self.exp sound far f p o h
  atom-far (is_bracket_start {o} p) h = bracket-far n self.exp sound far f p o h
  atom-far (is_let_start {o} p) h = let-far p o h
  atom-far is_no_atom h = bad_deep {A = Exp} h
