-- Lists of expressions, and atomic expressions, that are read are in the grammar.
use Rattle.std.proofs.Common.{◌≡◌, ℕ, suc, ◌≤◌, List, ◌∷◌, length, false, inl, inr, arith}
use Rattle.mlc_names.specs.declared.label.Label.{Label}
use Rattle.mlc_names.specs.declared.token.Reserved.TheVariants as res
use Rattle.sml_tree.specs.Terminal.{Terminal, reserved, IsLabel}
use Rattle.sml_tree.specs.Fixity.{Fixity}
use Rattle.sml_tree.specs.ReadTree.{Placed, Exp, record_exp, selector, unit_exp, list_exp, Exps, no_exps, exp, ExpFields, no_exp_fields, exp_field, Decs}
use Rattle.sml_tree.specs.Depth.{depth, depth_exps, depth_exp_fields, depth_decs}
use Rattle.sml_tree.specs.Levels.{after, level, could_go_on, goes_on}
use Rattle.sml_tree.specs.Grammar.{Atom, of_constant, of_vid, of_equals, of_no_row, of_row, of_selector, of_unit, of_tuple, of_nil, of_list, of_sequence, of_paren, of_let, ExpRow, last_exp_row, more_exp_row, Commas, last_exp, more_exps, Semicolons, last_of_sequence, more_of_sequence, Reads, Declares}
use Rattle.sml_grammar.specs.Answer.{Read, ok, then_read, Turn, whole}
use Rattle.sml_grammar.specs.Terminals.{first_as, as_label, after_word, separated, NoState, no_state}
use Rattle.sml_grammar.specs.Patterns.{label_equals}
use Rattle.sml_grammar.specs.Expressions.{Reader, AtomReader, DecsReader, Readers, AtomStart, commas_turn, semicolons_turn, row_turn, brace_exp, hash_exp, bracket_exp, tuple_rest, sequence_rest, paren_rest, paren_in, let_exp, atom_by}
use Rattle.sml_grammar.proofs.Words.{word-at}
use Rattle.sml_grammar.proofs.Answers.{then_ok, then_taken-ok, word_then-ok, on_some-split, bad_ok, GoodTurn, many-ok}
use Rattle.sml_grammar.proofs.Terminals.{Front, front, label-is}
use Rattle.sml_grammar.proofs.PatAtSound.{LabelEquals, label_equals_at, label_equals-is}
use Rattle.sml_grammar.proofs.ExpLevels.{AtomStartIs, is_constant_start, is_vid_start, is_equals_start, is_brace_start, is_hash_start, is_paren_start, is_bracket_start, is_let_start, is_no_atom}
use Rattle.sml_grammar.proofs.ExpBelow.{Within}
use Rattle.sml_grammar.proofs.ExpTurns.{at-head, at-front, given, sep-good}

-- read, of a level of at least l and at most n deep, and nothing at its end goes on with what follows
pub record Good (n : ℕ) (f : Fixity) (l : ℕ) (i : List Terminal) (y : Read Exp) : Type 0 where
  pub reads : Reads f i y.tree y.rest
  pub high : l ≤ level f y.tree
  pub ends : goes_on f y.tree y.rest ≡ false
  pub stops : could_go_on f l y.rest ≡ false
  pub fits : depth y.tree ≤ n

abbrev pub Sounds : ℕ → Reader → Type 0
Sounds n self = (f : Fixity) (l : ℕ) (i : List Terminal) (y : Read Exp) → l ≤ 1000 → self f l i ≡ ok y → Good n f l i y

abbrev pub SoundsAtom : ℕ → AtomReader → Type 0
SoundsAtom n atom = (f : Fixity) (i : List Terminal) (y : Read Exp) → atom f i ≡ ok y → Within (Atom f) depth n i y.tree y.rest

abbrev pub SoundsDecs : ℕ → DecsReader → Type 0
SoundsDecs n decs = (f : Fixity) (i : List Terminal) (y : Read Decs) → decs f i ≡ ok y → Within (Declares f) depth_decs n i y.tree y.rest

module _ (n : ℕ) (self : Reader) (sound : Sounds n self) (f : Fixity) where
  commas-turn : (s : NoState) (i : List Terminal) (y : Read (Turn Exps NoState)) → commas_turn self f s i ≡ ok y → GoodTurn (λ s' i' es o. Within (Commas f) depth_exps n i' es o) s i y.tree y.rest
  commas-turn s i y h =
      let t = then_ok (self f 0 i) _ y h in
      let g = sound f 0 i t.0 (omega arith) t.1 in
      sep-good (λ s' i' es o. Within (Commas f) depth_exps n i' es o) s s i t.0.rest res.Comma (exp t.0.tree) (exp t.0.tree no_exps) y t.2
      (λ e. record { reads = last_exp g.reads; fits = omega (arith, g.fits) })
      (λ m w b k r. let a = at-head w (λ z. Reads f i t.0.tree z) g.reads in record { reads = more_exps a.0 a.1 r.reads; fits = omega (arith, g.fits, r.fits) })

  pub commas-sound : (i : List Terminal) (y : Read Exps) → whole (commas_turn self f) no_state i ≡ ok y → Within (Commas f) depth_exps n i y.tree y.rest
  commas-sound i y h = many-ok (commas_turn self f) (λ s' i' es o. Within (Commas f) depth_exps n i' es o) commas-turn (suc (length i)) no_state i y h

  semicolons-turn : (s : NoState) (i : List Terminal) (y : Read (Turn Exps NoState)) → semicolons_turn self f s i ≡ ok y →
      GoodTurn (λ s' i' es o. Within (Semicolons f) depth_exps n i' es o) s i y.tree y.rest
  semicolons-turn s i y h =
      let t = then_ok (self f 0 i) _ y h in
      let g = sound f 0 i t.0 (omega arith) t.1 in
      sep-good (λ s' i' es o. Within (Semicolons f) depth_exps n i' es o) s s i t.0.rest res.Semicolon (exp t.0.tree) (exp t.0.tree no_exps) y t.2
      (λ e. record { reads = last_of_sequence g.reads; fits = omega (arith, g.fits) })
      (λ m w b k r. let a = at-head w (λ z. Reads f i t.0.tree z) g.reads in record { reads = more_of_sequence a.0 a.1 r.reads; fits = omega (arith, g.fits, r.fits) })

  pub semicolons-sound : (i : List Terminal) (y : Read Exps) → whole (semicolons_turn self f) no_state i ≡ ok y → Within (Semicolons f) depth_exps n i y.tree y.rest
  semicolons-sound i y h = many-ok (semicolons_turn self f) (λ s' i' es o. Within (Semicolons f) depth_exps n i' es o) semicolons-turn (suc (length i)) no_state i y h

  abbrev GoodRow : NoState → List Terminal → ExpFields → List Terminal → Type 0
  GoodRow s i fs o = Within (ExpRow f) depth_exp_fields n i fs o

  field-sound : (s : NoState) {i m : List Terminal} {l : Label} (y : Read (Turn ExpFields NoState)) → LabelEquals i l m →
      then_read (self f 0 m) (λ e o. separated (after_word res.Comma o) (exp_field l e) (exp_field l e no_exp_fields) s o) ≡ ok y → GoodTurn GoodRow s i y.tree y.rest
  field-sound s {m} {l} y (label_equals_at {t} p v) h =
      let u = then_ok (self f 0 m) _ y h in
      let g = sound f 0 m u.0 (omega arith) u.1 in
      sep-good GoodRow s s (t ∷ reserved p res.Equals ∷ m) u.0.rest res.Comma (exp_field l u.0.tree) (exp_field l u.0.tree no_exp_fields) y u.2
      (λ e. record { reads = last_exp_row p v g.reads; fits = omega (arith, g.fits) })
      (λ k w b o r. let a = at-head w (λ z. Reads f m u.0.tree z) g.reads in record { reads = more_exp_row p a.0 v a.1 r.reads; fits = omega (arith, g.fits, r.fits) })

  row-turn : (s : NoState) (i : List Terminal) (y : Read (Turn ExpFields NoState)) → row_turn self f s i ≡ ok y → GoodTurn GoodRow s i y.tree y.rest
  row-turn s i y h = let q = then_taken-ok (label_equals i) _ y h in field-sound s y (label_equals-is i q.0 q.1 q.2) q.3

  pub row-sound : (i : List Terminal) (y : Read ExpFields) → whole (row_turn self f) no_state i ≡ ok y → Within (ExpRow f) depth_exp_fields n i y.tree y.rest
  row-sound i y h = many-ok (row_turn self f) GoodRow row-turn (suc (length i)) no_state i y h

  -- Atomic expressions, after their first terminal.

  brace-sound : (p : ℕ) (i : List Terminal) (y : Read Exp) → brace_exp self f p i ≡ ok y → Within (Atom f) depth (suc n) (reserved p res.LeftBrace ∷ i) y.tree y.rest
  brace-sound p i y h =
      elim (on_some-split (after_word res.RightBrace i) _ _ h) [
        | inl q ↦ given (Within (Atom f) depth (suc n) (reserved p res.LeftBrace ∷ i)) q.2
            (at-front (word-at res.RightBrace i q.0 q.1) (λ z. Within (Atom f) depth (suc n) (reserved p res.LeftBrace ∷ z) (record_exp p no_exp_fields) q.0)
            (λ r. record { reads = of_no_row p r; fits = omega arith }))
        | inr q ↦
            let t = then_ok (whole (row_turn self f) no_state i) _ y q.1 in
            let g = row-sound i t.0 t.1 in
            let w = word_then-ok res.RightBrace _ t.0.rest y t.2 in
            let a = at-head w.1 (λ z. ExpRow f i t.0.tree z) g.reads in
            given (Within (Atom f) depth (suc n) (reserved p res.LeftBrace ∷ i)) w.2 (record { reads = of_row p a.0 a.1; fits = omega (arith, g.fits) })
      ]

  hash-sound : (p : ℕ) (i : List Terminal) (y : Read Exp) → hash_exp p i ≡ ok y → Within (Atom f) depth (suc n) (reserved p res.Hash ∷ i) y.tree y.rest
  hash-sound p i y h = let q = then_taken-ok (first_as as_label i) _ y h in given (Within (Atom f) depth (suc n) (reserved p res.Hash ∷ i)) q.3 (go (label-is i q.0 q.1 q.2))
    where
      go : {i : List Terminal} {x : Placed Label} {o : List Terminal} → Front (λ t p l. IsLabel t l) i x o → Within (Atom f) depth (suc n) (reserved p res.Hash ∷ i) (selector p x.it) o
      go (front v) = record { reads = of_selector p v; fits = omega arith }

  bracket-sound : (p : ℕ) (i : List Terminal) (y : Read Exp) → bracket_exp self f p i ≡ ok y → Within (Atom f) depth (suc n) (reserved p res.LeftBracket ∷ i) y.tree y.rest
  bracket-sound p i y h =
      elim (on_some-split (after_word res.RightBracket i) _ _ h) [
        | inl q ↦ given (Within (Atom f) depth (suc n) (reserved p res.LeftBracket ∷ i)) q.2
            (at-front (word-at res.RightBracket i q.0 q.1) (λ z. Within (Atom f) depth (suc n) (reserved p res.LeftBracket ∷ z) (list_exp p no_exps) q.0)
            (λ r. record { reads = of_nil p r; fits = omega arith }))
        | inr q ↦
            let t = then_ok (whole (commas_turn self f) no_state i) _ y q.1 in
            let g = commas-sound i t.0 t.1 in
            let w = word_then-ok res.RightBracket _ t.0.rest y t.2 in
            let a = at-head w.1 (λ z. Commas f i t.0.tree z) g.reads in
            given (Within (Atom f) depth (suc n) (reserved p res.LeftBracket ∷ i)) w.2 (record { reads = of_list p a.0 a.1; fits = omega (arith, g.fits) })
      ]

  tuple-sound : (p q : ℕ) {i : List Terminal} {e : Exp} (m : List Terminal) (y : Read Exp) → Reads f i e (reserved q res.Comma ∷ m) → depth e ≤ n → tuple_rest self f p e m ≡ ok y →
      Within (Atom f) depth (suc n) (reserved p res.LeftParen ∷ i) y.tree y.rest
  tuple-sound p q {i} m y d le h =
      let t = then_ok (whole (commas_turn self f) no_state m) _ y h in
      let g = commas-sound m t.0 t.1 in
      let w = word_then-ok res.RightParen _ t.0.rest y t.2 in
      let a = at-head w.1 (λ z. Commas f m t.0.tree z) g.reads in
      given (Within (Atom f) depth (suc n) (reserved p res.LeftParen ∷ i)) w.2 (record { reads = of_tuple p q a.0 d a.1; fits = omega (arith, le, g.fits) })

  sequence-sound : (p q : ℕ) {i : List Terminal} {e : Exp} (m : List Terminal) (y : Read Exp) → Reads f i e (reserved q res.Semicolon ∷ m) → depth e ≤ n → sequence_rest self f p e m ≡ ok y →
      Within (Atom f) depth (suc n) (reserved p res.LeftParen ∷ i) y.tree y.rest
  sequence-sound p q {i} m y d le h =
      let t = then_ok (whole (semicolons_turn self f) no_state m) _ y h in
      let g = semicolons-sound m t.0 t.1 in
      let w = word_then-ok res.RightParen _ t.0.rest y t.2 in
      let a = at-head w.1 (λ z. Semicolons f m t.0.tree z) g.reads in
      given (Within (Atom f) depth (suc n) (reserved p res.LeftParen ∷ i)) w.2 (record { reads = of_sequence p q a.0 d a.1; fits = omega (arith, le, g.fits) })

  paren_rest-sound : (p : ℕ) {i : List Terminal} {e : Exp} (m : List Terminal) (y : Read Exp) → Reads f i e m → depth e ≤ n → paren_rest self f p e m ≡ ok y →
      Within (Atom f) depth (suc n) (reserved p res.LeftParen ∷ i) y.tree y.rest
  paren_rest-sound p {i} {e} m y d le h =
      elim (on_some-split (after_word res.Comma m) _ _ h) [
        | inl q ↦ let a = at-head (word-at res.Comma m q.0 q.1) (λ z. Reads f i e z) d in tuple-sound p a.0 q.0 y a.1 le q.2
        | inr q ↦ elim (on_some-split (after_word res.Semicolon m) _ _ q.1) [
          | inl v ↦ let a = at-head (word-at res.Semicolon m v.0 v.1) (λ z. Reads f i e z) d in sequence-sound p a.0 v.0 y a.1 le v.2
          | inr v ↦
              let w = word_then-ok res.RightParen _ m y v.1 in
              let a = at-head w.1 (λ z. Reads f i e z) d in
              given (Within (Atom f) depth (suc n) (reserved p res.LeftParen ∷ i)) w.2 (record { reads = of_paren p a.0 a.1; fits = omega (arith, le) })
        ]
      ]

  paren-sound : (p : ℕ) (i : List Terminal) (y : Read Exp) → paren_in self f p i ≡ ok y → Within (Atom f) depth (suc n) (reserved p res.LeftParen ∷ i) y.tree y.rest
  paren-sound p i y h =
      elim (on_some-split (after_word res.RightParen i) _ _ h) [
        | inl q ↦ given (Within (Atom f) depth (suc n) (reserved p res.LeftParen ∷ i)) q.2
            (at-front (word-at res.RightParen i q.0 q.1) (λ z. Within (Atom f) depth (suc n) (reserved p res.LeftParen ∷ z) (unit_exp p) q.0) (λ r. record { reads = of_unit p r; fits = omega arith }))
        | inr q ↦
            let t = then_ok (self f 0 i) _ y q.1 in
            let g = sound f 0 i t.0 (omega arith) t.1 in
            paren_rest-sound p t.0.rest y g.reads g.fits t.2
      ]

module _ (n : ℕ) (self : Readers) (sound : Sounds n self.exp) (sound_decs : SoundsDecs n self.decs) (f : Fixity) where
  let-sound : (p : ℕ) (i : List Terminal) (y : Read Exp) → let_exp self f p i ≡ ok y → Within (Atom f) depth (suc n) (reserved p res.Let ∷ i) y.tree y.rest
  let-sound p i y h =
      let t = then_ok (self.decs f i) _ y h in
      let d = sound_decs f i t.0 t.1 in
      let w = word_then-ok res.In _ t.0.rest y t.2 in
      let a = at-head w.1 (λ z. Declares f i t.0.tree z) d.reads in
      let u = then_ok (whole (semicolons_turn self.exp (after f t.0.tree)) no_state w.0) _ y w.2 in
      let g = semicolons-sound n self.exp sound (after f t.0.tree) w.0 u.0 u.1 in
      let v = word_then-ok res.End _ u.0.rest y u.2 in
      let b = at-head v.1 (λ z. Semicolons (after f t.0.tree) w.0 u.0.tree z) g.reads in
      given (Within (Atom f) depth (suc n) (reserved p res.Let ∷ i)) v.2 (record { reads = of_let p a.0 b.0 a.1 b.1; fits = omega (arith, d.fits, g.fits) })

  pub atom-sound : {i : List Terminal} {s : AtomStart} (y : Read Exp) → AtomStartIs f i s → atom_by self f s ≡ ok y → Within (Atom f) depth (suc n) i y.tree y.rest
  atom-sound {i} y (is_constant_start v) h = given (Within (Atom f) depth (suc n) i) h (record { reads = of_constant v; fits = omega arith })
  atom-sound {i} y (is_vid_start v) h = given (Within (Atom f) depth (suc n) i) h (record { reads = of_vid v; fits = omega arith })
  atom-sound {i} y (is_equals_start p e) h = given (Within (Atom f) depth (suc n) i) h (record { reads = of_equals p e; fits = omega arith })
  atom-sound y (is_brace_start {o} p) h = brace-sound n self.exp sound f p o y h
  atom-sound y (is_hash_start {o} p) h = hash-sound n self.exp sound f p o y h
  atom-sound y (is_paren_start {o} p) h = paren-sound n self.exp sound f p o y h
  atom-sound y (is_bracket_start {o} p) h = bracket-sound n self.exp sound f p o y h
  atom-sound y (is_let_start {o} p) h = let-sound p o y h
  atom-sound y is_no_atom h = bad_ok h
