-- What is read of atomic patterns, and of the lists in them, is in the grammar.
use Rattle.std.proofs.Common.{◌≡◌, ℕ, suc, ◌≤◌, List, ◌∷◌, length, Option, None, false, inl, inr, subst, arith}
use Rattle.mlc_names.specs.declared.label.Label.{Label}
use Rattle.mlc_names.specs.declared.token.Reserved.TheVariants as res
use Rattle.sml_tree.specs.declared.ident.Vid.TheVariants.{Named}
use Rattle.sml_tree.specs.Fixity.{Fixity, fix_of}
use Rattle.sml_tree.specs.Terminal.{Terminal, reserved, IsVid, IsLabel}
use Rattle.sml_tree.specs.ReadTree.{Placed, Ty, Pat, record_pat, unit_pat, tuple_pat, list_pat, paren_pat, Pats, no_pats, pat, no_pat_fields, PatField, labelled, punned, punned_as}
use Rattle.sml_tree.specs.Depth.{depth_some, depth_pat, depth_pats, depth_pat_fields, depth_pat_field}
use Rattle.sml_tree.specs.Levels.{pat_level}
use Rattle.sml_tree.specs.Grammar.{MaybeTy, AtPat, of_wild, of_pat_constant, of_pat_vid, of_no_pat_row, of_pat_row, of_unit_pat, of_tuple_pat, of_nil_pat, of_list_pat, of_paren_pat, PatRow, row_dots, last_row, more_row, Field, of_labelled, of_punned, of_punned_as, PatCommas, last_pat, more_pats, Pattern}
use Rattle.sml_grammar.specs.Answer.{Read, ok, bad, read, then_read, Turn, last, whole}
use Rattle.sml_grammar.specs.Terminals.{Taken, taken, first_as, as_label, after_word, word_then, separated, NoState, no_state, plain_vid}
use Rattle.sml_grammar.specs.Types.{maybe_ty}
use Rattle.sml_grammar.specs.Patterns.{PatStart, PatReader, AtPatReader, pat_commas_turn, label_if, label_equals, pun, punned_field, field, PatRowRead, put_field, only_field, only_dots, pat_row_turn, brace_pat, bracket_pat, paren_pat_rest, paren_pat_in, at_pat}
use Rattle.sml_grammar.proofs.Answers.{got, got_some, not_some, then_ok, bad_ok, on_some-split, on_taken-split, word_then-ok, separated-ok, GoodTurn, many-ok}
use Rattle.sml_grammar.proofs.Words.{WordAt, at_word, AfterWord, found, absent, after-is, word-at, word-found}
use Rattle.sml_grammar.proofs.Terminals.{Front, front, label-is}
use Rattle.sml_grammar.proofs.Vids.{IsPlain, is_plain, plain-is}
use Rattle.sml_grammar.proofs.MaybeTypes.{colon-sound}
use Rattle.sml_grammar.proofs.PatStarts.{with-word, PatStartIs, is_wild, is_brace, is_paren, is_bracket, is_scon, is_name, is_none}

-- read, of a level of at least l and at most n deep
pub record GoodPat (n : ℕ) (f : Fixity) (l : ℕ) (i : List Terminal) (y : Read Pat) : Type 0 where
  pub reads : Pattern f i y.tree y.rest
  pub high : l ≤ pat_level f y.tree
  pub fits : depth_pat y.tree ≤ n

pub record GoodAtPat (n : ℕ) (f : Fixity) (i : List Terminal) (y : Read Pat) : Type 0 where
  pub reads : AtPat f i y.tree y.rest
  pub fits : depth_pat y.tree ≤ n

pub record GoodField (n : ℕ) (f : Fixity) (i : List Terminal) (y : Read PatField) : Type 0 where
  pub reads : Field f i y.tree y.rest
  pub fits : depth_pat_field y.tree ≤ n

pub record GoodPats (n : ℕ) (f : Fixity) (i : List Terminal) (as_ : Pats) (o : List Terminal) : Type 0 where
  pub reads : PatCommas f i as_ o
  pub fits : depth_pats as_ ≤ n

pub record GoodRow (n : ℕ) (f : Fixity) (i : List Terminal) (r : PatRowRead) (o : List Terminal) : Type 0 where
  pub reads : PatRow f i r.fields r.dots o
  pub fits : depth_pat_fields r.fields ≤ n

abbrev pub SoundPat : ℕ → PatReader → Type 0
SoundPat n self = (f : Fixity) (l : ℕ) (i : List Terminal) (y : Read Pat) → l ≤ 1000 → self f l i ≡ ok y → GoodPat n f l i y

abbrev pub SoundAtPat : ℕ → AtPatReader → Type 0
SoundAtPat n self = (f : Fixity) (i : List Terminal) (y : Read Pat) → self f i ≡ ok y → GoodAtPat n f i y

-- a label and `=`
pub data LabelEquals : List Terminal → Label → List Terminal → Type 0 where
  label_equals_at : {t : Terminal} {l : Label} {o : List Terminal} (p : ℕ) → IsLabel t l → LabelEquals (t ∷ reserved p res.Equals ∷ o) l o

pub label_equals-is : (i : List Terminal) (l : Label) (o : List Terminal) → label_equals i ≡ taken l o → LabelEquals i l o
label_equals-is i l o h = elim (on_taken-split (first_as as_label i) (λ l m. label_if l.it (after_word res.Equals m)) None h) [
  | inl t ↦ go (label-is i t.0 t.1 t.2) t.3
  | inr p ↦ not_some p.1
]
  where
    at : {t : Terminal} {k : Label} {m : List Terminal} {v : Option (List Terminal)} → IsLabel t k → AfterWord res.Equals m v → label_if k v ≡ taken l o → LabelEquals (t ∷ m) l o
    at {t} r (found {o = m} p) e = subst (λ (z : Taken Label). LabelEquals (t ∷ reserved p res.Equals ∷ m) z.it z.rest) (got_some e) (label_equals_at p r)
    at r (absent n) e = not_some e

    go : {i : List Terminal} {x : Placed Label} {m : List Terminal} → Front (λ t p l. IsLabel t l) i x m → label_if x.it (after_word res.Equals m) ≡ taken l o → LabelEquals i l o
    go (front {o = m} r) e = at r (after-is res.Equals m) e

module _ (n : ℕ) (self : PatReader) (sound : SoundPat n self) (f : Fixity) where
  commas-turn : (s : NoState) (i : List Terminal) (y : Read (Turn Pats NoState)) → pat_commas_turn self f s i ≡ ok y → GoodTurn (λ s i as_ o. GoodPats n f i as_ o) s i y.tree y.rest
  commas-turn s i y h =
      let t = then_ok (self f 0 i) (λ a o. separated (after_word res.Comma o) (pat a) (pat a no_pats) s o) y h in
      let a = t.0.tree in let o = t.0.rest in
      let g = sound f 0 i t.0 (omega arith) t.1 in
      let P : Read (Turn Pats NoState) → Type 0 = λ z. GoodTurn (λ s i as_ o. GoodPats n f i as_ o) s i z.tree z.rest in
      elim (separated-ok (after_word res.Comma o) (pat a) (pat a no_pats) s o t.2) [
        | inl p ↦ subst P p.1 (record { reads = last_pat g.reads; fits = omega (arith, g.fits) })
        | inr p ↦ subst P p.2 (λ b k (q : GoodPats n f p.0 b k).
            let w = with-word (λ z. Pattern f i a z) res.Comma o p.0 p.1 g.reads in
            record { reads = more_pats w.0 w.1 q.reads; fits = omega (arith, g.fits, q.fits) })
      ]

  pub commas-sound : (i : List Terminal) (y : Read Pats) → whole (pat_commas_turn self f) no_state i ≡ ok y → GoodPats n f i y.tree y.rest
  commas-sound i y h = many-ok (pat_commas_turn self f) (λ s i as_ o. GoodPats n f i as_ o) commas-turn (suc (length i)) no_state i y h

  pun-sound : {t : Terminal} {i m : List Terminal} {s : Option Ty} (x : Placed ℕ) → IsVid t x.place x.it → fix_of (Named x.it) f ≡ None → MaybeTy i s m → depth_some s ≤ n →
      (y : Read PatField) → pun self f x s m ≡ ok y → GoodField n f (t ∷ i) y
  pun-sound {t} {i} {m} {s} x v e d le y h =
      elim (on_some-split (after_word res.As m) (λ k. then_read (self f 0 k) (λ a o. read (punned_as x.place x.it s a) o)) (read (punned x.place x.it s) m) h) [
        | inl p ↦
            let u = then_ok (self f 0 p.0) (λ a o. read (punned_as x.place x.it s a) o) y p.2 in
            let g = sound f 0 p.0 u.0 (omega arith) u.1 in
            let w = with-word (λ z. MaybeTy i s z) res.As m p.0 p.1 d in
            subst (λ (z : Read PatField). GoodField n f (t ∷ i) z) (got u.2) (record { reads = of_punned_as w.0 v e w.1 g.reads; fits = omega (arith, g.fits) })
        | inr p ↦ subst (λ (z : Read PatField). GoodField n f (t ∷ i) z) (got p.1) (record { reads = of_punned v e d; fits = le })
      ]

  punned-sound : (i : List Terminal) (y : Read PatField) → punned_field n self f i ≡ ok y → GoodField n f i y
  punned-sound i y h = elim (on_taken-split (plain_vid f i) (λ x m. then_read (maybe_ty n (after_word res.Colon m) m) (pun self f x)) bad h) [
    | inl t ↦ go (plain-is f i t.0 t.1 t.2) t.3
    | inr p ↦ bad_ok p.1
  ]
    where
      go : {i : List Terminal} {x : Placed ℕ} {m : List Terminal} → Front (IsPlain f) i x m → then_read (maybe_ty n (after_word res.Colon m) m) (pun self f x) ≡ ok y → GoodField n f i y
      go {x} (front {o = m} (is_plain v e)) h =
          let t = then_ok (maybe_ty n (after_word res.Colon m) m) (pun self f x) y h in
          let g = colon-sound n m t.0 t.1 in
          pun-sound x v e g.reads g.fits y t.2

  pub field-sound : (i : List Terminal) (y : Read PatField) → field n self f i ≡ ok y → GoodField n f i y
  field-sound i y h = elim (on_taken-split (label_equals i) (λ l m. then_read (self f 0 m) (λ a o. read (labelled l a) o)) (punned_field n self f i) h) [
    | inl t ↦ go (label_equals-is i t.0 t.1 t.2) t.3
    | inr p ↦ punned-sound i y p.1
  ]
    where
      go : {i : List Terminal} {l : Label} {m : List Terminal} → LabelEquals i l m → then_read (self f 0 m) (λ a o. read (labelled l a) o) ≡ ok y → GoodField n f i y
      go {i} {l} (label_equals_at {o = m} p r) h =
          let t = then_ok (self f 0 m) (λ a o. read (labelled l a) o) y h in
          let g = sound f 0 m t.0 (omega arith) t.1 in
          subst (λ (z : Read PatField). GoodField n f i z) (got t.2) (record { reads = of_labelled p r g.reads; fits = g.fits })

  row-turn : (s : NoState) (i : List Terminal) (y : Read (Turn PatRowRead NoState)) → pat_row_turn n self f s i ≡ ok y → GoodTurn (λ s i r o. GoodRow n f i r o) s i y.tree y.rest
  row-turn s i y h =
      let P : Read (Turn PatRowRead NoState) → Type 0 = λ z. GoodTurn (λ s i r o. GoodRow n f i r o) s i z.tree z.rest in
      elim (on_some-split (after_word res.Dots i) (λ o. read (last only_dots) o) (then_read (field n self f i) (λ a o. separated (after_word res.Comma o) (put_field a) (only_field a) s o)) h) [
        | inl p ↦ subst P (got p.2) (dots (word-at res.Dots i p.0 p.1))
        | inr p ↦
            let t = then_ok (field n self f i) (λ a o. separated (after_word res.Comma o) (put_field a) (only_field a) s o) y p.1 in
            let a = t.0.tree in let o = t.0.rest in
            let g = field-sound i t.0 t.1 in
            elim (separated-ok (after_word res.Comma o) (put_field a) (only_field a) s o t.2) [
              | inl p ↦ subst P p.1 (record { reads = last_row g.reads; fits = omega (arith, g.fits) })
              | inr p ↦ subst P p.2 (λ b k (q : GoodRow n f p.0 b k).
                  let w = with-word (λ z. Field f i a z) res.Comma o p.0 p.1 g.reads in
                  record { reads = more_row w.0 w.1 q.reads; fits = omega (arith, g.fits, q.fits) })
            ]
      ]
    where
      dots : {i o : List Terminal} → WordAt res.Dots i o → GoodRow n f i only_dots o
      dots (at_word p) = record { reads = row_dots p; fits = omega arith }

  pub row-sound : (i : List Terminal) (y : Read PatRowRead) → whole (pat_row_turn n self f) no_state i ≡ ok y → GoodRow n f i y.tree y.rest
  row-sound i y h = many-ok (pat_row_turn n self f) (λ s i r o. GoodRow n f i r o) row-turn (suc (length i)) no_state i y h

  abbrev Good : List Terminal → Read Pat → Type 0
  Good i y = GoodAtPat (suc n) f i y

  brace-sound : (p : ℕ) (i : List Terminal) (y : Read Pat) → brace_pat n self f p i ≡ ok y → Good (reserved p res.LeftBrace ∷ i) y
  brace-sound p i y h =
      elim (on_some-split (after_word res.RightBrace i) (λ o. read (record_pat p no_pat_fields false) o)
      (then_read (whole (pat_row_turn n self f) no_state i) (λ r m. word_then res.RightBrace (λ o. read (record_pat p r.fields r.dots) o) m)) h) [
        | inl q ↦ subst (λ (z : Read Pat). Good (reserved p res.LeftBrace ∷ i) z) (got q.2) (empty (word-at res.RightBrace i q.0 q.1))
        | inr q ↦
            let t = then_ok (whole (pat_row_turn n self f) no_state i) (λ r m. word_then res.RightBrace (λ o. read (record_pat p r.fields r.dots) o) m) y q.1 in
            let r = t.0.tree in
            let g = row-sound i t.0 t.1 in
            let u = word_then-ok res.RightBrace (λ o. read (record_pat p r.fields r.dots) o) t.0.rest y t.2 in
            let w = with-word (λ z. PatRow f i r.fields r.dots z) res.RightBrace t.0.rest u.0 (word-found u.1) g.reads in
            subst (λ (z : Read Pat). Good (reserved p res.LeftBrace ∷ i) z) (got u.2) (record { reads = of_pat_row p w.0 w.1; fits = omega (arith, g.fits) })
      ]
    where
      empty : {i o : List Terminal} → WordAt res.RightBrace i o → Good (reserved p res.LeftBrace ∷ i) (record { tree = record_pat p no_pat_fields false; rest = o })
      empty (at_word q) = record { reads = of_no_pat_row p q; fits = omega arith }

  bracket-sound : (p : ℕ) (i : List Terminal) (y : Read Pat) → bracket_pat self f p i ≡ ok y → Good (reserved p res.LeftBracket ∷ i) y
  bracket-sound p i y h =
      elim (on_some-split (after_word res.RightBracket i) (λ o. read (list_pat p no_pats) o)
      (then_read (whole (pat_commas_turn self f) no_state i) (λ as_ m. word_then res.RightBracket (λ o. read (list_pat p as_) o) m)) h) [
        | inl q ↦ subst (λ (z : Read Pat). Good (reserved p res.LeftBracket ∷ i) z) (got q.2) (empty (word-at res.RightBracket i q.0 q.1))
        | inr q ↦
            let t = then_ok (whole (pat_commas_turn self f) no_state i) (λ as_ m. word_then res.RightBracket (λ o. read (list_pat p as_) o) m) y q.1 in
            let g = commas-sound i t.0 t.1 in
            let u = word_then-ok res.RightBracket (λ o. read (list_pat p t.0.tree) o) t.0.rest y t.2 in
            let w = with-word (λ z. PatCommas f i t.0.tree z) res.RightBracket t.0.rest u.0 (word-found u.1) g.reads in
            subst (λ (z : Read Pat). Good (reserved p res.LeftBracket ∷ i) z) (got u.2) (record { reads = of_list_pat p w.0 w.1; fits = omega (arith, g.fits) })
      ]
    where
      empty : {i o : List Terminal} → WordAt res.RightBracket i o → Good (reserved p res.LeftBracket ∷ i) (record { tree = list_pat p no_pats; rest = o })
      empty (at_word q) = record { reads = of_nil_pat p q; fits = omega arith }

  rest-sound : (p : ℕ) (i : List Terminal) (x : Read Pat) (y : Read Pat) → GoodPat n f 0 i x → paren_pat_rest self f p x.tree x.rest ≡ ok y → Good (reserved p res.LeftParen ∷ i) y
  rest-sound p i x y g h =
      elim (on_some-split (after_word res.Comma x.rest) (λ m. then_read (whole (pat_commas_turn self f) no_state m) (λ as_ k. word_then res.RightParen (λ o. read (tuple_pat p (pat x.tree as_)) o) k))
      (word_then res.RightParen (λ o. read (paren_pat p x.tree) o) x.rest) h) [
        | inl q ↦
            let t = then_ok (whole (pat_commas_turn self f) no_state q.0) (λ as_ k. word_then res.RightParen (λ o. read (tuple_pat p (pat x.tree as_)) o) k) y q.2 in
            let c = commas-sound q.0 t.0 t.1 in
            let u = word_then-ok res.RightParen (λ o. read (tuple_pat p (pat x.tree t.0.tree)) o) t.0.rest y t.2 in
            let v = with-word (λ z. Pattern f i x.tree z) res.Comma x.rest q.0 q.1 g.reads in
            let w = with-word (λ z. PatCommas f q.0 t.0.tree z) res.RightParen t.0.rest u.0 (word-found u.1) c.reads in
            subst (λ (z : Read Pat). Good (reserved p res.LeftParen ∷ i) z) (got u.2) (record { reads = of_tuple_pat p v.0 w.0 v.1 w.1; fits = omega (arith, g.fits, c.fits) })
        | inr q ↦
            let u = word_then-ok res.RightParen (λ o. read (paren_pat p x.tree) o) x.rest y q.1 in
            let w = with-word (λ z. Pattern f i x.tree z) res.RightParen x.rest u.0 (word-found u.1) g.reads in
            subst (λ (z : Read Pat). Good (reserved p res.LeftParen ∷ i) z) (got u.2) (record { reads = of_paren_pat p w.0 w.1; fits = omega (arith, g.fits) })
      ]

  paren-sound : (p : ℕ) (i : List Terminal) (y : Read Pat) → paren_pat_in self f p i ≡ ok y → Good (reserved p res.LeftParen ∷ i) y
  paren-sound p i y h =
      elim (on_some-split (after_word res.RightParen i) (λ o. read (unit_pat p) o) (then_read (self f 0 i) (paren_pat_rest self f p)) h) [
        | inl q ↦ subst (λ (z : Read Pat). Good (reserved p res.LeftParen ∷ i) z) (got q.2) (empty (word-at res.RightParen i q.0 q.1))
        | inr q ↦
            let t = then_ok (self f 0 i) (paren_pat_rest self f p) y q.1 in
            rest-sound p i t.0 y (sound f 0 i t.0 (omega arith) t.1) t.2
      ]
    where
      empty : {i o : List Terminal} → WordAt res.RightParen i o → Good (reserved p res.LeftParen ∷ i) (record { tree = unit_pat p; rest = o })
      empty (at_word q) = record { reads = of_unit_pat p q; fits = omega arith }

  pub at-sound : {i : List Terminal} {v : PatStart} (y : Read Pat) → PatStartIs f i v → at_pat n self f v ≡ ok y → Good i y
  at-sound y (is_wild {o} p) h = subst (λ (z : Read Pat). Good (reserved p res.Underscore ∷ o) z) (got h) (record { reads = of_wild p; fits = omega arith })
  at-sound y (is_brace {o} p) h = brace-sound p o y h
  at-sound y (is_paren {o} p) h = paren-sound p o y h
  at-sound y (is_bracket {o} p) h = bracket-sound p o y h
  at-sound y (is_scon {t} {o} c) h = subst (λ (z : Read Pat). Good (t ∷ o) z) (got h) (record { reads = of_pat_constant c; fits = omega arith })
  at-sound y (is_name {i} x) h = subst (λ (z : Read Pat). Good i z) (got h) (record { reads = of_pat_vid x; fits = omega arith })
  at-sound y is_none h = bad_ok h
