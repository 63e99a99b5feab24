-- Where declarations are too deep, partial ones are there.
use Rattle.std.proofs.Common.{◌≡◌, ℕ, suc, List, ◌∷◌, length, true, false, inl, inr}
use Rattle.mlc_names.specs.declared.token.Reserved.TheVariants as res
use Rattle.sml_tree.specs.Terminal.{Terminal, reserved}
use Rattle.sml_tree.specs.Fixity.{Fixity}
use Rattle.sml_tree.specs.ReadTree.{DataBind, Decs, Dec}
use Rattle.sml_tree.specs.Depth.{depth_decs}
use Rattle.sml_tree.specs.Levels.{after}
use Rattle.sml_tree.specs.Grammar.{DataBinds, Declares}
use Rattle.sml_grammar.specs.Answer.{Read, ok, deep, read, more}
use Rattle.sml_grammar.specs.Terminals.{first_as, as_long_tycon, after_word}
use Rattle.sml_grammar.specs.Bindings.{read_tyvars, read_type_binds, read_data_binds, read_ex_binds, read_strids, read_vids}
use Rattle.sml_grammar.specs.Expressions.{Reader, DecsReader, read_binds, read_funs, DecStart, dec_start, infix_directive, withtype_rest, replicated, datatype_form, local_rest, dec_by, is_dec_start, dec_turn, decs_from}
use Rattle.sml_grammar.specs.Partial.{OpensDecs, past_empty, in_dec, past_dec, OpensDec, in_val, in_fun, in_type, in_datatype, in_withtype, in_exception}
use Rattle.sml_grammar.proofs.Words.{word-at}
use Rattle.sml_grammar.proofs.Answers.{chosen, then_ok, then_deep, then_taken-deep, word_then-deep, on_some-split, on_taken-split, bad_deep, not_deep, many-far}
use Rattle.sml_grammar.proofs.BindNames.{precedence-sound}
use Rattle.sml_grammar.proofs.ExpLevels.{DecStartIs, is_val, is_fun, is_type, is_datatype, is_exception, is_local, is_open, is_infix_dec, is_infixr_dec, is_nonfix_dec, is_no_dec, dec-start-is}
use Rattle.sml_grammar.proofs.BindTyvars.{tyvars-here}
use Rattle.sml_grammar.proofs.ExpBelow.{Within, Below, FarBelow}
use Rattle.sml_grammar.proofs.ExpTurns.{at-head, at-front, went, last-more}
use Rattle.sml_grammar.proofs.ExpSoundAtoms.{Sounds}
use Rattle.sml_grammar.proofs.ExpSoundDecs.{dec-sound}
use Rattle.sml_grammar.proofs.ExpFarAtoms.{Fars}
use Rattle.sml_grammar.proofs.ExpFarBinds.{binds-far, funs-far}

-- where the declarations in a `local` are too deep, so is it
pub record FarInner (n : ℕ) (inner : DecsReader) : Type 0 where
  pub first : (f : Fixity) (p : ℕ) (i : List Terminal) → inner f i ≡ deep → OpensDec f (reserved p res.Local ∷ i) (suc n)
  pub second : (f : Fixity) (p q : ℕ) (i : List Terminal) (ds : Decs) (m : List Terminal) → Declares f i ds (reserved q res.In ∷ m) → inner (after f ds) m ≡ deep →
      OpensDec f (reserved p res.Local ∷ i) (suc n)

module _ (n : ℕ) (below : Below n) (far_below : FarBelow n) (self : Reader) (sound : Sounds n self) (far : Fars n self)
    (inner : DecsReader) (sound_inner : (f : Fixity) (i : List Terminal) (y : Read Decs) → inner f i ≡ ok y → Within (Declares f) (λ ds. suc (depth_decs ds)) n i y.tree y.rest)
    (far_inner : FarInner n inner) where
  module _ (f : Fixity) where
    withtype-far : (p : ℕ) (i : List Terminal) (bs : List DataBind) (m : List Terminal) → DataBinds f i bs m → withtype_rest n p bs m ≡ deep → OpensDec f (reserved p res.Datatype ∷ i) (suc n)
    withtype-far p i bs m d h =
        elim (on_some-split (after_word res.Withtype m) _ _ h) [
          | inl q ↦ elim (then_deep (read_type_binds n q.0) _ q.2) [
            | inl x ↦ let a = at-head (word-at res.Withtype m q.0 q.1) (λ z. DataBinds f i bs z) d in in_withtype p a.0 a.1 (far_below.type_binds q.0 x)
            | inr u ↦ not_deep u.2
          ]
          | inr q ↦ not_deep q.1
        ]

    datatype-far : (p : ℕ) (i : List Terminal) → datatype_form n f p i ≡ deep → OpensDec f (reserved p res.Datatype ∷ i) (suc n)
    datatype-far p i h =
        elim (on_taken-split (replicated i) _ _ h) [
          | inl q ↦ let u = then_taken-deep (first_as as_long_tycon q.1) _ q.3 in not_deep u.3
          | inr q ↦ elim (then_deep (read_data_binds n f i) (withtype_rest n p) q.1) [
            | inl x ↦ in_datatype p (far_below.data_binds f i x)
            | inr t ↦ withtype-far p i t.0.tree t.0.rest (below.data_binds f i t.0 t.1).reads t.2
          ]
        ]

    local-far : (p : ℕ) (i : List Terminal) (ds : Decs) (m : List Terminal) → Declares f i ds m → local_rest inner f p ds m ≡ deep → OpensDec f (reserved p res.Local ∷ i) (suc n)
    local-far p i ds m d h =
        let w = word_then-deep res.In _ m h in
        elim (then_deep (inner (after f ds) w.0) _ w.2) [
          | inl x ↦ let a = at-head w.1 (λ z. Declares f i ds z) d in far_inner.second f p a.0 i ds w.0 a.1 x
          | inr u ↦ let v = word_then-deep res.End _ u.0.rest u.2 in not_deep v.2
        ]

    dec-far : {i : List Terminal} {s : DecStart} → DecStartIs i s → dec_by n self inner f s ≡ deep → OpensDec f i (suc n)
    dec-far (is_val {o} p) h =
        elim (then_deep (read_tyvars o) _ h) [
          | inl x ↦ absurd (far_below.tyvars o x)
          | inr t ↦ elim (then_deep (read_binds n self f t.0.rest) _ t.2) [ inl x ↦ in_val p (tyvars-here t.1) (binds-far n below far_below self sound far f t.0.rest x) | inr u ↦ not_deep u.2 ]
        ]
    dec-far (is_fun {o} p) h =
        elim (then_deep (read_tyvars o) _ h) [
          | inl x ↦ absurd (far_below.tyvars o x)
          | inr t ↦ elim (then_deep (read_funs n self f t.0.rest) _ t.2) [ inl x ↦ in_fun p (tyvars-here t.1) (funs-far n below far_below self sound far f t.0.rest x) | inr u ↦ not_deep u.2 ]
        ]
    dec-far (is_type {o} p) h = elim (then_deep (read_type_binds n o) _ h) [ inl x ↦ in_type p (far_below.type_binds o x) | inr u ↦ not_deep u.2 ]
    dec-far (is_datatype {o} p) h = datatype-far p o h
    dec-far (is_exception {o} p) h = elim (then_deep (read_ex_binds n f o) _ h) [ inl x ↦ in_exception p (far_below.ex_binds f o x) | inr u ↦ not_deep u.2 ]
    dec-far (is_local {o} p) h =
        elim (then_deep (inner f o) (local_rest inner f p) h) [ inl x ↦ far_inner.first f p o x | inr t ↦ local-far p o t.0.tree t.0.rest (sound_inner f o t.0 t.1).reads t.2 ]
    dec-far (is_open {o} p) h = elim (then_deep (read_strids o) _ h) [ inl x ↦ absurd (far_below.strids o x) | inr u ↦ not_deep u.2 ]
    dec-far (is_infix_dec {o} p) h =
        let q = precedence-sound (infix_directive p false) o h in
        elim (then_deep (read_vids q.1) _ q.3) [ inl x ↦ absurd (far_below.vids q.1 x) | inr u ↦ not_deep u.2 ]
    dec-far (is_infixr_dec {o} p) h =
        let q = precedence-sound (infix_directive p true) o h in
        elim (then_deep (read_vids q.1) _ q.3) [ inl x ↦ absurd (far_below.vids q.1 x) | inr u ↦ not_deep u.2 ]
    dec-far (is_nonfix_dec {o} p) h = elim (then_deep (read_vids o) _ h) [ inl x ↦ absurd (far_below.vids o x) | inr u ↦ not_deep u.2 ]
    dec-far is_no_dec h = bad_deep {A = Dec} h

  dec-ends : (f : Fixity) (i : List Terminal) → dec_turn n self inner f i ≡ deep → OpensDecs f i (suc n)
  dec-ends f i h =
      elim (on_some-split (after_word res.Semicolon i) _ _ h) [
        | inl q ↦ not_deep q.2
        | inr q ↦ elim (chosen (is_dec_start (dec_start i)) _ _ q.1) [
          | inl p ↦ elim (then_deep (dec_by n self inner f (dec_start i)) _ p.1) [ inl x ↦ in_dec (dec-far f (dec-start-is i) x) | inr u ↦ not_deep u.2 ]
          | inr p ↦ not_deep p.1
        ]
      ]

  dec-goes : (f : Fixity) (i : List Terminal) (put : Decs → Decs) (g : Fixity) (m : List Terminal) → dec_turn n self inner f i ≡ read (more put g) m → OpensDecs g m (suc n) → OpensDecs f i (suc n)
  dec-goes f i put g m h k =
      elim (on_some-split (after_word res.Semicolon i) _ _ h) [
        | inl q ↦
            let r = went (λ z o. OpensDecs z o (suc n)) q.2 k in
            at-front (word-at res.Semicolon i q.0 q.1) (λ z. OpensDecs f z (suc n)) (λ p. past_empty p r)
        | inr q ↦ elim (chosen (is_dec_start (dec_start i)) _ _ q.1) [
          | inl p ↦
              let t = then_ok (dec_by n self inner f (dec_start i)) _ (record { tree = more put g; rest = m }) p.1 in
              past_dec (dec-sound n below self sound inner sound_inner f t.0 (dec-start-is i) t.1).reads (went (λ z o. OpensDecs z o (suc n)) t.2 k)
          | inr p ↦ last-more p.1
        ]
      ]

  pub decs_from-far : (f : Fixity) (i : List Terminal) → decs_from n self inner f i ≡ deep → OpensDecs f i (suc n)
  decs_from-far f i h = many-far (dec_turn n self inner) (λ g m. OpensDecs g m (suc n)) dec-ends dec-goes (suc (length i)) f i h
