-- Declarations that are read are in the grammar.
use Rattle.std.proofs.Common.{◌≡◌, ℕ, suc, List, ◌∷◌, length, Option, Some, None, true, false, inl, inr, refl, subst, arith}
use Rattle.mlc_names.specs.declared.token.Reserved.TheVariants as res
use Rattle.sml_tree.specs.Terminal.{LongId, Terminal, reserved, IsTycon, IsLongTycon}
use Rattle.sml_tree.specs.Fixity.{Fixity}
use Rattle.sml_tree.specs.ReadTree.{Placed, DataBind, Decs, Dec, replicate_dec}
use Rattle.sml_tree.specs.Depth.{depth_data_binds, depth_decs, depth_dec}
use Rattle.sml_tree.specs.Levels.{after}
use Rattle.sml_tree.specs.Grammar.{DataBinds, Declares, nothing_more, of_semicolon, of_dec, Declare, of_val, of_fun, of_type, of_datatype, of_withtype, of_replication, of_exception, of_local, of_open, of_infix, of_infixr, of_nonfix}
use Rattle.sml_grammar.specs.Answer.{Read, ok, Turn}
use Rattle.sml_grammar.specs.Terminals.{Taken, taken, first_as, as_tycon, as_long_tycon, after_word}
use Rattle.sml_grammar.specs.Bindings.{read_tyvars, read_type_binds, read_data_binds, read_ex_binds, read_strids, read_vids}
use Rattle.sml_grammar.specs.Expressions.{Reader, DecsReader, read_binds, read_funs, DecStart, dec_start, infix_directive, withtype_rest, replicated_if, replicated, datatype_form, local_rest, dec_by, is_dec_start, dec_turn, decs_from}
use Rattle.sml_grammar.proofs.Words.{WordAt, at_word, word-at}
use Rattle.sml_grammar.proofs.Answers.{chosen, got_some, not_some, then_ok, then_taken-ok, word_then-ok, on_some-split, on_taken-split, bad_ok, GoodTurn, many-ok}
use Rattle.sml_grammar.proofs.Terminals.{Front, front, tycon-is, long_tycon-is}
use Rattle.sml_grammar.proofs.BindTyvars.{place-is}
use Rattle.sml_grammar.proofs.BindNames.{precedence-sound}
use Rattle.sml_grammar.proofs.ExpLevels.{DecStartIs, is_val, is_fun, is_type, is_datatype, is_exception, is_local, is_open, is_infix_dec, is_infixr_dec, is_nonfix_dec, is_no_dec, dec-start-is}
use Rattle.sml_grammar.proofs.ExpBelow.{Within, Below}
use Rattle.sml_grammar.proofs.ExpTurns.{at-head, at-front, given}
use Rattle.sml_grammar.proofs.ExpSoundAtoms.{Sounds}
use Rattle.sml_grammar.proofs.ExpSoundBinds.{binds-sound, funs-sound}

-- `tycon = datatype`
pub data Replicated : List Terminal → Placed ℕ → List Terminal → Type 0 where
  replicated_at : {t : Terminal} {o : List Terminal} {x : Placed ℕ} (q r : ℕ) → IsTycon t x.place x.it → Replicated (t ∷ reserved q res.Equals ∷ reserved r res.Datatype ∷ o) x o

pub replicated-is : (i : List Terminal) (x : Placed ℕ) (o : List Terminal) → replicated i ≡ taken x o → Replicated i x o
replicated-is i x o h =
    elim (on_taken-split (first_as as_tycon i) (λ x' m. replicated_if x' (after_word res.Equals m)) None h) [
      | inl q ↦ go (tycon-is i q.0 q.1 q.2) (after_word res.Equals q.1) refl q.3
      | inr q ↦ not_some q.1
    ]
  where
    put : {i : List Terminal} {y : Placed ℕ} {m k o : List Terminal} → Front IsTycon i y m → WordAt res.Equals m k → WordAt res.Datatype k o → Replicated i y o
    put (front v) (at_word p) (at_word q) = replicated_at p q v

    go : {y : Placed ℕ} {m : List Terminal} → Front IsTycon i y m → (v : Option (List Terminal)) → after_word res.Equals m ≡ v → replicated_if y v ≡ taken x o → Replicated i x o
    go {m} a (Some k) e h =
        elim (on_some-split (after_word res.Datatype k) _ None h) [
          | inl u ↦ subst (λ (z : Taken (Placed ℕ)). Replicated i z.it z.rest) (got_some u.2) (put a (word-at res.Equals m k e) (word-at res.Datatype k u.0 u.1))
          | inr u ↦ not_some u.1
        ]
    go a None e h = not_some h

module _ (n : ℕ) (below : Below n) (self : Reader) (sound : Sounds n self)
    (inner : DecsReader) (sound_inner : (f : Fixity) (i : List Terminal) (y : Read Decs) → inner f i ≡ ok y → Within (Declares f) (λ ds. suc (depth_decs ds)) n i y.tree y.rest) where
  module _ (f : Fixity) where
    abbrev GoodDec : List Terminal → Dec → List Terminal → Type 0
    GoodDec i d o = Within (Declare f) depth_dec n i d o

    replication-sound : (p : ℕ) {i m : List Terminal} {x : Placed ℕ} {c : Placed LongId} {o : List Terminal} → Replicated i x m → Front IsLongTycon m c o →
        GoodDec (reserved p res.Datatype ∷ i) (replicate_dec p x c) o
    replication-sound p (replicated_at q r v) (front w) = record { reads = of_replication p q r v w; fits = omega arith }

    withtype-sound : (p : ℕ) (i : List Terminal) (bs : List DataBind) (m : List Terminal) (y : Read Dec) → Within (DataBinds f) depth_data_binds n i bs m → withtype_rest n p bs m ≡ ok y →
        GoodDec (reserved p res.Datatype ∷ i) y.tree y.rest
    withtype-sound p i bs m y d h =
        elim (on_some-split (after_word res.Withtype m) _ _ h) [
          | inl q ↦
              let a = at-head (word-at res.Withtype m q.0 q.1) (λ z. DataBinds f i bs z) d.reads in
              let u = then_ok (read_type_binds n q.0) _ y q.2 in
              let g = below.type_binds q.0 u.0 u.1 in
              given (GoodDec (reserved p res.Datatype ∷ i)) u.2 (record { reads = of_withtype p a.0 a.1 g.reads; fits = omega (arith, d.fits, g.fits) })
          | inr q ↦ given (GoodDec (reserved p res.Datatype ∷ i)) q.1 (record { reads = of_datatype p d.reads; fits = d.fits })
        ]

    datatype-sound : (p : ℕ) (i : List Terminal) (y : Read Dec) → datatype_form n f p i ≡ ok y → GoodDec (reserved p res.Datatype ∷ i) y.tree y.rest
    datatype-sound p i y h =
        elim (on_taken-split (replicated i) _ _ h) [
          | inl q ↦ let u = then_taken-ok (first_as as_long_tycon q.1) _ y q.3 in
              given (GoodDec (reserved p res.Datatype ∷ i)) u.3 (replication-sound p (replicated-is i q.0 q.1 q.2) (long_tycon-is q.1 u.0 u.1 u.2))
          | inr q ↦ let t = then_ok (read_data_binds n f i) (withtype_rest n p) y q.1 in withtype-sound p i t.0.tree t.0.rest y (below.data_binds f i t.0 t.1) t.2
        ]

    local-sound : (p : ℕ) (i : List Terminal) (ds : Decs) (m : List Terminal) (y : Read Dec) → Within (Declares f) (λ z. suc (depth_decs z)) n i ds m → local_rest inner f p ds m ≡ ok y →
        GoodDec (reserved p res.Local ∷ i) y.tree y.rest
    local-sound p i ds m y d h =
        let w = word_then-ok res.In _ m y h in
        let a = at-head w.1 (λ z. Declares f i ds z) d.reads in
        let u = then_ok (inner (after f ds) w.0) _ y w.2 in
        let g = sound_inner (after f ds) w.0 u.0 u.1 in
        let v = word_then-ok res.End _ u.0.rest y u.2 in
        let b = at-head v.1 (λ z. Declares (after f ds) w.0 u.0.tree z) g.reads in
        given (GoodDec (reserved p res.Local ∷ i)) v.2 (record { reads = of_local p a.0 b.0 a.1 b.1; fits = omega (arith, d.fits, g.fits) })

    pub dec-sound : {i : List Terminal} {s : DecStart} (y : Read Dec) → DecStartIs i s → dec_by n self inner f s ≡ ok y → Within (Declare f) depth_dec n i y.tree y.rest
    dec-sound y (is_val {o} p) h =
        let t = then_ok (read_tyvars o) _ y h in
        let u = then_ok (read_binds n self f t.0.rest) _ y t.2 in
        let g = binds-sound n below self sound f t.0.rest u.0 u.1 in
        given (GoodDec (reserved p res.Val ∷ o)) u.2 (record { reads = of_val p (below.tyvars o t.0 t.1) (place-is p (below.tyvars o t.0 t.1)) g.reads; fits = g.fits })
    dec-sound y (is_fun {o} p) h =
        let t = then_ok (read_tyvars o) _ y h in
        let u = then_ok (read_funs n self f t.0.rest) _ y t.2 in
        let g = funs-sound n below self sound f t.0.rest u.0 u.1 in
        given (GoodDec (reserved p res.Fun ∷ o)) u.2 (record { reads = of_fun p (below.tyvars o t.0 t.1) (place-is p (below.tyvars o t.0 t.1)) g.reads; fits = g.fits })
    dec-sound y (is_type {o} p) h =
        let t = then_ok (read_type_binds n o) _ y h in
        let g = below.type_binds o t.0 t.1 in
        given (GoodDec (reserved p res.TypeWord ∷ o)) t.2 (record { reads = of_type p g.reads; fits = g.fits })
    dec-sound y (is_datatype {o} p) h = datatype-sound p o y h
    dec-sound y (is_exception {o} p) h =
        let t = then_ok (read_ex_binds n f o) _ y h in
        let g = below.ex_binds f o t.0 t.1 in
        given (GoodDec (reserved p res.Exception ∷ o)) t.2 (record { reads = of_exception p g.reads; fits = g.fits })
    dec-sound y (is_local {o} p) h = let t = then_ok (inner f o) (local_rest inner f p) y h in local-sound p o t.0.tree t.0.rest y (sound_inner f o t.0 t.1) t.2
    dec-sound y (is_open {o} p) h =
        let t = then_ok (read_strids o) _ y h in
        given (GoodDec (reserved p res.Open ∷ o)) t.2 (record { reads = of_open p (below.strids o t.0 t.1); fits = omega arith })
    dec-sound y (is_infix_dec {o} p) h =
        let q = precedence-sound (infix_directive p false) o h in
        let t = then_ok (read_vids q.1) _ y q.3 in
        given (GoodDec (reserved p res.Infix ∷ o)) t.2 (record { reads = of_infix p q.2 (below.vids q.1 t.0 t.1); fits = omega arith })
    dec-sound y (is_infixr_dec {o} p) h =
        let q = precedence-sound (infix_directive p true) o h in
        let t = then_ok (read_vids q.1) _ y q.3 in
        given (GoodDec (reserved p res.Infixr ∷ o)) t.2 (record { reads = of_infixr p q.2 (below.vids q.1 t.0 t.1); fits = omega arith })
    dec-sound y (is_nonfix_dec {o} p) h =
        let t = then_ok (read_vids o) _ y h in
        given (GoodDec (reserved p res.Nonfix ∷ o)) t.2 (record { reads = of_nonfix p (below.vids o t.0 t.1); fits = omega arith })
    dec-sound y is_no_dec h = bad_ok h

  abbrev GoodDecs : Fixity → List Terminal → Decs → List Terminal → Type 0
  GoodDecs f i ds o = Within (Declares f) depth_decs n i ds o

  dec-turn : (f : Fixity) (i : List Terminal) (y : Read (Turn Decs Fixity)) → dec_turn n self inner f i ≡ ok y → GoodTurn GoodDecs f i y.tree y.rest
  dec-turn f i y h =
      elim (on_some-split (after_word res.Semicolon i) _ _ h) [
        | inl q ↦ given (GoodTurn GoodDecs f i) q.2
            (at-front (word-at res.Semicolon i q.0 q.1) (λ z. (ds : Decs) (o : List Terminal) → GoodDecs f q.0 ds o → GoodDecs f z ds o)
            (λ p ds o k. record { reads = of_semicolon p k.reads; fits = k.fits }))
        | inr q ↦ elim (chosen (is_dec_start (dec_start i)) _ _ q.1) [
          | inl p ↦
              let t = then_ok (dec_by n self inner f (dec_start i)) _ y p.1 in
              let d = dec-sound f t.0 (dec-start-is i) t.1 in
              given (GoodTurn GoodDecs f i) t.2 (λ ds o k. record { reads = of_dec d.reads k.reads; fits = omega (arith, d.fits, k.fits) })
          | inr p ↦ given (GoodTurn GoodDecs f i) p.1 (record { reads = nothing_more; fits = omega arith })
        ]
      ]

  pub decs_from-sound : (f : Fixity) (i : List Terminal) (y : Read Decs) → decs_from n self inner f i ≡ ok y → Within (Declares f) depth_decs n i y.tree y.rest
  decs_from-sound f i y h = many-ok (dec_turn n self inner) GoodDecs dec-turn (suc (length i)) f i y h
