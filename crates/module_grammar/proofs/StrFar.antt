-- Where structures and their declarations are too deep, a partial one is there.
use Rattle.std.proofs.Common.{◌≡◌, ℕ, zero, suc, ◌≤◌, ◌<◌, List, ◌∷◌, length, true, false, inl, inr, refl, arith, nat_le}
use Rattle.std.proofs.lemmas.Bool.{leb-true, leb-false}
use Rattle.mlc_names.specs.declared.token.Reserved.TheVariants as res
use Rattle.sml_tree.specs.Terminal.{Terminal, reserved, alpha, short_strid}
use Rattle.sml_tree.specs.Fixity.{Fixity}
use Rattle.sml_tree.specs.ReadTree.{Placed, DataBind, Dec}
use Rattle.sml_tree.specs.Grammar.{DataBinds}
use Rattle.sml_grammar.specs.Answer.{Read, ok, bad, deep, read, then_read, Turn, deep_if}
use Rattle.sml_grammar.specs.Terminals.{first_as, as_long_tycon, after_word, NoState, no_state}
use Rattle.sml_grammar.specs.Bindings.{read_tyvars, read_type_binds, read_data_binds, read_ex_binds, read_strids, read_vids}
use Rattle.sml_grammar.specs.Expressions.{readers, read_binds, read_funs, DecStart, infix_directive, withtype_rest, replicated, datatype_form, dec_by}
use Rattle.sml_grammar.specs.Partial.{OpensDec, in_val, in_fun, in_type, in_datatype, in_withtype, in_exception}
use Rattle.sml_grammar.proofs.Words.{WordAt, at_word, word-at}
use Rattle.sml_grammar.proofs.Answers.{chosen, then_ok, then_deep, then_taken-ok, then_taken-deep, word_then-ok, word_then-deep, on_some-split, on_taken-split, separated-deep, not_deep, not_true, bad_deep, deep_ok, deep_if-ok, if-deep, FarTurn, many-reach}
use Rattle.sml_grammar.proofs.Terminals.{front}
use Rattle.sml_grammar.proofs.BindTyvars.{tyvars-here}
use Rattle.sml_grammar.proofs.BindNames.{precedence-sound}
use Rattle.sml_grammar.proofs.ExpLevels.{DecStartIs, is_val, is_fun, is_type, is_datatype, is_exception, is_local, is_open, is_infix_dec, is_infixr_dec, is_nonfix_dec, is_no_dec, dec-start-is}
use Rattle.sml_grammar.proofs.ExpBelow.{Within}
use Rattle.sml_grammar.proofs.ExpGiven.{below, far_below}
use Rattle.sml_grammar.proofs.ExpReaders.{exp-sound}
use Rattle.sml_grammar.proofs.ExpFar.{readers-far}
use Rattle.sml_grammar.proofs.ExpFarBinds.{binds-far, funs-far}
use Rattle.sml_grammar.proofs.ExpTurns.{at-head, at-front, given}
use Rattle.module_tree.specs.ReadModules.{Seal, MaybeSig, StrExp, StrDecs, StrDec, structure_dec, core_dec, StrBinds, str_and, last_str, StrBind, str_bind}
use Rattle.module_tree.specs.Scope.{after_decs}
use Rattle.module_tree.specs.ModuleDepth.{depth_str, depth_str_decs}
use Rattle.module_tree.specs.ModuleGrammar.{module_id, ReadsMaybeSig, ReadsStr, ReadsStrDecs, ReadsStrBind}
use Rattle.module_grammar.specs.Signatures.{as_module_id, read_sig}
use Rattle.module_grammar.specs.Structures.{sealing, maybe_sig, StrReader, StrDecsReader, StrReaders, StrStart, str_start, begins_str, let_rest, argument, str_atom, seal_suffix, str_from, str_bind_turn, read_str_binds, local_rest, core_dec_by, str_dec_by, begins_str_dec, str_dec_turn, str_decs_from, str_readers}
use Rattle.module_grammar.specs.PartialSignatures.{OpensSig}
use Rattle.module_grammar.specs.PartialModules.{BeginsStr, with_struct, with_let, with_str_id, begins_local, OpensStr, begun_str, in_struct, signed, in_signature, in_argument, in_argument_decs, in_let, in_let_body, OpensStrDecs, past_no_dec, in_str_dec, past_str_dec, OpensStrDec, in_core_dec, begun_local_str, in_local_str, in_local_str_body, in_structure, OpensStrBinds, in_str_sig, in_str_body, past_str_bind}
use Rattle.module_grammar.proofs.SpecSound.{IdAt, id_at, id-is}
use Rattle.module_grammar.proofs.SigSound.{sig-sound}
use Rattle.module_grammar.proofs.SigFar.{sig-far}
use Rattle.module_grammar.proofs.SpecFar.{sep-far}
use Rattle.module_grammar.proofs.StrSound.{SealAt, at_seal, sealing-is, constrain, maybe-sig-sound, StrStartIs, is_struct, is_let, is_functor, is_str_id, is_no_str, str-start-is, SoundsStr, SoundsStrDecs, atom-sound, bind-one, str-dec-sound, str-readers-sound, str-from-sound}

abbrev pub FarsStr : ℕ → StrReader → Type 0
FarsStr n str = (f : Fixity) (i : List Terminal) → str f i ≡ deep → OpensStr f i (suc n)

abbrev pub FarsStrDecs : ℕ → StrDecsReader → Type 0
FarsStrDecs n decs = (f : Fixity) (i : List Terminal) → decs f i ≡ deep → OpensStrDecs f i (suc n)

str-begins : {i : List Terminal} {s : StrStart} → StrStartIs i s → begins_str s ≡ true → BeginsStr i
str-begins (is_struct p) h = with_struct p
str-begins (is_let p) h = with_let p
str-begins (is_functor p x q) h = with_str_id (short_strid p x)
str-begins (is_str_id (front v)) h = with_str_id v
str-begins is_no_str h = not_true h

-- a signature that is too deep after a sign
sealed-far : {f : Fixity} {j i m : List Terminal} {s : StrExp} {k : Seal} {d : ℕ} → SealAt i k m → ReadsStr f j s i → OpensSig m d → OpensStr f j (suc d)
sealed-far (at_seal v) s o = in_signature s v o

signed-far : {f : Fixity} {j i m : List Terminal} {s : StrExp} {k : Seal} {d : ℕ} → SealAt i k m → ReadsStr f j s i → d ≤ depth_str s → OpensStr f j (suc d)
signed-far (at_seal v) s le = signed s v le

pub maybe-sig-far : (n : ℕ) (i : List Terminal) → maybe_sig n i ≡ deep → (k : Seal) × (m : List Terminal) × SealAt i k m × OpensSig m (suc n)
maybe-sig-far n i h =
    elim (on_some-split (sealing i) _ _ h) [
      | inl q ↦ elim (then_deep (read_sig n q.0.rest) _ q.2) [
        | inl e ↦ (q.0.seal, q.0.rest, sealing-is i q.0 q.1, sig-far n q.0.rest e)
        | inr u ↦ not_deep u.2
      ]
      | inr q ↦ not_deep q.1
    ]

module _ (n : ℕ) (self : StrReaders) (sound : SoundsStr n self.str) (sound_decs : SoundsStrDecs n self.decs) (far : FarsStr n self.str)
    (far_decs : FarsStrDecs n self.decs) (f : Fixity) where
  argument-far : (p x q : ℕ) (i : List Terminal) → argument self f (record { place = p; it = x }) i ≡ deep
      → OpensStr f (alpha p x ∷ reserved q res.LeftParen ∷ i) (suc (suc n))
  argument-far p x q i h =
      elim (chosen (begins_str (str_start i)) _ _ h) [
        | inl b ↦ elim (then_deep (self.str f i) _ b.1) [
          | inl e ↦ in_argument q (module_id p x) (far f i e)
          | inr t ↦ let w = word_then-deep res.RightParen _ t.0.rest t.2 in not_deep w.2
        ]
        | inr b ↦ elim (then_deep (self.decs f i) _ b.1) [
          | inl e ↦ in_argument_decs q (module_id p x) (far_decs f i e)
          | inr t ↦ let w = word_then-deep res.RightParen _ t.0.rest t.2 in not_deep w.2
        ]
      ]

  let-far : (p : ℕ) (i : List Terminal) (ds : StrDecs) (m : List Terminal) → ReadsStrDecs f i ds m → (k : List Terminal) → WordAt res.In m k
      → let_rest self f p ds k ≡ deep → OpensStr f (reserved p res.Let ∷ i) (suc (suc n))
  let-far p i ds m d k w h =
      elim (then_deep (self.str (after_decs f ds) k) _ h) [
        | inl e ↦ let a = at-head w (λ z. ReadsStrDecs f i ds z) d in in_let_body p a.0 a.1 (far (after_decs f ds) k e)
        | inr t ↦ let v = word_then-deep res.End _ t.0.rest t.2 in not_deep v.2
      ]

  atom-far : {i : List Terminal} {s : StrStart} → StrStartIs i s → str_atom self f s ≡ deep → OpensStr f i (suc (suc n))
  atom-far (is_struct {o} p) h =
      elim (then_deep (self.decs f o) _ h) [
        | inl e ↦ in_struct p (far_decs f o e)
        | inr t ↦ let w = word_then-deep res.End _ t.0.rest t.2 in not_deep w.2
      ]
  atom-far (is_let {o} p) h =
      elim (then_deep (self.decs f o) _ h) [
        | inl e ↦ in_let p (far_decs f o e)
        | inr t ↦ let w = word_then-deep res.In _ t.0.rest t.2 in let-far p o t.0.tree t.0.rest (sound_decs f o t.0 t.1).reads w.0 w.1 w.2
      ]
  atom-far (is_functor {o} p x q) h = argument-far p x q o h
  atom-far (is_str_id v) h = not_deep h
  atom-far is_no_str h = bad_deep {A = StrExp} h

  -- a structure that the terminals j begin with, and the loop after it
  abbrev Beyond : StrExp → List Terminal → Type 0
  Beyond s m = (j : List Terminal) → Within (ReadsStr f) depth_str (suc n) j s m → OpensStr f j (suc (suc n))

  suffix-ends : (s : StrExp) (i : List Terminal) → seal_suffix n s i ≡ deep → Beyond s i
  suffix-ends s i h j e =
      elim (on_some-split (sealing i) _ _ h) [
        | inl q ↦ elim (chosen (nat_le (depth_str s) n) _ _ q.2) [
          | inl r ↦ elim (then_deep (read_sig n q.0.rest) _ r.1) [ inl x ↦ sealed-far (sealing-is i q.0 q.1) e.reads (sig-far n q.0.rest x) | inr u ↦ not_deep u.2 ]
          | inr r ↦ let z : n < depth_str s = leb-false (depth_str s) n r.0 in signed-far (sealing-is i q.0 q.1) e.reads z
        ]
        | inr q ↦ not_deep q.1
      ]

  suffix-goes : (s : StrExp) (i : List Terminal) (y : Read (Turn StrExp StrExp)) → seal_suffix n s i ≡ ok y → FarTurn Beyond s i y.tree y.rest
  suffix-goes s i y h =
      elim (on_some-split (sealing i) _ _ h) [
        | inl q ↦ elim (chosen (nat_le (depth_str s) n) _ _ q.2) [
          | inl r ↦
              let t = then_ok (read_sig n q.0.rest) _ y r.1 in
              let g = sig-sound n q.0.rest t.0 t.1 in
              given (FarTurn Beyond s i) t.2 (λ k j e.
              k j (record { reads = constrain e.reads (sealing-is i q.0 q.1) g.reads; fits = omega (arith, g.fits, leb-true (depth_str s) n r.0) }))
          | inr r ↦ deep_ok r.1
        ]
        | inr q ↦ given (FarTurn Beyond s i) q.1 tt
      ]

  pub str-from-far : (i : List Terminal) → str_from self n f i ≡ deep → OpensStr f i (suc (suc n))
  str-from-far i h =
      elim (then_deep (str_atom self f (str_start i)) _ h) [
        | inl e ↦ atom-far (str-start-is i) e
        | inr t ↦
            let g = atom-sound n self sound sound_decs f t.0 (str-start-is i) t.1 in
            many-reach (seal_suffix n) Beyond suffix-ends suffix-goes (suc (length t.0.rest)) t.0.tree t.0.rest t.2 i g
      ]

-- Declarations of the core.
module _ (n : ℕ) (f : Fixity) where
  withtype-far : (p : ℕ) (i : List Terminal) (bs : List DataBind) (m : List Terminal) → DataBinds f i bs m → withtype_rest n p bs m ≡ deep
      → OpensDec f (reserved p res.Datatype ∷ i) (suc n)
  withtype-far p i bs m d h =
      elim (on_some-split (after_word res.Withtype m) _ _ h) [
        | inl q ↦ elim (then_deep (read_type_binds n q.0) _ q.2) [
          | inl x ↦ let a = at-head (word-at res.Withtype m q.0 q.1) (λ z. DataBinds f i bs z) d in in_withtype p a.0 a.1 ((far_below n).type_binds q.0 x)
          | inr u ↦ not_deep u.2
        ]
        | inr q ↦ not_deep q.1
      ]

  datatype-far : (p : ℕ) (i : List Terminal) → datatype_form n f p i ≡ deep → OpensDec f (reserved p res.Datatype ∷ i) (suc n)
  datatype-far p i h =
      elim (on_taken-split (replicated i) _ _ h) [
        | inl q ↦ let u = then_taken-deep (first_as as_long_tycon q.1) _ q.3 in not_deep u.3
        | inr q ↦ elim (then_deep (read_data_binds n f i) (withtype_rest n p) q.1) [
          | inl x ↦ in_datatype p ((far_below n).data_binds f i x)
          | inr t ↦ withtype-far p i t.0.tree t.0.rest ((below n).data_binds f i t.0 t.1).reads t.2
        ]
      ]

  core-far : {i : List Terminal} {s : DecStart} → DecStartIs i s → dec_by n (readers n).exp (λ g m. bad) f s ≡ deep → OpensDec f i (suc n)
  core-far (is_val {o} p) h =
      elim (then_deep (read_tyvars o) _ h) [
        | inl x ↦ absurd ((far_below n).tyvars o x)
        | inr t ↦ elim (then_deep (read_binds n (readers n).exp f t.0.rest) _ t.2) [
          | inl x ↦ in_val p (tyvars-here t.1) (binds-far n (below n) (far_below n) (readers n).exp (exp-sound n) (readers-far below far_below n).exp f t.0.rest x)
          | inr u ↦ not_deep u.2
        ]
      ]
  core-far (is_fun {o} p) h =
      elim (then_deep (read_tyvars o) _ h) [
        | inl x ↦ absurd ((far_below n).tyvars o x)
        | inr t ↦ elim (then_deep (read_funs n (readers n).exp f t.0.rest) _ t.2) [
          | inl x ↦ in_fun p (tyvars-here t.1) (funs-far n (below n) (far_below n) (readers n).exp (exp-sound n) (readers-far below far_below n).exp f t.0.rest x)
          | inr u ↦ not_deep u.2
        ]
      ]
  core-far (is_type {o} p) h = elim (then_deep (read_type_binds n o) _ h) [ inl x ↦ in_type p ((far_below n).type_binds o x) | inr u ↦ not_deep u.2 ]
  core-far (is_datatype {o} p) h = datatype-far p o h
  core-far (is_exception {o} p) h = elim (then_deep (read_ex_binds n f o) _ h) [ inl x ↦ in_exception p ((far_below n).ex_binds f o x) | inr u ↦ not_deep u.2 ]
  core-far (is_local {o} p) h = bad_deep {A = Dec} h
  core-far (is_open {o} p) h = elim (then_deep (read_strids o) _ h) [ inl x ↦ absurd ((far_below n).strids o x) | inr u ↦ not_deep u.2 ]
  core-far (is_infix_dec {o} p) h =
      let q = precedence-sound (infix_directive p false) o h in
      elim (then_deep (read_vids q.1) _ q.3) [ inl x ↦ absurd ((far_below n).vids q.1 x) | inr u ↦ not_deep u.2 ]
  core-far (is_infixr_dec {o} p) h =
      let q = precedence-sound (infix_directive p true) o h in
      elim (then_deep (read_vids q.1) _ q.3) [ inl x ↦ absurd ((far_below n).vids q.1 x) | inr u ↦ not_deep u.2 ]
  core-far (is_nonfix_dec {o} p) h = elim (then_deep (read_vids o) _ h) [ inl x ↦ absurd ((far_below n).vids o x) | inr u ↦ not_deep u.2 ]
  core-far is_no_dec h = bad_deep {A = Dec} h

  -- where a declaration of the core isn't `local`, its start isn't either
  plain-far : {i : List Terminal} {s : DecStart} → DecStartIs i s → begins_local i ≡ false
      → then_read (dec_by n (readers n).exp (λ g m. bad) f s) (λ d o. read (core_dec d) o) ≡ deep → OpensStrDec f i (suc n)
  plain-far {s} is e h =
      elim (then_deep (dec_by n (readers n).exp (λ g m. bad) f s) _ h) [ inl x ↦ in_core_dec e (core-far is x) | inr u ↦ not_deep u.2 ]

-- where the declarations in a `local` are too deep, so is it
pub record FarInner (n : ℕ) (inner : StrDecsReader) : Type 0 where
  pub first : (f : Fixity) (p : ℕ) (i : List Terminal) → inner f i ≡ deep → OpensStrDec f (reserved p res.Local ∷ i) (suc n)
  pub second : (f : Fixity) (p q : ℕ) (i : List Terminal) (ds : StrDecs) (m : List Terminal) → ReadsStrDecs f i ds (reserved q res.In ∷ m)
      → inner (after_decs f ds) m ≡ deep → OpensStrDec f (reserved p res.Local ∷ i) (suc n)

in-sig : {f : Fixity} {i m k : List Terminal} {x : Placed ℕ} {s : Seal} {d : ℕ} → IdAt i x m → SealAt m s k → OpensSig k d → OpensStrBinds f i d
in-sig (id_at v) (at_seal u) o = in_str_sig v u o

in-body : {f : Fixity} {i m k : List Terminal} {x : Placed ℕ} {g : MaybeSig} {d : ℕ} (p : ℕ) → IdAt i x m → ReadsMaybeSig m g (reserved p res.Equals ∷ k)
    → OpensStr f k d → OpensStrBinds f i d
in-body p (id_at v) g o = in_str_body p v g o

past-bind : {f : Fixity} {i n j : List Terminal} {b : StrBind} {d : ℕ} → ReadsStrBind f i b n → WordAt res.And n j → OpensStrBinds f j d → OpensStrBinds f i d
past-bind b (at_word p) o = past_str_bind p b o

module _ (n : ℕ) (self : StrReader) (sound : SoundsStr n self) (far : FarsStr n self) where
  module _ (f : Fixity) where
    abbrev Binds : NoState → List Terminal → Type 0
    Binds s i = OpensStrBinds f i (suc n)

    binds-ends : (s : NoState) (i : List Terminal) → str_bind_turn n self f s i ≡ deep → Binds s i
    binds-ends s i h =
        let t = then_taken-deep (first_as as_module_id i) _ h in
        let v = id-is i t.0 t.1 t.2 in
        elim (then_deep (maybe_sig n t.1) _ t.3) [
          | inl e ↦ let x = maybe-sig-far n t.1 e in in-sig v x.2 x.3
          | inr m ↦
              let g = maybe-sig-sound n t.1 m.0 m.1 in
              let w = word_then-deep res.Equals _ m.0.rest m.2 in
              let a = at-head w.1 (λ z. ReadsMaybeSig t.1 m.0.tree z) g.reads in
              elim (then_deep (self f w.0) _ w.2) [
                | inl e ↦ in-body a.0 v a.1 (far f w.0 e)
                | inr u ↦ separated-deep (after_word res.And u.0.rest) _ _ s u.0.rest u.2
              ]
        ]

    binds-goes : (s : NoState) (i : List Terminal) (y : Read (Turn StrBinds NoState)) → str_bind_turn n self f s i ≡ ok y → FarTurn Binds s i y.tree y.rest
    binds-goes s i y h =
        let t = then_taken-ok (first_as as_module_id i) _ y h in
        let v = id-is i t.0 t.1 t.2 in
        let m = then_ok (maybe_sig n t.1) _ y t.3 in
        let g = maybe-sig-sound n t.1 m.0 m.1 in
        let w = word_then-ok res.Equals _ m.0.rest y m.2 in
        let a = at-head w.1 (λ z. ReadsMaybeSig t.1 m.0.tree z) g.reads in
        let u = then_ok (self f w.0) _ y w.2 in
        let e = sound f w.0 u.0 u.1 in
        sep-far Binds s s i u.0.rest res.And (str_and (str_bind t.0 m.0.tree u.0.tree)) (last_str (str_bind t.0 m.0.tree u.0.tree)) y u.2
        (λ k x q. past-bind (bind-one a.0 v a.1 e.reads) x q)

    str-binds-far : (i : List Terminal) → read_str_binds n self f i ≡ deep → OpensStrBinds f i (suc n)
    str-binds-far i h = many-reach (str_bind_turn n self f) Binds binds-ends binds-goes (suc (length i)) no_state i h

  module _ (inner : StrDecsReader)
      (sound_inner : (f : Fixity) (i : List Terminal) (y : Read StrDecs) → inner f i ≡ ok y → Within (ReadsStrDecs f) (λ ds. suc (depth_str_decs ds)) n i y.tree y.rest)
      (far_inner : FarInner n inner) where
    module _ (f : Fixity) where
      local-far : (p : ℕ) (i : List Terminal) (ds : StrDecs) (m : List Terminal) → ReadsStrDecs f i ds m → local_rest inner f p ds m ≡ deep
          → OpensStrDec f (reserved p res.Local ∷ i) (suc n)
      local-far p i ds m d h =
          let w = word_then-deep res.In _ m h in
          elim (then_deep (inner (after_decs f ds) w.0) _ w.2) [
            | inl x ↦ let a = at-head w.1 (λ z. ReadsStrDecs f i ds z) d in far_inner.second f p a.0 i ds w.0 a.1 x
            | inr u ↦ let v = word_then-deep res.End _ u.0.rest u.2 in not_deep v.2
          ]

      core-dec-far : {i : List Terminal} {s : DecStart} → DecStartIs i s → core_dec_by n inner f s ≡ deep → OpensStrDec f i (suc n)
      core-dec-far (is_val p) h = plain-far n f (is_val p) refl h
      core-dec-far (is_fun p) h = plain-far n f (is_fun p) refl h
      core-dec-far (is_type p) h = plain-far n f (is_type p) refl h
      core-dec-far (is_datatype p) h = plain-far n f (is_datatype p) refl h
      core-dec-far (is_exception p) h = plain-far n f (is_exception p) refl h
      core-dec-far (is_local {o} p) h =
          elim (then_deep (inner f o) (local_rest inner f p) h) [
            | inl x ↦ far_inner.first f p o x
            | inr t ↦ local-far p o t.0.tree t.0.rest (sound_inner f o t.0 t.1).reads t.2
          ]
      core-dec-far (is_open p) h = plain-far n f (is_open p) refl h
      core-dec-far (is_infix_dec p) h = plain-far n f (is_infix_dec p) refl h
      core-dec-far (is_infixr_dec p) h = plain-far n f (is_infixr_dec p) refl h
      core-dec-far (is_nonfix_dec p) h = plain-far n f (is_nonfix_dec p) refl h
      core-dec-far is_no_dec h = bad_deep {A = StrDec} h

      structure-far : (p : ℕ) (i : List Terminal) → then_read (read_str_binds n self f i) (λ bs o. read (structure_dec p bs) o) ≡ deep
          → OpensStrDec f (reserved p res.Structure ∷ i) (suc n)
      structure-far p i h = elim (then_deep (read_str_binds n self f i) _ h) [ inl x ↦ in_structure p (str-binds-far f i x) | inr u ↦ not_deep u.2 ]

      pub str-dec-far : (i : List Terminal) → str_dec_by n self inner f i ≡ deep → OpensStrDec f i (suc n)
      str-dec-far (reserved p res.Structure ∷ i) h = structure-far p i h
      str-dec-far i h = core-dec-far (dec-start-is i) h

    abbrev Decs : Fixity → List Terminal → Type 0
    Decs f i = OpensStrDecs f i (suc n)

    decs-ends : (f : Fixity) (i : List Terminal) → str_dec_turn n self inner f i ≡ deep → Decs f i
    decs-ends f i h =
        elim (on_some-split (after_word res.Semicolon i) _ _ h) [
          | inl q ↦ not_deep q.2
          | inr q ↦ elim (chosen (begins_str_dec i) _ _ q.1) [
            | inl p ↦ elim (then_deep (str_dec_by n self inner f i) _ p.1) [ inl x ↦ in_str_dec (str-dec-far f i x) | inr u ↦ not_deep u.2 ]
            | inr p ↦ not_deep p.1
          ]
        ]

    decs-goes : (f : Fixity) (i : List Terminal) (y : Read (Turn StrDecs Fixity)) → str_dec_turn n self inner f i ≡ ok y → FarTurn Decs f i y.tree y.rest
    decs-goes f i y h =
        elim (on_some-split (after_word res.Semicolon i) _ _ h) [
          | inl q ↦ given (FarTurn Decs f i) q.2
              (λ o. at-front (word-at res.Semicolon i q.0 q.1) (λ z. OpensStrDecs f z (suc n)) (λ p. past_no_dec p o))
          | inr q ↦ elim (chosen (begins_str_dec i) _ _ q.1) [
            | inl p ↦
                let t = then_ok (str_dec_by n self inner f i) _ y p.1 in
                let d = str-dec-sound n self sound inner sound_inner f i t.0 t.1 in
                given (FarTurn Decs f i) t.2 (λ o. past_str_dec d.reads o)
            | inr p ↦ given (FarTurn Decs f i) p.1 tt
          ]
        ]

    pub str-decs-far : (f : Fixity) (i : List Terminal) → str_decs_from n self inner f i ≡ deep → OpensStrDecs f i (suc n)
    str-decs-far f i h = many-reach (str_dec_turn n self inner) Decs decs-ends decs-goes (suc (length i)) f i h

pub record FarReaders (n : ℕ) : Type 0 where
  pub str : FarsStr n (str_readers n).str
  pub decs : FarsStrDecs n (str_readers n).decs

pub readers-far-str : (n : ℕ) → FarReaders n
unfolding str_readers
readers-far-str zero = record {
  str = λ f i h. begun_str (str-begins (str-start-is i) (if-deep {A = StrExp} (begins_str (str_start i)) h));
  decs = λ f i h. str-decs-far 0 (λ g m. deep_if (begins_str (str_start m))) (λ g m x e. deep_if-ok (begins_str (str_start m)) x e)
      (λ g m e. begun_str (str-begins (str-start-is m) (if-deep {A = StrExp} (begins_str (str_start m)) e)))
      (λ g m. deep) (λ g m x e. deep_ok e) (record { first = λ g p m e. begun_local_str p; second = λ g p q m ds k d e. begun_local_str p }) f i h;
}
readers-far-str (suc n) =
    let s = str-readers-sound n in
    let r = readers-far-str n in
    record {
      str = λ f i h. str-from-far n (str_readers n) s.str s.decs r.str r.decs f i h;
      decs = λ f i h. str-decs-far (suc n) (λ g m. str_from (str_readers n) n g m) (λ g m x e. str-from-sound n (str_readers n) s.str s.decs g m x e)
          (λ g m e. str-from-far n (str_readers n) s.str s.decs r.str r.decs g m e)
          (str_readers n).decs (λ g m x e. let d = s.decs g m x e in record { reads = d.reads; fits = omega (arith, d.fits) })
          (record { first = λ g p m e. in_local_str p (r.decs g m e); second = λ g p q m ds k d e. in_local_str_body p q d (r.decs (after_decs g ds) k e) }) f i h;
    }
