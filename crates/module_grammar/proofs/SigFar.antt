-- Where signatures and specifications are too deep, a partial one is there.
use Rattle.std.proofs.Common.{◌≡◌, ℕ, zero, suc, ◌<◌, List, ◌∷◌, length, true, false, inl, inr, sym, subst, arith, nat_le}
use Rattle.std.proofs.lemmas.Bool.{leb-true, leb-false}
use Rattle.mlc_names.specs.declared.token.Reserved.TheVariants as res
use Rattle.sml_tree.specs.Terminal.{Terminal, reserved}
use Rattle.sml_tree.specs.ReadTree.{Placed}
use Rattle.sml_grammar.specs.Answer.{Read, ok, deep, Turn, whole}
use Rattle.sml_grammar.specs.Terminals.{first_as, as_tycon, as_long_tycon, after_word, NoState, no_state}
use Rattle.sml_grammar.specs.Bindings.{read_tyvars, read_type_binds}
use Rattle.sml_grammar.specs.Expressions.{replicated}
use Rattle.sml_grammar.proofs.Words.{WordAt, at_word, word-at}
use Rattle.sml_grammar.proofs.Answers.{chosen, then_ok, then_deep, then_taken-ok, then_taken-deep, word_then-ok, word_then-deep, on_some-split, on_taken-split, separated-deep, not_deep, bad_deep, deep_ok, not_true, if-deep, FarTurn, many-reach}
use Rattle.sml_grammar.proofs.BindTyvars.{tyvars-never-deep}
use Rattle.sml_grammar.proofs.ExpBelow.{Within}
use Rattle.sml_grammar.proofs.ExpGiven.{far_below}
use Rattle.sml_grammar.proofs.ExpTurns.{at-head, at-front, given}
use Rattle.module_tree.specs.ReadModules.{SigExp, Specs, Spec, StrDescs, desc_and, last_desc}
use Rattle.module_tree.specs.ModuleDepth.{depth_sig}
use Rattle.module_tree.specs.ModuleGrammar.{ReadsSig, of_where}
use Rattle.module_grammar.specs.Signatures.{as_module_id, val_desc_turn, type_desc_turn, read_con_descs, data_desc_turn, binds_type, type_form, datatype_form, tycon_turn, sharing_form, where_turn, SigReader, str_desc_turn, sig_id_turn, two_ids, include_form, SpecStart, spec_start, is_spec_start, spec_by, spec_turn, specs_from, SigStart, sig_start_of, begins_sig, sig_atom, where_suffix, read_sig}
use Rattle.module_grammar.specs.PartialSignatures.{BeginsSig, with_sig_word, with_sig_id, OpensSig, begun_sig, in_sig, extended, in_wheres, OpensSpecs, past_no_spec, in_spec, past_spec, OpensSpec, in_vals, in_abbreviations, in_data, in_exceptions, in_structures, in_include, OpensStrDescs, in_str_desc, past_str_desc}
use Rattle.module_grammar.proofs.SpecSound.{IdAt, id_at, id-is, wheres-sound}
use Rattle.module_grammar.proofs.SigSound.{SpecStartIs, is_val, is_type, is_eqtype, is_datatype, is_exception, is_structure, is_include, is_sharing, is_no_spec, spec-start-is, spec-sound, SigStartIs, is_sig, is_sig_id, is_no_sig, sig-start-is, GoodSig, atom-sound, sig-sound}
use Rattle.module_grammar.proofs.SpecFar.{sep-far, vals-far, types-never-deep, tycons-never-deep, ids-never-deep, exs-far, data-far, wheres-far}

in-desc : {i m k : List Terminal} {x : Placed ℕ} {d : ℕ} → IdAt i x m → WordAt res.Colon m k → OpensSig k d → OpensStrDescs i d
in-desc (id_at v) (at_word p) o = in_str_desc p v o

past-desc : {i m k n j : List Terminal} {x : Placed ℕ} {g : SigExp} {d : ℕ} → IdAt i x m → WordAt res.Colon m k → ReadsSig k g n → WordAt res.And n j
    → OpensStrDescs j d → OpensStrDescs i d
past-desc (id_at v) (at_word p) g (at_word q) o = past_str_desc p q v g o

binds-never-deep : {A : Type 0} (i : List Terminal) → binds_type i ≡ deep → A
binds-never-deep i h =
    elim (then_deep (read_tyvars i) _ h) [
      | inl e ↦ tyvars-never-deep i e
      | inr t ↦ let c = then_taken-deep (first_as as_tycon t.0.rest) _ t.2 in elim (on_some-split (after_word res.Equals c.1) _ _ c.3) [ inl q ↦ not_deep q.2 | inr q ↦ not_deep q.1 ]
    ]

-- an identifier before another begins a signature
two-begin : (i : List Terminal) → two_ids i ≡ true → BeginsSig i
two-begin i h =
    elim (on_taken-split (first_as as_module_id i) _ false h) [
      | inl q ↦ front-begins (id-is i q.0 q.1 q.2)
      | inr q ↦ absurd (cc)
    ]
  where
    front-begins : {i m : List Terminal} {x : Placed ℕ} → IdAt i x m → BeginsSig i
    front-begins (id_at v) = with_sig_id v

module _ (n : ℕ) (self : SigReader) (sound : (i : List Terminal) (y : Read SigExp) → self i ≡ ok y → Within ReadsSig depth_sig n i y.tree y.rest)
    (far : (i : List Terminal) → self i ≡ deep → OpensSig i (suc n)) where
  abbrev Descs : NoState → List Terminal → Type 0
  Descs s i = OpensStrDescs i (suc n)

  desc-ends : (s : NoState) (i : List Terminal) → str_desc_turn self s i ≡ deep → Descs s i
  desc-ends s i h =
      let t = then_taken-deep (first_as as_module_id i) _ h in
      let w = word_then-deep res.Colon _ t.1 t.3 in
      elim (then_deep (self w.0) _ w.2) [
        | inl e ↦ in-desc (id-is i t.0 t.1 t.2) w.1 (far w.0 e)
        | inr u ↦ separated-deep (after_word res.And u.0.rest) _ _ s u.0.rest u.2
      ]

  desc-goes : (s : NoState) (i : List Terminal) (y : Read (Turn StrDescs NoState)) → str_desc_turn self s i ≡ ok y → FarTurn Descs s i y.tree y.rest
  desc-goes s i y h =
      let t = then_taken-ok (first_as as_module_id i) _ y h in
      let w = word_then-ok res.Colon _ t.1 y t.3 in
      let u = then_ok (self w.0) _ y w.2 in
      let g = sound w.0 u.0 u.1 in
      sep-far Descs s s i u.0.rest res.And (desc_and t.0 u.0.tree) (last_desc t.0 u.0.tree) y u.2 (λ m a q. past-desc (id-is i t.0 t.1 t.2) w.1 g.reads a q)

  type-far : (p : ℕ) (i : List Terminal) → type_form n p i ≡ deep → OpensSpec (reserved p res.TypeWord ∷ i) (suc n)
  type-far p i h =
      elim (then_deep (binds_type i) _ h) [
        | inl e ↦ binds-never-deep i e
        | inr b ↦ elim (chosen b.0.tree _ _ b.2) [
          | inl q ↦ elim (then_deep (read_type_binds n i) _ q.1) [ inl e ↦ in_abbreviations p ((far_below n).type_binds i e) | inr u ↦ not_deep u.2 ]
          | inr q ↦ elim (then_deep (whole type_desc_turn no_state i) _ q.1) [ inl e ↦ types-never-deep (suc (length i)) i e | inr u ↦ not_deep u.2 ]
        ]
      ]

  datatype-far : (p : ℕ) (i : List Terminal) → datatype_form n p i ≡ deep → OpensSpec (reserved p res.Datatype ∷ i) (suc n)
  datatype-far p i h =
      elim (on_taken-split (replicated i) _ _ h) [
        | inl q ↦ let u = then_taken-deep (first_as as_long_tycon q.1) _ q.3 in not_deep u.3
        | inr q ↦ elim (then_deep (whole (data_desc_turn n) no_state i) _ q.1) [ inl e ↦ in_data p (data-far n (suc (length i)) i e) | inr u ↦ not_deep u.2 ]
      ]

  sharing-never-deep : {A : Type 0} (p : ℕ) (i : List Terminal) → sharing_form p i ≡ deep → A
  sharing-never-deep p i h =
      let w = word_then-deep res.TypeWord _ i h in
      let c = then_taken-deep (first_as as_long_tycon w.0) _ w.2 in
      let x = word_then-deep res.Equals _ c.1 c.3 in
      elim (then_deep (whole tycon_turn no_state x.0) _ x.2) [ inl e ↦ tycons-never-deep (suc (length x.0)) x.0 e | inr u ↦ not_deep u.2 ]

  include-far : (p : ℕ) (i : List Terminal) → include_form n self p i ≡ deep → OpensSpec (reserved p res.Include ∷ i) (suc n)
  include-far p i h =
      elim (chosen (two_ids i) _ _ h) [
        | inl q ↦ elim (chosen (nat_le 1 n) _ _ q.1) [
          | inl r ↦
              let t = then_taken-deep (first_as as_module_id i) _ r.1 in
              elim (then_deep (whole sig_id_turn no_state t.1) _ t.3) [ inl e ↦ ids-never-deep (suc (length t.1)) t.1 e | inr u ↦ not_deep u.2 ]
          | inr r ↦
              let z : n < 1 = leb-false 1 n r.0 in
              let e : n ≡ 0 = omega arith in
              subst (λ (m : ℕ). OpensSpec (reserved p res.Include ∷ i) (suc m)) (sym e) (in_include p (begun_sig (two-begin i q.0)))
        ]
        | inr q ↦ elim (then_deep (self i) _ q.1) [ inl e ↦ in_include p (far i e) | inr u ↦ not_deep u.2 ]
      ]

  spec-far : {i : List Terminal} {s : SpecStart} → SpecStartIs i s → spec_by n self s ≡ deep → OpensSpec i (suc n)
  spec-far (is_val {o} p) h = elim (then_deep (whole (val_desc_turn n) no_state o) _ h) [ inl e ↦ in_vals p (vals-far n (suc (length o)) o e) | inr u ↦ not_deep u.2 ]
  spec-far (is_type {o} p) h = type-far p o h
  spec-far (is_eqtype {o} p) h = elim (then_deep (whole type_desc_turn no_state o) _ h) [ inl e ↦ types-never-deep (suc (length o)) o e | inr u ↦ not_deep u.2 ]
  spec-far (is_datatype {o} p) h = datatype-far p o h
  spec-far (is_exception {o} p) h = elim (then_deep (read_con_descs n res.And o) _ h) [ inl e ↦ in_exceptions p (exs-far n o e) | inr u ↦ not_deep u.2 ]
  spec-far (is_structure {o} p) h =
      elim (then_deep (whole (str_desc_turn self) no_state o) _ h) [
        | inl e ↦ in_structures p (many-reach (str_desc_turn self) Descs desc-ends desc-goes (suc (length o)) no_state o e)
        | inr u ↦ not_deep u.2
      ]
  spec-far (is_include {o} p) h = include-far p o h
  spec-far (is_sharing {o} p) h = sharing-never-deep p o h
  spec-far is_no_spec h = bad_deep {A = Spec} h

  abbrev AnySpecs : NoState → List Terminal → Type 0
  AnySpecs s i = OpensSpecs i (suc n)

  specs-ends : (s : NoState) (i : List Terminal) → spec_turn n self s i ≡ deep → AnySpecs s i
  specs-ends s i h =
      elim (on_some-split (after_word res.Semicolon i) _ _ h) [
        | inl q ↦ not_deep q.2
        | inr q ↦ elim (chosen (is_spec_start (spec_start i)) _ _ q.1) [
          | inl p ↦ elim (then_deep (spec_by n self (spec_start i)) _ p.1) [ inl e ↦ in_spec (spec-far (spec-start-is i) e) | inr u ↦ not_deep u.2 ]
          | inr p ↦ not_deep p.1
        ]
      ]

  specs-goes : (s : NoState) (i : List Terminal) (y : Read (Turn Specs NoState)) → spec_turn n self s i ≡ ok y → FarTurn AnySpecs s i y.tree y.rest
  specs-goes s i y h =
      elim (on_some-split (after_word res.Semicolon i) _ _ h) [
        | inl q ↦ given (FarTurn AnySpecs s i) q.2
            (λ o. at-front (word-at res.Semicolon i q.0 q.1) (λ z. OpensSpecs z (suc n)) (λ p. past_no_spec p o))
        | inr q ↦ elim (chosen (is_spec_start (spec_start i)) _ _ q.1) [
          | inl p ↦
              let t = then_ok (spec_by n self (spec_start i)) _ y p.1 in
              let d = spec-sound n self sound t.0 (spec-start-is i) t.1 in
              given (FarTurn AnySpecs s i) t.2 (λ o. past_spec d.reads o)
          | inr p ↦ given (FarTurn AnySpecs s i) p.1 tt
        ]
      ]

  pub specs-far : (i : List Terminal) → specs_from n self i ≡ deep → OpensSpecs i (suc n)
  specs-far i h = many-reach (spec_turn n self) AnySpecs specs-ends specs-goes (suc (length i)) no_state i h

-- a signature too deep is a partial one
module _ (n : ℕ) where
  atom-far : (self : SigReader) → ((i : List Terminal) (y : Read SigExp) → self i ≡ ok y → GoodSig n i y.tree y.rest)
      → ((i : List Terminal) → self i ≡ deep → OpensSig i (suc n)) → {i : List Terminal} {s : SigStart} → SigStartIs i s → sig_atom n self s ≡ deep
      → OpensSig i (suc (suc n))
  atom-far self sound far (is_sig {o} p) h =
      elim (then_deep (specs_from n self o) _ h) [
        | inl e ↦ in_sig p (specs-far n self sound far o e)
        | inr t ↦ let w = word_then-deep res.End _ t.0.rest t.2 in not_deep w.2
      ]
  atom-far self sound far (is_sig_id v) h = not_deep h
  atom-far self sound far is_no_sig h = bad_deep {A = SigExp} h

  -- a signature that the terminals j begin with, and the loop after it
  abbrev Beyond : SigExp → List Terminal → Type 0
  Beyond g m = (j : List Terminal) → GoodSig (suc n) j g m → OpensSig j (suc (suc n))

  suffix-ends : (g : SigExp) (i : List Terminal) → where_suffix n g i ≡ deep → Beyond g i
  suffix-ends g i h j e =
      elim (on_some-split (after_word res.Where i) _ _ h) [
        | inl q ↦
            let a = at-head (word-at res.Where i q.0 q.1) (λ z. ReadsSig j g z) e.reads in
            elim (chosen (nat_le (depth_sig g) n) _ _ q.2) [
              | inl r ↦ elim (then_deep (whole (where_turn n) no_state q.0) _ r.1) [ inl x ↦ in_wheres a.0 a.1 (wheres-far n (suc (length q.0)) q.0 x) | inr u ↦ not_deep u.2 ]
              | inr r ↦ let z : n < depth_sig g = leb-false (depth_sig g) n r.0 in extended a.0 a.1 z
            ]
        | inr q ↦ not_deep q.1
      ]

  suffix-goes : (g : SigExp) (i : List Terminal) (y : Read (Turn SigExp SigExp)) → where_suffix n g i ≡ ok y → FarTurn Beyond g i y.tree y.rest
  suffix-goes g i y h =
      elim (on_some-split (after_word res.Where i) _ _ h) [
        | inl q ↦ elim (chosen (nat_le (depth_sig g) n) _ _ q.2) [
          | inl r ↦
              let t = then_ok (whole (where_turn n) no_state q.0) _ y r.1 in
              let d = wheres-sound n (suc (length q.0)) q.0 t.0 t.1 in
              given (FarTurn Beyond g i) t.2 (λ k j e.
              let a = at-head (word-at res.Where i q.0 q.1) (λ z. ReadsSig j g z) e.reads in
              k j (record { reads = of_where a.0 a.1 d.reads; fits = omega (arith, d.fits, leb-true (depth_sig g) n r.0) }))
          | inr r ↦ deep_ok r.1
        ]
        | inr q ↦ given (FarTurn Beyond g i) q.1 tt
      ]

sig-begins : {i : List Terminal} {s : SigStart} → SigStartIs i s → begins_sig s ≡ true → BeginsSig i
sig-begins (is_sig p) h = with_sig_word p
sig-begins (is_sig_id (id_at v)) h = with_sig_id v
sig-begins is_no_sig h = not_true h

pub sig-far : (n : ℕ) (i : List Terminal) → read_sig n i ≡ deep → OpensSig i (suc n)
unfolding read_sig
sig-far zero i h = begun_sig (sig-begins (sig-start-is i) (if-deep {A = SigExp} (begins_sig (sig_start_of i)) h))
sig-far (suc n) i h =
    elim (then_deep (sig_atom n (read_sig n) (sig_start_of i)) _ h) [
      | inl e ↦ atom-far n (read_sig n) (λ j x k. sig-sound n j x k) (λ j k. sig-far n j k) (sig-start-is i) e
      | inr t ↦
          let g = atom-sound n (read_sig n) (λ j x k. sig-sound n j x k) t.0 (sig-start-is i) t.1 in
          many-reach (where_suffix n) (Beyond n) (suffix-ends n) (suffix-goes n) (suc (length t.0.rest)) t.0.tree t.0.rest t.2 i g
    ]
