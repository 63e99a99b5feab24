-- Structures and their declarations that are too deep are told to be.
use Rattle.std.proofs.Common.{◌≡◌, ℕ, zero, suc, ◌≤◌, ◌<◌, List, ◌∷◌, length, Some, None, true, false, inl, inr, refl, ◌∙◌, arith, nat_le}
use Rattle.std.proofs.lemmas.Bool.{le-leb, lt-leb}
use Rattle.mlc_names.specs.declared.token.Reserved.TheVariants as res
use Rattle.sml_tree.specs.Terminal.{Terminal, reserved, alpha}
use Rattle.sml_tree.specs.Fixity.{Fixity}
use Rattle.sml_tree.specs.Depth.{depth_data_binds}
use Rattle.sml_grammar.specs.Answer.{deep, deep_if, read, many}
use Rattle.sml_grammar.specs.Terminals.{no_state}
use Rattle.sml_grammar.specs.Bindings.{read_type_binds, read_data_binds, read_ex_binds}
use Rattle.sml_grammar.specs.Expressions.{readers, read_binds, read_funs}
use Rattle.sml_grammar.specs.Partial.{OpensDec, in_val, in_fun, in_type, in_datatype, in_withtype, in_exception, begun_local, in_local, in_local_body}
use Rattle.sml_grammar.proofs.Answers.{le_or, many-deep, many-stop, not_false}
use Rattle.sml_grammar.proofs.CompFacts as facts
use Rattle.sml_grammar.proofs.CompHeads.{data-not_replicated}
use Rattle.sml_grammar.proofs.CompMain.{exp-complete}
use Rattle.sml_grammar.proofs.CompBegins.{opens_data-not_replicated}
use Rattle.sml_grammar.proofs.CompOverLists.{ReadOrDeep}
use Rattle.sml_grammar.proofs.CompOverDecs.{binds-over, funs-over}
use Rattle.sml_grammar.proofs.CompDeep.{all-over}
use Rattle.module_tree.specs.ReadModules.{Seal, MaybeSig, StrExp, StrDecs, str_dec, str_and, str_bind}
use Rattle.module_tree.specs.Scope.{after_decs}
use Rattle.module_tree.specs.ModuleDepth.{depth_sig, depth_maybe_sig, depth_str, depth_str_decs, depth_str_dec}
use Rattle.module_tree.specs.ModuleGrammar.{module_id, IsSeal, ReadsMaybeSig, without_sig, with_sig, ReadsStr, of_struct, of_str_id, of_constrained, of_applied, of_applied_to_decs, of_let_str, ReadsStrDecs, of_str_bind}
use Rattle.module_grammar.specs.Signatures.{and_type, read_sig}
use Rattle.module_grammar.specs.Structures.{maybe_sig, StrReader, StrDecsReader, StrReaders, str_start, begins_str, seal_suffix, str_from, str_bind_turn, read_str_binds, str_dec_by, str_dec_turn, str_decs_from, str_readers}
use Rattle.module_grammar.specs.PartialSignatures.{OpensSig}
use Rattle.module_grammar.specs.PartialModules.{with_struct, with_let, with_str_id, begins_local, OpensStr, begun_str, in_struct, signed, in_signature, in_argument, in_argument_decs, in_let, in_let_body, OpensStrDecs, past_no_dec, in_str_dec, past_str_dec, OpensStrDec, in_core_dec, begun_local_str, in_local_str, in_local_str_body, in_structure, OpensStrBinds, in_str_sig, in_str_body, past_str_bind}
use Rattle.module_grammar.proofs.Shorter.{str-bind-shorter, str-dec-shorter}
use Rattle.module_grammar.proofs.SigOver.{sig-over}
use Rattle.module_grammar.proofs.StrComplete.{StrStops, calm, calm-stops, DecBegins, dec-begins, DecsEnd, decs-no_str, str-begins, id-begins, seal-found, seal-stops, seal-bracket, maybe-sig-complete, CompleteStr, CompleteStrDecs, in-word, Reached, reaches, str-dec-complete, readers-complete}
use Rattle.module_grammar.proofs.Paths.{sig-opens, str-opens, str-decs-opens, str-dec-opens}

abbrev pub OverStr : ℕ → StrReader → Type 0
OverStr n self = (f : Fixity) (i : List Terminal) (d : ℕ) → OpensStr f i d → n < d → self f i ≡ deep

abbrev pub OverStrDecs : ℕ → StrDecsReader → Type 0
OverStrDecs n decs = (f : Fixity) (i : List Terminal) (d : ℕ) → OpensStrDecs f i d → n < d → decs f i ≡ deep

-- What partial trees begin with.

opens_str-begins : {f : Fixity} {i : List Terminal} {d : ℕ} → OpensStr f i d → begins_str (str_start i) ≡ true
opens_str-begins (begun_str (with_struct p)) = refl
opens_str-begins (begun_str (with_let p)) = refl
opens_str-begins (begun_str (with_str_id {o} v)) = id-begins o v
opens_str-begins (in_struct p o) = refl
opens_str-begins (signed d v le) = str-begins d
opens_str-begins (in_signature d v o) = str-begins d
opens_str-begins (in_argument p (module_id q x) o) = refl
opens_str-begins (in_argument_decs p (module_id q x) o) = refl
opens_str-begins (in_let p o) = refl
opens_str-begins (in_let_body p q d o) = refl

opens_core-begins : {f : Fixity} {i : List Terminal} {d : ℕ} → OpensDec f i d → DecBegins i
opens_core-begins (in_val p h o) = record { calm = refl; semicolon = refl; dec = refl; str = refl }
opens_core-begins (in_fun p h o) = record { calm = refl; semicolon = refl; dec = refl; str = refl }
opens_core-begins (in_type p o) = record { calm = refl; semicolon = refl; dec = refl; str = refl }
opens_core-begins (in_datatype p o) = record { calm = refl; semicolon = refl; dec = refl; str = refl }
opens_core-begins (in_withtype p q d o) = record { calm = refl; semicolon = refl; dec = refl; str = refl }
opens_core-begins (in_exception p o) = record { calm = refl; semicolon = refl; dec = refl; str = refl }
opens_core-begins (begun_local p) = record { calm = refl; semicolon = refl; dec = refl; str = refl }
opens_core-begins (in_local p o) = record { calm = refl; semicolon = refl; dec = refl; str = refl }
opens_core-begins (in_local_body p q d o) = record { calm = refl; semicolon = refl; dec = refl; str = refl }

pub opens_dec-begins : {f : Fixity} {i : List Terminal} {d : ℕ} → OpensStrDec f i d → DecBegins i
opens_dec-begins (in_core_dec e o) = opens_core-begins o
opens_dec-begins (begun_local_str p) = record { calm = refl; semicolon = refl; dec = refl; str = refl }
opens_dec-begins (in_local_str p o) = record { calm = refl; semicolon = refl; dec = refl; str = refl }
opens_dec-begins (in_local_str_body p q d o) = record { calm = refl; semicolon = refl; dec = refl; str = refl }
opens_dec-begins (in_structure p o) = record { calm = refl; semicolon = refl; dec = refl; str = refl }

opens_decs-calm : {f : Fixity} {i : List Terminal} {d : ℕ} → OpensStrDecs f i d → calm i ≡ true
opens_decs-calm (past_no_dec p o) = refl
opens_decs-calm (in_str_dec o) = (opens_dec-begins o).calm
opens_decs-calm (past_str_dec d o) = (dec-begins d).calm

-- declarations that are cut off are no structure
opens_decs-no_str : {f : Fixity} {i : List Terminal} {d : ℕ} → OpensStrDecs f i d → begins_str (str_start i) ≡ false
opens_decs-no_str (past_no_dec p o) = refl
opens_decs-no_str (in_str_dec o) = (opens_dec-begins o).str
opens_decs-no_str (past_str_dec d o) = (dec-begins d).str

opens_binds-and : {f : Fixity} {i : List Terminal} {d : ℕ} → OpensStrBinds f i d → and_type (Some i) ≡ None
opens_binds-and (in_str_sig (module_id q x) v o) = refl
opens_binds-and (in_str_body p (module_id q x) g o) = refl
opens_binds-and (past_str_bind p (of_str_bind q (module_id r x) g s) o) = refl

-- Signatures after a sign.
module _ (n : ℕ) where
  pub maybe-sig-over : {t : Terminal} {m : List Terminal} {k : Seal} {d : ℕ} → IsSeal t k → OpensSig m d → n < d → maybe_sig n (t ∷ m) ≡ deep
  maybe-sig-over {m} {d} v o lt =
      let e = seal-found v m in
      let h : read_sig n m ≡ deep = sig-over n m d o lt in
      rw (e, h) refl

  pub maybe-sig-or : {i m : List Terminal} {g : MaybeSig} (p : ℕ) → ReadsMaybeSig i g (reserved p res.Equals ∷ m) → ReadOrDeep (maybe_sig n i) g (reserved p res.Equals ∷ m)
  maybe-sig-or {g} p d = elim (le_or (depth_maybe_sig g) n) [ inl q ↦ inl (maybe-sig-complete n p d q) | inr q ↦ inr (too d q) ]
    where
      too : {i o : List Terminal} {g : MaybeSig} → ReadsMaybeSig i g o → n < depth_maybe_sig g → maybe_sig n i ≡ deep
      too without_sig lt = absurd (omega arith)
      too (with_sig {g} v d) lt = maybe-sig-over v (sig-opens d (depth_sig g) (omega arith) (omega arith)) lt

-- Structure expressions.
module _ (n : ℕ) (self : StrReaders) (complete : CompleteStr n self.str) (complete_decs : CompleteStrDecs n self.decs) (over : OverStr n self.str)
    (over_decs : OverStrDecs n self.decs) where
  decs-or : {f : Fixity} {i o : List Terminal} {ds : StrDecs} → ReadsStrDecs f i ds o → DecsEnd o → ReadOrDeep (self.decs f i) ds o
  decs-or {f} {i} {o} {ds} d en =
      elim (le_or (depth_str_decs ds) n) [
        | inl q ↦ inl (complete_decs f i ds o d q en)
        | inr q ↦ inr (over_decs f i (depth_str_decs ds) (str-decs-opens d (depth_str_decs ds) (omega arith) (omega arith)) q)
      ]

  too-str : {f : Fixity} {i o : List Terminal} {s : StrExp} → ReadsStr f i s o → n < depth_str s → self.str f i ≡ deep
  too-str {f} {i} {s} d lt = over f i (depth_str s) (str-opens d (depth_str s) (omega arith) (omega arith)) lt

  too-decs : {f : Fixity} {i o : List Terminal} {ds : StrDecs} → ReadsStrDecs f i ds o → n < depth_str_decs ds → self.decs f i ≡ deep
  too-decs {f} {i} {ds} d lt = over_decs f i (depth_str_decs ds) (str-decs-opens d (depth_str_decs ds) (omega arith) (omega arith)) lt

  -- a structure that the loop comes to, and a turn after it that is too deep
  after-str : {f : Fixity} {i m : List Terminal} {s : StrExp} → Reached n self complete complete_decs f i s m → seal_suffix n s m ≡ deep → str_from self n f i ≡ deep
  after-str {f} {i} {m} {s} r step = go r.k r.left r.is
    where
      go : (k : ℕ) → length m < k → str_from self n f i ≡ many (seal_suffix n) k s m → str_from self n f i ≡ deep
      go zero lt e = absurd (omega arith)
      go (suc k) lt e = e ∙ many-stop (seal_suffix n) k step

  -- no room for a structure in a constrained one
  no-room : {t : Terminal} {k : Seal} (m : List Terminal) (s : StrExp) → IsSeal t k → n < depth_str s → seal_suffix n s (t ∷ m) ≡ deep
  no-room m s v lt = let e = seal-found v m in let c : nat_le (depth_str s) n ≡ false = lt-leb (depth_str s) n lt in rw (e, c) refl

  sig-deep : {t : Terminal} {k : Seal} (m : List Terminal) (s : StrExp) → IsSeal t k → read_sig n m ≡ deep → seal_suffix n s (t ∷ m) ≡ deep
  sig-deep m s v h =
      elim (le_or (depth_str s) n) [
        | inl q ↦ let e = seal-found v m in let c = le-leb (depth_str s) n q in rw (e, c, h) refl
        | inr q ↦ no-room m s v q
      ]

  argument-deep : {f : Fixity} {i : List Terminal} (p q x : ℕ) → begins_str (str_start i) ≡ true → self.str f i ≡ deep
      → str_from self n f (alpha q x ∷ reserved p res.LeftParen ∷ i) ≡ deep
  argument-deep p q x b h = rw (b, h) refl

  argument-decs-deep : {f : Fixity} {i : List Terminal} (p q x : ℕ) → begins_str (str_start i) ≡ false → self.decs f i ≡ deep
      → str_from self n f (alpha q x ∷ reserved p res.LeftParen ∷ i) ≡ deep
  argument-decs-deep p q x b h = rw (b, h) refl

  let-deep : {f : Fixity} {i : List Terminal} (p : ℕ) → self.decs f i ≡ deep → str_from self n f (reserved p res.Let ∷ i) ≡ deep
  let-deep p h = rw h refl

  let-body-deep : {f : Fixity} {i m : List Terminal} {ds : StrDecs} (p q : ℕ) → ReadsStrDecs f i ds (reserved q res.In ∷ m) → self.str (after_decs f ds) m ≡ deep
      → str_from self n f (reserved p res.Let ∷ i) ≡ deep
  let-body-deep {f} {i} {m} {ds} p q d h = elim (decs-or d (in-word q m)) [ inl g ↦ rw (g, h) refl | inr g ↦ let-deep p g ]

  -- a whole structure that is too deep, whatever follows it
  str-far : {f : Fixity} {i o : List Terminal} {s : StrExp} → ReadsStr f i s o → suc n < depth_str s → str_from self n f i ≡ deep
  str-far {f} (of_struct {i} p q d) lt = let h : self.decs f i ≡ deep = too-decs d (omega arith) in rw h refl
  str-far (of_str_id v) lt = absurd (omega arith)
  str-far (of_constrained {m} {s} {g} d v gd) lt =
      elim (le_or (depth_str s) (suc n)) [
        | inl q ↦ after-str (reaches n self complete complete_decs d q (seal-stops v m) (seal-bracket v m))
            (elim (le_or (depth_str s) n) [
              | inl r ↦ sig-deep m s v (sig-over n m (depth_sig g) (sig-opens gd (depth_sig g) (omega arith) (omega arith)) (omega arith))
              | inr r ↦ no-room m s v r
            ])
        | inr q ↦ str-far d q
      ]
  str-far (of_applied p q (module_id r x) d) lt = argument-deep p r x (str-begins d) (too-str d (omega arith))
  str-far (of_applied_to_decs p q (module_id r x) d) lt = argument-decs-deep p r x (decs-no_str q d) (too-decs d (omega arith))
  str-far (of_let_str {ds} p q r d s) lt =
      elim (le_or (depth_str_decs ds) n) [ inl h ↦ let-body-deep p q d (too-str s (omega arith)) | inr h ↦ let-deep p (too-decs d h) ]

  after-sign : {f : Fixity} {t : Terminal} {i m : List Terminal} {s : StrExp} {k : Seal} → ReadsStr f i s (t ∷ m) → IsSeal t k → seal_suffix n s (t ∷ m) ≡ deep
      → str_from self n f i ≡ deep
  after-sign {m} {s} d v step =
      elim (le_or (depth_str s) (suc n)) [
        | inl q ↦ after-str (reaches n self complete complete_decs d q (seal-stops v m) (seal-bracket v m)) step
        | inr q ↦ str-far d q
      ]

  pub str-from-over : {f : Fixity} {i : List Terminal} {d : ℕ} → OpensStr f i d → suc n < d → str_from self n f i ≡ deep
  str-from-over (begun_str b) lt = absurd (omega arith)
  str-from-over {f} (in_struct {i} {d} p o) lt = let h : self.decs f i ≡ deep = over_decs f i d o (omega arith) in rw h refl
  str-from-over (signed {m} {s} d v le) lt = after-sign d v (no-room m s v (omega arith))
  str-from-over (in_signature {m} {s} {d = e} d v o) lt = after-sign d v (sig-deep m s v (sig-over n m e o (omega arith)))
  str-from-over {f} (in_argument {i} {d} p (module_id q x) o) lt = argument-deep p q x (opens_str-begins o) (over f i d o (omega arith))
  str-from-over {f} (in_argument_decs {i} {d} p (module_id q x) o) lt = argument-decs-deep p q x (opens_decs-no_str o) (over_decs f i d o (omega arith))
  str-from-over {f} (in_let {i} {d} p o) lt = let-deep p (over_decs f i d o (omega arith))
  str-from-over {f} (in_let_body {m} {ds} {d} p q dd o) lt = let-body-deep p q dd (over (after_decs f ds) m d o (omega arith))

-- what reads the declarations in a `local`, where they are too deep, or where there is no room for any
pub record OverInner (n : ℕ) (inner : StrDecsReader) : Type 0 where
  pub opened : (f : Fixity) (i : List Terminal) (d : ℕ) → OpensStrDecs f i d → n ≤ d → inner f i ≡ deep
  pub none : n < 1 → (f : Fixity) (i : List Terminal) → inner f i ≡ deep

-- Declarations.
module _ (n : ℕ) (self : StrReader) (complete : CompleteStr n self) (over : OverStr n self) where
  pub str-or : {f : Fixity} {i o : List Terminal} {s : StrExp} → ReadsStr f i s o → StrStops o → ReadOrDeep (self f i) s o
  str-or {f} {i} {o} {s} d st =
      elim (le_or (depth_str s) n) [
        | inl q ↦ inl (complete f i s o d q st)
        | inr q ↦ inr (over f i (depth_str s) (str-opens d (depth_str s) (omega arith) (omega arith)) q)
      ]

  binds-turns : {f : Fixity} {i : List Terminal} {d : ℕ} → OpensStrBinds f i d → n < d → (k : ℕ) → length i < k → many (str_bind_turn n self f) k no_state i ≡ deep
  binds-turns o lt zero le = absurd (omega arith)
  binds-turns {f} (in_str_sig {u} {i} (module_id q x) v o) lt (suc k) le =
      let h : maybe_sig n (u ∷ i) ≡ deep = maybe-sig-over n v o lt in many-stop (str_bind_turn n self f) k (rw h refl)
  binds-turns {f} (in_str_body {m} {d} p (module_id q x) gd o) lt (suc k) le =
      let h : self f m ≡ deep = over f m d o lt in
      elim (maybe-sig-or n p gd) [
        | inl u ↦ many-stop (str_bind_turn n self f) k (rw (u, h) refl)
        | inr u ↦ many-stop (str_bind_turn n self f) k (rw u refl)
      ]
  binds-turns {f} (past_str_bind r (of_str_bind {g} {s} p (module_id q x) gd sd) o) lt (suc k) le =
      let e = opens_binds-and o in
      let l = str-bind-shorter (of_str_bind p (module_id q x) gd sd) in
      elim (maybe-sig-or n p gd) [
        | inl u ↦ elim (str-or sd (record { sig = record { wheres = record { ty = refl; and_ = e }; none = refl }; none = refl; bracket = refl })) [
          | inl h ↦ many-deep (str_bind_turn n self f) k {put = str_and (str_bind (record { place = q; it = x }) g s)} (rw (u, h) refl) (binds-turns o lt k (omega arith))
          | inr h ↦ many-stop (str_bind_turn n self f) k (rw (u, h) refl)
        ]
        | inr u ↦ many-stop (str_bind_turn n self f) k (rw u refl)
      ]

  module _ (inner : StrDecsReader)
      (complete_inner : (f : Fixity) (i : List Terminal) (ds : StrDecs) (o : List Terminal) → ReadsStrDecs f i ds o → depth_str_decs ds < n → DecsEnd o → inner f i ≡ read ds o)
      (over_inner : OverInner n inner) where
    core-over : {f : Fixity} {i : List Terminal} {d : ℕ} → begins_local i ≡ false → OpensDec f i d → n < d → str_dec_by n self inner f i ≡ deep
    core-over {f} e (in_val {m} p s o) lt =
        let h = facts.tyvars-found s in
        let g : read_binds n (readers n).exp f m ≡ deep = binds-over n (readers n).exp (exp-complete n) (all-over n).exp o lt (suc (length m)) (omega arith) in
        rw (h, g) refl
    core-over {f} e (in_fun {m} p s o) lt =
        let h = facts.tyvars-found s in
        let g : read_funs n (readers n).exp f m ≡ deep = funs-over n (readers n).exp (exp-complete n) (all-over n).exp o lt (suc (length m)) (omega arith) in
        rw (h, g) refl
    core-over e (in_type {i} p o) lt = let g : read_type_binds n i ≡ deep = facts.type_binds-over n o lt in rw g refl
    core-over {f} e (in_datatype {i} p o) lt =
        let r = opens_data-not_replicated o in let g : read_data_binds n f i ≡ deep = facts.data_binds-over n f o lt in rw (r, g) refl
    core-over {f} e (in_withtype {i} {m} {bs} p q db o) lt =
        let r = data-not_replicated db in
        elim (le_or (depth_data_binds bs) n) [
          | inl x ↦
              let g : read_data_binds n f i ≡ read bs (reserved q res.Withtype ∷ m) = facts.data_binds-complete n f db x refl in
              let h : read_type_binds n m ≡ deep = facts.type_binds-over n o lt in
              rw (r, g, h) refl
          | inr x ↦ let g : read_data_binds n f i ≡ deep = facts.data_binds-over n f (facts.data_binds-opens db (depth_data_binds bs) (omega arith) (omega arith)) x in rw (r, g) refl
        ]
    core-over {f} e (in_exception {i} p o) lt = let g : read_ex_binds n f i ≡ deep = facts.ex_binds-over n f o lt in rw g refl
    core-over e (begun_local p) lt = not_false e
    core-over e (in_local p o) lt = not_false e
    core-over e (in_local_body p q d o) lt = not_false e

    -- the declarations of a `local` between it and its `in`
    inner-or : (f : Fixity) (i : List Terminal) (ds : StrDecs) (o : List Terminal) → ReadsStrDecs f i ds o → DecsEnd o → ReadOrDeep (inner f i) ds o
    inner-or f i ds o d en =
        elim (le_or (suc (depth_str_decs ds)) n) [
          | inl x ↦ inl (complete_inner f i ds o d x en)
          | inr x ↦ elim (le_or 1 n) [
            | inl y ↦ inr (over_inner.opened f i (depth_str_decs ds) (str-decs-opens d (depth_str_decs ds) (omega arith) (omega arith)) (omega arith))
            | inr y ↦ inr (over_inner.none y f i)
          ]
        ]

    pub str-dec-over : {f : Fixity} {i : List Terminal} {d : ℕ} → OpensStrDec f i d → n < d → str_dec_by n self inner f i ≡ deep
    str-dec-over (in_core_dec e o) lt = core-over e o lt
    str-dec-over {f} (begun_local_str {i} p) lt = let g : inner f i ≡ deep = over_inner.none lt f i in rw g refl
    str-dec-over {f} (in_local_str {i} {d} p o) lt = let g : inner f i ≡ deep = over_inner.opened f i d o (omega arith) in rw g refl
    str-dec-over {f} (in_local_str_body {i} {m} {ds} {d} p q dd o) lt =
        let h : inner (after_decs f ds) m ≡ deep = over_inner.opened (after_decs f ds) m d o (omega arith) in
        elim (inner-or f i ds (reserved q res.In ∷ m) dd (in-word q m)) [ inl g ↦ rw (g, h) refl | inr g ↦ rw g refl ]
    str-dec-over {f} (in_structure {i} p o) lt = let g : read_str_binds n self f i ≡ deep = binds-turns o lt (suc (length i)) (omega arith) in rw g refl

    dec-deep : {f : Fixity} {i : List Terminal} {d : ℕ} → OpensStrDec f i d → n < d → str_dec_turn n self inner f i ≡ deep
    dec-deep {f} {i} o lt =
        let w = opens_dec-begins o in let a = w.semicolon in let b = w.dec in
        let h : str_dec_by n self inner f i ≡ deep = str-dec-over o lt in
        rw (a, b, h) refl

    decs-turns : {f : Fixity} {i : List Terminal} {d : ℕ} → OpensStrDecs f i d → n < d → (k : ℕ) → length i < k → many (str_dec_turn n self inner) k f i ≡ deep
    decs-turns o lt zero le = absurd (omega arith)
    decs-turns {f} (past_no_dec p o) lt (suc k) le = many-deep (str_dec_turn n self inner) k {put = λ xs. xs} refl (decs-turns o lt k (omega arith))
    decs-turns (in_str_dec o) lt (suc k) le = many-stop (str_dec_turn n self inner) k (dec-deep o lt)
    decs-turns {f} (past_str_dec {i} {m} {x} dx o) lt (suc k) le =
        elim (le_or (depth_str_dec x) n) [
          | inl q ↦
              let h : str_dec_by n self inner f i ≡ read x m = str-dec-complete n self complete inner complete_inner dx q (calm-stops f m (opens_decs-calm o)) in
              let w = dec-begins dx in let a = w.semicolon in let b = w.dec in
              let s = str-dec-shorter dx in
              many-deep (str_dec_turn n self inner) k {put = str_dec x} (rw (a, b, h) refl) (decs-turns o lt k (omega arith))
          | inr q ↦ many-stop (str_dec_turn n self inner) k (dec-deep (str-dec-opens dx (depth_str_dec x) (omega arith) (omega arith)) q)
        ]

    pub str-decs-over : OverStrDecs n (str_decs_from n self inner)
    str-decs-over f i d o lt = decs-turns o lt (suc (length i)) (omega arith)

pub record OverReaders (n : ℕ) : Type 0 where
  pub str : OverStr n (str_readers n).str
  pub decs : OverStrDecs n (str_readers n).decs

str-none : CompleteStr 0 (λ f i. deep_if (begins_str (str_start i)))
unfolding str_readers
str-none = (readers-complete 0).str

str-over-none : OverStr 0 (λ f i. deep_if (begins_str (str_start i)))
str-over-none f i d o lt = let b = opens_str-begins o in rw b refl

readers-zero : OverReaders 0
unfolding str_readers
readers-zero = record {
  str = str-over-none;
  decs = str-decs-over 0 (λ f i. deep_if (begins_str (str_start i))) str-none str-over-none (λ f i. deep) (λ f i ds o d lt en. absurd (omega arith))
      (record { opened = λ f i d o le. refl; none = λ lt f i. refl });
}

readers-suc : (n : ℕ) → OverReaders n → OverReaders (suc n)
unfolding str_readers
readers-suc n a =
    let c = readers-complete n in
    let e : OverStr (suc n) (str_readers (suc n)).str = λ f i d o lt. str-from-over n (str_readers n) c.str c.decs a.str a.decs o lt in
    record {
      str = e;
      decs = str-decs-over (suc n) (str_readers (suc n)).str (readers-complete (suc n)).str e (str_readers n).decs (λ f i ds o d lt en. c.decs f i ds o d (omega arith) en)
          (record { opened = λ f i d o le. a.decs f i d o (omega arith); none = λ lt f i. absurd (omega arith) });
    }

pub readers-over : (n : ℕ) → OverReaders n
readers-over zero = readers-zero
readers-over (suc n) = readers-suc n (readers-over n)
