-- Signatures and specifications that are too deep are told to be.
use Rattle.std.proofs.Common.{◌≡◌, ℕ, zero, suc, ◌≤◌, ◌<◌, List, ◌∷◌, length, Some, None, Bool, true, false, ◌⊎◌, inl, inr, refl, ◌∙◌, arith, nat_le}
use Rattle.std.proofs.lemmas.Bool.{le-leb, lt-leb}
use Rattle.mlc_names.specs.declared.token.Reserved.TheVariants as res
use Rattle.sml_tree.specs.Terminal.{Terminal, reserved}
use Rattle.sml_grammar.specs.Answer.{deep, read, many, whole}
use Rattle.sml_grammar.specs.Terminals.{after_word, no_state}
use Rattle.sml_grammar.specs.Bindings.{read_tyvars, read_type_binds}
use Rattle.sml_grammar.specs.Expressions.{replicated}
use Rattle.sml_grammar.specs.PartialBindings.{OpensTypeBinds, in_type_bind, past_type_bind}
use Rattle.sml_grammar.proofs.Answers.{le_or, many-deep, many-stop}
use Rattle.sml_grammar.proofs.Terminals.{tycon-found}
use Rattle.sml_grammar.proofs.BindTyvars.{tyvars-complete}
use Rattle.sml_grammar.proofs.CompFacts as facts
use Rattle.sml_grammar.proofs.CompOverLists.{ReadOrDeep}
use Rattle.module_tree.specs.ReadModules.{SigExp, Specs, spec, desc_and}
use Rattle.module_tree.specs.ModuleDepth.{depth_where_types, depth_sig, depth_specs, depth_spec}
use Rattle.module_tree.specs.ModuleGrammar.{module_id, ReadsSig, of_sig, of_sig_id, of_where, ReadsSpecs}
use Rattle.module_grammar.specs.Signatures.{val_desc_turn, read_con_descs, data_desc_turn, binds_type, and_type, where_turn, SigReader, str_desc_turn, two_ids, spec_start, is_spec_start, spec_by, spec_turn, specs_from, sig_start_of, begins_sig, where_suffix, sig_from, read_sig}
use Rattle.module_grammar.specs.PartialSignatures.{with_sig_word, with_sig_id, OpensConDescs, in_con_desc, past_con_desc, OpensDataDescs, in_data_desc, past_data_desc, OpensSig, begun_sig, in_sig, extended, in_wheres, OpensSpecs, past_no_spec, in_spec, past_spec, OpensSpec, in_vals, in_abbreviations, in_data, in_exceptions, in_structures, in_include, OpensStrDescs, in_str_desc, past_str_desc}
use Rattle.module_grammar.proofs.Shorter.{sig-shorter, spec-shorter}
use Rattle.module_grammar.proofs.SpecComplete.{SpecStops, tycon-tyvars}
use Rattle.module_grammar.proofs.SigComplete.{SigStops, CompleteSig, one-binds, vid-no_datatype, bound-not_replicated, one-not_replicated, sig-two_ids, spec-begins, spec-stops, SpecsEnd, spec-complete, specs-whole, Reached, reaches, sig-complete}
use Rattle.module_grammar.proofs.Paths.{wheres-opens, sig-opens, specs-opens, spec-opens}
use Rattle.module_grammar.proofs.SpecOver.{vals-over, exs-over, data-over, wheres-over}

abbrev pub OverSig : ℕ → SigReader → Type 0
OverSig n self = (i : List Terminal) (d : ℕ) → OpensSig i d → n < d → self i ≡ deep

-- What partial trees begin with.

-- a list that is cut off in what a type stands for binds
opens-bind : {i : List Terminal} {d : ℕ} → OpensTypeBinds i d → (m : List Terminal) × (binds_type i ≡ read true m)
opens-bind (in_type_bind {i} {m} {t} {as_} r d v o) =
    let g : read_tyvars i ≡ read as_ (t ∷ reserved r res.Equals ∷ m) = tyvars-complete d (tycon-tyvars v (reserved r res.Equals ∷ m)) in
    let h = tycon-found v (reserved r res.Equals ∷ m) in
    (reserved r res.Equals ∷ m, rw (g, h) refl)
opens-bind (past_type_bind p b o) = one-binds b

opens_cons-no_datatype : {i : List Terminal} {d : ℕ} → OpensConDescs i d → after_word res.Datatype i ≡ None
opens_cons-no_datatype (in_con_desc {m} q v o) = vid-no_datatype v (reserved q res.Of ∷ m)
opens_cons-no_datatype (past_con_desc {m} q v s o) = vid-no_datatype v m

opens-not_replicated : {i : List Terminal} {d : ℕ} → OpensDataDescs i d → replicated i ≡ None
opens-not_replicated (in_data_desc r d v o) = bound-not_replicated r d v (opens_cons-no_datatype o)
opens-not_replicated (past_data_desc p b o) = one-not_replicated b

-- after two identifiers a signature isn't cut off further in
opens_sig-two : {i : List Terminal} {d : ℕ} → OpensSig i d → (two_ids i ≡ false) ⊎ (d ≤ 1)
opens_sig-two (begun_sig b) = inr (omega arith)
opens_sig-two (in_sig p o) = inl refl
opens_sig-two (extended p g le) = inl (sig-two_ids g refl)
opens_sig-two (in_wheres p g o) = inl (sig-two_ids g refl)

opens_descs-and : {i : List Terminal} {d : ℕ} → OpensStrDescs i d → and_type (Some i) ≡ None
opens_descs-and (in_str_desc p (module_id q x) o) = refl
opens_descs-and (past_str_desc p q (module_id r x) g o) = refl

opens_spec-begins : {i : List Terminal} {d : ℕ} → OpensSpec i d → (after_word res.Semicolon i ≡ None) × (is_spec_start (spec_start i) ≡ true)
opens_spec-begins (in_vals p o) = (refl, refl)
opens_spec-begins (in_abbreviations p o) = (refl, refl)
opens_spec-begins (in_data p o) = (refl, refl)
opens_spec-begins (in_exceptions p o) = (refl, refl)
opens_spec-begins (in_structures p o) = (refl, refl)
opens_spec-begins (in_include p o) = (refl, refl)

opens_spec-stops : {i : List Terminal} {d : ℕ} → OpensSpec i d → SpecStops i
opens_spec-stops (in_vals p o) = record { ty = refl; and_ = refl; bar = refl; of_ = refl; equals = refl; where_ = refl; ids = refl }
opens_spec-stops (in_abbreviations p o) = record { ty = refl; and_ = refl; bar = refl; of_ = refl; equals = refl; where_ = refl; ids = refl }
opens_spec-stops (in_data p o) = record { ty = refl; and_ = refl; bar = refl; of_ = refl; equals = refl; where_ = refl; ids = refl }
opens_spec-stops (in_exceptions p o) = record { ty = refl; and_ = refl; bar = refl; of_ = refl; equals = refl; where_ = refl; ids = refl }
opens_spec-stops (in_structures p o) = record { ty = refl; and_ = refl; bar = refl; of_ = refl; equals = refl; where_ = refl; ids = refl }
opens_spec-stops (in_include p o) = record { ty = refl; and_ = refl; bar = refl; of_ = refl; equals = refl; where_ = refl; ids = refl }

opens_specs-stop : {i : List Terminal} {d : ℕ} → OpensSpecs i d → SpecStops i
opens_specs-stop (past_no_spec p o) = record { ty = refl; and_ = refl; bar = refl; of_ = refl; equals = refl; where_ = refl; ids = refl }
opens_specs-stop (in_spec o) = opens_spec-stops o
opens_specs-stop (past_spec s o) = spec-stops s

true-or-false : (b : Bool) → (b ≡ true) ⊎ (b ≡ false)
true-or-false true = inl refl
true-or-false false = inr refl

module _ (n : ℕ) (self : SigReader) (complete : CompleteSig n self) (over : OverSig n self) where
  pub sig-or : {i o : List Terminal} {g : SigExp} → ReadsSig i g o → SigStops o → ReadOrDeep (self i) g o
  sig-or {i} {o} {g} d st =
      elim (le_or (depth_sig g) n) [ inl q ↦ inl (complete i g o d q st) | inr q ↦ inr (over i (depth_sig g) (sig-opens d (depth_sig g) (omega arith) (omega arith)) q) ]

  descs-over : {i : List Terminal} {d : ℕ} → OpensStrDescs i d → n < d → (k : ℕ) → length i < k → many (str_desc_turn self) k no_state i ≡ deep
  descs-over o lt zero le = absurd (omega arith)
  descs-over (in_str_desc {i} {d} p (module_id q x) o) lt (suc k) le = let h : self i ≡ deep = over i d o lt in many-stop (str_desc_turn self) k (rw h refl)
  descs-over (past_str_desc {i} {g} p r (module_id q x) d o) lt (suc k) le =
      let e = opens_descs-and o in
      let s = sig-shorter d in
      elim (sig-or d (record { wheres = record { ty = refl; and_ = e }; none = refl })) [
        | inl h ↦ many-deep (str_desc_turn self) k {put = desc_and (record { place = q; it = x }) g} (rw h refl) (descs-over o lt k (omega arith))
        | inr h ↦ many-stop (str_desc_turn self) k (rw h refl)
      ]

  -- a list of identifiers has no room only where a signature has none
  include-over : {i : List Terminal} {d : ℕ} (p : ℕ) → OpensSig i d → n < d → spec_by n self (spec_start (reserved p res.Include ∷ i)) ≡ deep
  include-over {i} {d} p o lt =
      let h : self i ≡ deep = over i d o lt in
      elim (true-or-false (two_ids i)) [
        | inl e ↦ elim (opens_sig-two o) [
          | inl e' ↦ rw (e', h) refl
          | inr le ↦ let c : nat_le 1 n ≡ false = lt-leb 1 n (omega arith) in rw (e, c) refl
        ]
        | inr e ↦ rw (e, h) refl
      ]

  spec-over : {i : List Terminal} {d : ℕ} → OpensSpec i d → n < d → spec_by n self (spec_start i) ≡ deep
  spec-over (in_vals {i} p o) lt = let h : whole (val_desc_turn n) no_state i ≡ deep = vals-over n o lt (suc (length i)) (omega arith) in rw h refl
  spec-over (in_abbreviations {i} p o) lt =
      let b = opens-bind o in
      let e = b.1 in
      let h : read_type_binds n i ≡ deep = facts.type_binds-over n o lt in
      rw (e, h) refl
  spec-over (in_data {i} p o) lt =
      let g = opens-not_replicated o in
      let h : whole (data_desc_turn n) no_state i ≡ deep = data-over n o lt (suc (length i)) (omega arith) in
      rw (g, h) refl
  spec-over (in_exceptions {i} p o) lt = let h : read_con_descs n res.And i ≡ deep = exs-over n o lt (suc (length i)) (omega arith) in rw h refl
  spec-over (in_structures {i} p o) lt = let h : whole (str_desc_turn self) no_state i ≡ deep = descs-over o lt (suc (length i)) (omega arith) in rw h refl
  spec-over (in_include p o) lt = include-over p o lt

  spec-deep : {i : List Terminal} {d : ℕ} → OpensSpec i d → n < d → spec_turn n self no_state i ≡ deep
  spec-deep {i} o lt =
      let b = opens_spec-begins o in
      let b0 = b.0 in let b1 = b.1 in
      let h : spec_by n self (spec_start i) ≡ deep = spec-over o lt in
      rw (b0, b1, h) refl

  specs-turns : {i : List Terminal} {d : ℕ} → OpensSpecs i d → n < d → (k : ℕ) → length i < k → many (spec_turn n self) k no_state i ≡ deep
  specs-turns o lt zero le = absurd (omega arith)
  specs-turns (past_no_spec p o) lt (suc k) le = many-deep (spec_turn n self) k {put = λ xs. xs} refl (specs-turns o lt k (omega arith))
  specs-turns (in_spec o) lt (suc k) le = many-stop (spec_turn n self) k (spec-deep o lt)
  specs-turns (past_spec {i} {m} {s} d o) lt (suc k) le =
      elim (le_or (depth_spec s) n) [
        | inl q ↦
            let h : spec_by n self (spec_start i) ≡ read s m = spec-complete n self complete d q (opens_specs-stop o) in
            let b = spec-begins d in
            let b0 = b.0 in let b1 = b.1 in
            let r = spec-shorter d in
            many-deep (spec_turn n self) k {put = spec s} (rw (b0, b1, h) refl) (specs-turns o lt k (omega arith))
        | inr q ↦ many-stop (spec_turn n self) k (spec-deep (spec-opens d (depth_spec s) (omega arith) (omega arith)) q)
      ]

  pub specs-over : {i : List Terminal} {d : ℕ} → OpensSpecs i d → n < d → specs_from n self i ≡ deep
  specs-over {i} o lt = specs-turns o lt (suc (length i)) (omega arith)

  pub specs-or : {i o : List Terminal} {ss : Specs} → ReadsSpecs i ss o → SpecsEnd o → ReadOrDeep (specs_from n self i) ss o
  specs-or {ss} d en =
      elim (le_or (depth_specs ss) n) [
        | inl q ↦ inl (specs-whole n self complete d q en)
        | inr q ↦ inr (specs-over (specs-opens d (depth_specs ss) (omega arith) (omega arith)) q)
      ]

  -- a signature that the loop comes to, and a turn after it that is too deep
  after-sig : {i m : List Terminal} {g : SigExp} → Reached n self complete i g m → where_suffix n g m ≡ deep → sig_from n self i ≡ deep
  after-sig {i} {m} {g} r step = go r.k r.left r.is
    where
      go : (k : ℕ) → length m < k → sig_from n self i ≡ many (where_suffix n) k g m → sig_from n self i ≡ deep
      go zero lt e = absurd (omega arith)
      go (suc k) lt e = e ∙ many-stop (where_suffix n) k step

  -- no room for a signature in one with `where type`
  no-room : (p : ℕ) (m : List Terminal) (g : SigExp) → n < depth_sig g → where_suffix n g (reserved p res.Where ∷ m) ≡ deep
  no-room p m g lt = let c : nat_le (depth_sig g) n ≡ false = lt-leb (depth_sig g) n lt in rw c refl

  wheres-deep : (p : ℕ) (m : List Terminal) (g : SigExp) → whole (where_turn n) no_state m ≡ deep → where_suffix n g (reserved p res.Where ∷ m) ≡ deep
  wheres-deep p m g h =
      elim (le_or (depth_sig g) n) [ inl q ↦ let c = le-leb (depth_sig g) n q in rw (c, h) refl | inr q ↦ no-room p m g q ]

  -- a whole signature that is too deep, whatever follows it
  sig-far : {i o : List Terminal} {g : SigExp} → ReadsSig i g o → suc n < depth_sig g → sig_from n self i ≡ deep
  sig-far (of_sig {i} {ss} p q d) lt =
      let h : specs_from n self i ≡ deep = specs-over (specs-opens d (depth_specs ss) (omega arith) (omega arith)) (omega arith) in rw h refl
  sig-far (of_sig_id v) lt = absurd (omega arith)
  sig-far (of_where {m} {g} {ws} p d wd) lt =
      elim (le_or (depth_sig g) (suc n)) [
        | inl q ↦ after-sig (reaches n self complete d q (record { ty = refl; and_ = refl }))
            (elim (le_or (depth_sig g) n) [
              | inl r ↦ wheres-deep p m g (wheres-over n (wheres-opens wd (depth_where_types ws) (omega arith) (omega arith)) (omega arith) (suc (length m)) (omega arith))
              | inr r ↦ no-room p m g r
            ])
        | inr q ↦ sig-far d q
      ]

  after-where : {i m : List Terminal} {g : SigExp} (p : ℕ) → ReadsSig i g (reserved p res.Where ∷ m) → where_suffix n g (reserved p res.Where ∷ m) ≡ deep
      → sig_from n self i ≡ deep
  after-where {g} p d step =
      elim (le_or (depth_sig g) (suc n)) [ inl q ↦ after-sig (reaches n self complete d q (record { ty = refl; and_ = refl })) step | inr q ↦ sig-far d q ]

  pub from-over : {i : List Terminal} {d : ℕ} → OpensSig i d → suc n < d → sig_from n self i ≡ deep
  from-over (begun_sig b) lt = absurd (omega arith)
  from-over (in_sig {i} p o) lt = let h : specs_from n self i ≡ deep = specs-over o (omega arith) in rw h refl
  from-over (extended {m} {g} p d le) lt = after-where p d (no-room p m g (omega arith))
  from-over (in_wheres {m} {g} p d o) lt = after-where p d (wheres-deep p m g (wheres-over n o (omega arith) (suc (length m)) (omega arith)))

sig-begins : {i o : List Terminal} {g : SigExp} → ReadsSig i g o → begins_sig (sig_start_of i) ≡ true
sig-begins (of_sig p q d) = refl
sig-begins (of_sig_id (module_id p x)) = refl
sig-begins (of_where p d ws) = sig-begins d

opens_sig-begins : {i : List Terminal} {d : ℕ} → OpensSig i d → begins_sig (sig_start_of i) ≡ true
opens_sig-begins (begun_sig (with_sig_word p)) = refl
opens_sig-begins (begun_sig (with_sig_id (module_id p x))) = refl
opens_sig-begins (in_sig p o) = refl
opens_sig-begins (extended p d le) = sig-begins d
opens_sig-begins (in_wheres p d o) = sig-begins d

pub sig-over : (n : ℕ) → OverSig n (read_sig n)
unfolding read_sig
sig-over zero i d o lt = let b = opens_sig-begins o in rw b refl
sig-over (suc n) i d o lt = from-over n (read_sig n) (sig-complete n) (sig-over n) o lt
