-- Signatures and specifications that are in the grammar, and not too deep, are read.
use Rattle.std.proofs.Common.{◌≡◌, ℕ, zero, suc, ◌≤◌, ◌<◌, List, ◌∷◌, length, Some, None, true, false, refl, ◌∙◌, arith}
use Rattle.std.proofs.lemmas.Bool.{le-leb}
use Rattle.mlc_names.specs.declared.token.Reserved.TheVariants as res
use Rattle.sml_tree.specs.Terminal.{Terminal, reserved, alpha, IsVid, alpha_vid, symbol_vid, star_vid, IsTycon}
use Rattle.sml_tree.specs.declared.ident.Tyvar.{Tyvar}
use Rattle.sml_tree.specs.ReadTree.{Placed, TypeBind}
use Rattle.sml_tree.specs.Grammar.{Tyvars, no_tyvars, one_tyvar, tyvars_in_brackets, TypeBinds, last_type_bind, more_type_binds, OneTypeBind, type_bind}
use Rattle.sml_grammar.specs.Answer.{read, many, whole}
use Rattle.sml_grammar.specs.Terminals.{first_as, after_word, no_state}
use Rattle.sml_grammar.specs.Bindings.{read_tyvars, read_type_binds}
use Rattle.sml_grammar.specs.Expressions.{replicated}
use Rattle.sml_grammar.proofs.Answers.{many-last, many-more, many-pass}
use Rattle.sml_grammar.proofs.Terminals.{tycon-found, long_tycon-found}
use Rattle.sml_grammar.proofs.BindStops.{BindStops}
use Rattle.sml_grammar.proofs.BindTypes as type_binds
use Rattle.sml_grammar.proofs.BindTyvars.{tyvars-complete}
use Rattle.module_tree.specs.ReadModules.{TypeDesc, ConDesc, DataDesc, WhereType, SigExp, sig_end, sig_id, where_type, Specs, spec, Spec, StrDescs, desc_and}
use Rattle.module_tree.specs.ModuleDepth.{depth_sig, depth_specs, depth_spec, depth_str_descs}
use Rattle.module_tree.specs.ModuleGrammar.{module_id, TypeDescs, last_type, more_types, type_desc, ConDescs, last_con, more_cons, DataDescs, last_data, more_data, OneDataDesc, data_desc, SigIds, last_sig_id, more_sig_ids, ReadsSig, of_sig, of_sig_id, of_where, ReadsSpecs, no_more_specs, spec_semicolon, of_spec, ReadsSpec, of_val_spec, of_type_spec, of_abbreviation_spec, of_eqtype_spec, of_datatype_spec, of_replication_spec, of_exception_spec, of_structure_spec, of_include, of_include_ids, of_sharing, ReadsStrDescs, of_last_desc, of_desc_and}
use Rattle.module_grammar.specs.Signatures.{as_module_id, val_desc_turn, type_desc_turn, read_con_descs, data_desc_turn, binds_type, tycon_turn, and_type, where_turn, SigReader, str_desc_turn, sig_id_turn, two_ids, spec_start, is_spec_start, spec_by, spec_turn, specs_from, where_suffix, sig_from, read_sig}
use Rattle.module_grammar.proofs.Shorter.{sig-shorter, spec-shorter, wheres-shorter}
use Rattle.module_grammar.proofs.SpecComplete.{SpecStops, tycon-tyvars, vals-complete, types-complete, exs-complete, data-complete, tycons-complete, WhereStops, wheres-complete, ids-complete}

-- what a signature could go on with
pub record SigStops (o : List Terminal) : Type 0 where
  pub wheres : WhereStops o
  pub none : after_word res.Where o ≡ None

pub stops-sig : {o : List Terminal} → SpecStops o → SigStops o
stops-sig st = let e = st.and_ in record { wheres = record { ty = st.ty; and_ = rw e refl }; none = st.where_ }

stops-bind : {o : List Terminal} → SpecStops o → BindStops o
stops-bind st = let a = st.ty in let b = st.bar in let c = st.of_ in let d = st.and_ in let e = st.equals in rw (a, b, c, d, e) refl

abbrev pub CompleteSig : ℕ → SigReader → Type 0
CompleteSig n self = (i : List Terminal) (g : SigExp) (o : List Terminal) → ReadsSig i g o → depth_sig g ≤ n → SigStops o → self i ≡ read g o

-- what stands after `and` in a list of structures is an identifier
descs-and : {i o : List Terminal} {ds : StrDescs} → ReadsStrDescs i ds o → and_type (Some i) ≡ None
descs-and (of_last_desc p (module_id q x) g) = refl
descs-and (of_desc_and p q (module_id r x) g ds) = refl

-- whether the list after `type` binds

types-bind : {i o : List Terminal} {ts : List TypeDesc} → TypeDescs i ts o → after_word res.Equals o ≡ None → (m : List Terminal) × (binds_type i ≡ read false m)
types-bind (last_type (type_desc {i} {o} {t} {as_} b d v)) e =
    let g : read_tyvars i ≡ read as_ (t ∷ o) = tyvars-complete d (tycon-tyvars v o) in
    let h = tycon-found v o in
    (o, rw (g, h, e) refl)
types-bind (more_types {m} r (type_desc {i} {t} {as_} b d v) ds) e =
    let g : read_tyvars i ≡ read as_ (t ∷ reserved r res.And ∷ m) = tyvars-complete d (tycon-tyvars v (reserved r res.And ∷ m)) in
    let h = tycon-found v (reserved r res.And ∷ m) in
    (reserved r res.And ∷ m, rw (g, h) refl)

pub one-binds : {i o : List Terminal} {b : TypeBind} → OneTypeBind i b o → (m : List Terminal) × (binds_type i ≡ read true m)
one-binds (type_bind {i} {m} {t} {as_} r b d v a) =
    let g : read_tyvars i ≡ read as_ (t ∷ reserved r res.Equals ∷ m) = tyvars-complete d (tycon-tyvars v (reserved r res.Equals ∷ m)) in
    let h = tycon-found v (reserved r res.Equals ∷ m) in
    (reserved r res.Equals ∷ m, rw (g, h) refl)

binds-bind : {i o : List Terminal} {bs : List TypeBind} → TypeBinds i bs o → (m : List Terminal) × (binds_type i ≡ read true m)
binds-bind (last_type_bind b) = one-binds b
binds-bind (more_type_binds p b bs) = one-binds b

-- a datatype that is specified isn't replicated

pub vid-no_datatype : {t : Terminal} {p x : ℕ} → IsVid t p x → (o : List Terminal) → after_word res.Datatype (t ∷ o) ≡ None
vid-no_datatype (alpha_vid p x) o = refl
vid-no_datatype (symbol_vid p x) o = refl
vid-no_datatype (star_vid p x) o = refl

cons-no_datatype : {i o : List Terminal} {cs : List ConDesc} → ConDescs i cs o → after_word res.Datatype i ≡ None
cons-no_datatype (last_con {m} v d) = vid-no_datatype v m
cons-no_datatype (more_cons {m} q v d cs) = vid-no_datatype v m

pub bound-not_replicated : {i m : List Terminal} {t : Terminal} {ys : List Tyvar} {q x : ℕ} (r : ℕ) → Tyvars i ys (t ∷ reserved r res.Equals ∷ m) → IsTycon t q x
    → after_word res.Datatype m ≡ None → replicated i ≡ None
bound-not_replicated {m} r no_tyvars v e = let h = tycon-found v (reserved r res.Equals ∷ m) in rw (h, e) refl
bound-not_replicated r (one_tyvar p a) v e = refl
bound-not_replicated r (tyvars_in_brackets p d) v e = refl

pub one-not_replicated : {i o : List Terminal} {d : DataDesc} → OneDataDesc i d o → replicated i ≡ None
one-not_replicated (data_desc r b d v cs) = bound-not_replicated r d v (cons-no_datatype cs)

not-replicated : {i o : List Terminal} {ds : List DataDesc} → DataDescs i ds o → replicated i ≡ None
not-replicated (last_data d) = one-not_replicated d
not-replicated (more_data p d ds) = one-not_replicated d

-- whether identifiers follow `include`

pub sig-two_ids : {i o : List Terminal} {g : SigExp} → ReadsSig i g o → first_as as_module_id o ≡ None → two_ids i ≡ false
sig-two_ids (of_sig p q ss) e = refl
sig-two_ids (of_sig_id (module_id p x)) e = rw e refl
sig-two_ids (of_where p g ws) e = sig-two_ids g refl

ids-two : {i o : List Terminal} {xs : List (Placed ℕ)} (p x : ℕ) → SigIds i xs o → two_ids (alpha p x ∷ i) ≡ true
ids-two p x (last_sig_id (module_id q y)) = refl
ids-two p x (more_sig_ids (module_id q y) d) = refl

-- what a specification begins with

pub spec-begins : {i o : List Terminal} {s : Spec} → ReadsSpec i s o → (after_word res.Semicolon i ≡ None) × (is_spec_start (spec_start i) ≡ true)
spec-begins (of_val_spec p d) = (refl, refl)
spec-begins (of_type_spec p d) = (refl, refl)
spec-begins (of_abbreviation_spec p d) = (refl, refl)
spec-begins (of_eqtype_spec p d) = (refl, refl)
spec-begins (of_datatype_spec p d) = (refl, refl)
spec-begins (of_replication_spec p q r v w) = (refl, refl)
spec-begins (of_exception_spec p d) = (refl, refl)
spec-begins (of_structure_spec p d) = (refl, refl)
spec-begins (of_include p g) = (refl, refl)
spec-begins (of_include_ids p v xs) = (refl, refl)
spec-begins (of_sharing p q r v cs) = (refl, refl)

pub spec-stops : {i o : List Terminal} {s : Spec} → ReadsSpec i s o → SpecStops i
spec-stops (of_val_spec p d) = record { ty = refl; and_ = refl; bar = refl; of_ = refl; equals = refl; where_ = refl; ids = refl }
spec-stops (of_type_spec p d) = record { ty = refl; and_ = refl; bar = refl; of_ = refl; equals = refl; where_ = refl; ids = refl }
spec-stops (of_abbreviation_spec p d) = record { ty = refl; and_ = refl; bar = refl; of_ = refl; equals = refl; where_ = refl; ids = refl }
spec-stops (of_eqtype_spec p d) = record { ty = refl; and_ = refl; bar = refl; of_ = refl; equals = refl; where_ = refl; ids = refl }
spec-stops (of_datatype_spec p d) = record { ty = refl; and_ = refl; bar = refl; of_ = refl; equals = refl; where_ = refl; ids = refl }
spec-stops (of_replication_spec p q r v w) = record { ty = refl; and_ = refl; bar = refl; of_ = refl; equals = refl; where_ = refl; ids = refl }
spec-stops (of_exception_spec p d) = record { ty = refl; and_ = refl; bar = refl; of_ = refl; equals = refl; where_ = refl; ids = refl }
spec-stops (of_structure_spec p d) = record { ty = refl; and_ = refl; bar = refl; of_ = refl; equals = refl; where_ = refl; ids = refl }
spec-stops (of_include p g) = record { ty = refl; and_ = refl; bar = refl; of_ = refl; equals = refl; where_ = refl; ids = refl }
spec-stops (of_include_ids p v xs) = record { ty = refl; and_ = refl; bar = refl; of_ = refl; equals = refl; where_ = refl; ids = refl }
spec-stops (of_sharing p q r v cs) = record { ty = refl; and_ = refl; bar = refl; of_ = refl; equals = refl; where_ = refl; ids = refl }

-- specifications end here
pub record SpecsEnd (o : List Terminal) : Type 0 where
  pub stops : SpecStops o
  pub none : is_spec_start (spec_start o) ≡ false
  pub semicolon : after_word res.Semicolon o ≡ None

pub word-stops : (p : ℕ) (o : List Terminal) → SpecsEnd (reserved p res.End ∷ o)
word-stops p o = record { stops = record { ty = refl; and_ = refl; bar = refl; of_ = refl; equals = refl; where_ = refl; ids = refl }; none = refl; semicolon = refl }

pub bracket-stops : (p : ℕ) (o : List Terminal) → SpecsEnd (reserved p res.RightParen ∷ o)
bracket-stops p o = record { stops = record { ty = refl; and_ = refl; bar = refl; of_ = refl; equals = refl; where_ = refl; ids = refl }; none = refl; semicolon = refl }

specs-stop : {i o : List Terminal} {ss : Specs} → ReadsSpecs i ss o → SpecStops o → SpecStops i
specs-stop no_more_specs st = st
specs-stop (spec_semicolon p d) st = record { ty = refl; and_ = refl; bar = refl; of_ = refl; equals = refl; where_ = refl; ids = refl }
specs-stop (of_spec s d) st = spec-stops s

module _ (n : ℕ) (self : SigReader) (complete : CompleteSig n self) where
  descs-complete : {i o : List Terminal} {ds : StrDescs} → ReadsStrDescs i ds o → depth_str_descs ds ≤ n → SpecStops o → (k : ℕ) → length i < k
      → many (str_desc_turn self) k no_state i ≡ read ds o
  descs-complete d le st zero lt = absurd (omega arith)
  descs-complete (of_last_desc {i} {o} {g} p (module_id q x) d) le st (suc k) lt =
      let h : self i ≡ read g o = complete i g o d le (stops-sig st) in
      let c = st.and_ in
      many-last (str_desc_turn self) k (rw (h, c) refl)
  descs-complete (of_desc_and {i} {m} {o} {g} {ds} p r (module_id q x) d more) le st (suc k) lt =
      let e = descs-and more in
      let h : self i ≡ read g (reserved r res.And ∷ m) =
      complete i g (reserved r res.And ∷ m) d (omega arith) (record { wheres = record { ty = refl; and_ = e }; none = refl }) in
      let s = sig-shorter d in
      let z : many (str_desc_turn self) k no_state m ≡ read ds o = descs-complete more (omega arith) st k (omega arith) in
      many-more (str_desc_turn self) k {put = desc_and (record { place = q; it = x }) g} (rw h refl) z

  pub spec-complete : {i o : List Terminal} {s : Spec} → ReadsSpec i s o → depth_spec s ≤ n → SpecStops o → spec_by n self (spec_start i) ≡ read s o
  spec-complete (of_val_spec {i} {o} {vs} p d) le st =
      let h : whole (val_desc_turn n) no_state i ≡ read vs o = vals-complete n d le st.ty st.and_ (suc (length i)) (omega arith) in rw h refl
  spec-complete (of_type_spec {i} {o} {ts} p d) le st =
      let b = types-bind d st.equals in
      let e = b.1 in
      let h : whole type_desc_turn no_state i ≡ read ts o = types-complete d st.and_ (suc (length i)) (omega arith) in
      rw (e, h) refl
  spec-complete (of_abbreviation_spec {i} {o} {bs} p d) le st =
      let b = binds-bind d in
      let e = b.1 in
      let h : read_type_binds n i ≡ read bs o = type_binds.type_binds-complete n d le (stops-bind st) in
      rw (e, h) refl
  spec-complete (of_eqtype_spec {i} {o} {ts} p d) le st =
      let h : whole type_desc_turn no_state i ≡ read ts o = types-complete d st.and_ (suc (length i)) (omega arith) in rw h refl
  spec-complete (of_datatype_spec {i} {o} {ds} p d) le st =
      let g = not-replicated d in
      let h : whole (data_desc_turn n) no_state i ≡ read ds o = data-complete n d le st (suc (length i)) (omega arith) in
      rw (g, h) refl
  spec-complete (of_replication_spec {t} {u} {o} p q r v w) le st =
      let g = tycon-found v (reserved q res.Equals ∷ reserved r res.Datatype ∷ u ∷ o) in
      let h = long_tycon-found w o in
      rw (g, h) refl
  spec-complete (of_exception_spec {i} {o} {cs} p d) le st =
      let h : read_con_descs n res.And i ≡ read cs o = exs-complete n d le st.ty st.of_ st.and_ (suc (length i)) (omega arith) in rw h refl
  spec-complete (of_structure_spec {i} {o} {ds} p d) le st =
      let h : whole (str_desc_turn self) no_state i ≡ read ds o = descs-complete d le st (suc (length i)) (omega arith) in rw h refl
  spec-complete (of_include {i} {o} {g} p d) le st =
      let e = sig-two_ids d st.ids in
      let h : self i ≡ read g o = complete i g o d le (stops-sig st) in
      rw (e, h) refl
  spec-complete (of_include_ids {i} {o} {xs} p (module_id q x) d) le st =
      let e = ids-two q x d in
      let c = le-leb 1 n le in
      let h : whole sig_id_turn no_state i ≡ read xs o = ids-complete d st.ids (suc (length i)) (omega arith) in
      rw (e, c, h) refl
  spec-complete (of_sharing {t} {i} {o} {c} {cs} p q r v d) le st =
      let g = long_tycon-found v (reserved r res.Equals ∷ i) in
      let h : whole tycon_turn no_state i ≡ read cs o = tycons-complete d st.equals (suc (length i)) (omega arith) in
      rw (g, h) refl

  pub specs-complete : {i o : List Terminal} {ss : Specs} → ReadsSpecs i ss o → depth_specs ss ≤ n → SpecsEnd o → (k : ℕ) → length i < k
      → many (spec_turn n self) k no_state i ≡ read ss o
  specs-complete d le en zero lt = absurd (omega arith)
  specs-complete (no_more_specs {o}) le en (suc k) lt = let a = en.semicolon in let b = en.none in many-last (spec_turn n self) k (rw (a, b) refl)
  specs-complete (spec_semicolon {i} {o} {ss} p d) le en (suc k) lt =
      let z : many (spec_turn n self) k no_state i ≡ read ss o = specs-complete d le en k (omega arith) in
      many-more (spec_turn n self) k {put = λ xs. xs} refl z
  specs-complete (of_spec {i} {m} {o} {s} {ss} d more) le en (suc k) lt =
      let h : spec_by n self (spec_start i) ≡ read s m = spec-complete d (omega arith) (specs-stop more en.stops) in
      let b = spec-begins d in
      let b0 = b.0 in let b1 = b.1 in
      let r = spec-shorter d in
      let z : many (spec_turn n self) k no_state m ≡ read ss o = specs-complete more (omega arith) en k (omega arith) in
      many-more (spec_turn n self) k {put = spec s} (rw (b0, b1, h) refl) z

  pub specs-whole : {i o : List Terminal} {ss : Specs} → ReadsSpecs i ss o → depth_specs ss ≤ n → SpecsEnd o → specs_from n self i ≡ read ss o
  specs-whole {i} d le en = specs-complete d le en (suc (length i)) (omega arith)

  -- The loop over `where type` comes to each signature that the terminals begin with.
  pub record Reached (i : List Terminal) (g : SigExp) (m : List Terminal) : Type 0 where
    pub k : ℕ
    pub left : length m < k
    pub is : sig_from n self i ≡ many (where_suffix n) k g m

  where-step : {i m o : List Terminal} {g : SigExp} {ws : List WhereType} (p : ℕ) → Reached i g (reserved p res.Where ∷ m) → depth_sig g ≤ n
      → whole (where_turn n) no_state m ≡ read ws o → length o < length m → Reached i (where_type g ws) o
  where-step {i} {m} {o} {g} {ws} p r le h s = go r.k r.left r.is
    where
      go : (k : ℕ) → length (reserved p res.Where ∷ m) < k → sig_from n self i ≡ many (where_suffix n) k g (reserved p res.Where ∷ m) → Reached i (where_type g ws) o
      go zero lt e = absurd (omega arith)
      go (suc k) lt e =
          let c = le-leb (depth_sig g) n le in
          record { k = k; left = omega (arith, s); is = e ∙ many-pass (where_suffix n) k (rw (c, h) refl) }

  pub reaches : {i m : List Terminal} {g : SigExp} → ReadsSig i g m → depth_sig g ≤ suc n → WhereStops m → Reached i g m
  reaches (of_sig {i} {o} {ss} p q d) le st =
      let h : specs_from n self i ≡ read ss (reserved q res.End ∷ o) = specs-whole d (omega arith) (word-stops q o) in
      record { k = suc (length o); left = omega arith; is = rw h refl }
  reaches (of_sig_id {o} (module_id p x)) le st = record { k = suc (length o); left = omega arith; is = refl }
  reaches (of_where {m} {o} {ws} p d wd) le st =
      let h : whole (where_turn n) no_state m ≡ read ws o = wheres-complete n wd (omega arith) st (suc (length m)) (omega arith) in
      where-step p (reaches d (omega arith) (record { ty = refl; and_ = refl })) (omega arith) h (wheres-shorter wd)

  from-complete : {i o : List Terminal} {g : SigExp} → ReadsSig i g o → depth_sig g ≤ suc n → SigStops o → sig_from n self i ≡ read g o
  from-complete {i} {o} {g} d le st = let r = reaches d le st.wheres in go r.k r.left r.is
    where
      go : (k : ℕ) → length o < k → sig_from n self i ≡ many (where_suffix n) k g o → sig_from n self i ≡ read g o
      go zero lt e = absurd (omega arith)
      go (suc k) lt e = let c = st.none in e ∙ many-last (where_suffix n) k (rw c refl)

depth-pos : (g : SigExp) → 0 < depth_sig g
depth-pos (sig_end p ss) = omega arith
depth-pos (sig_id p x) = omega arith
depth-pos (where_type g ws) = omega arith

pub sig-complete : (n : ℕ) → CompleteSig n (read_sig n)
unfolding read_sig
sig-complete zero i g o d le st = let h = depth-pos g in absurd (omega arith)
sig-complete (suc n) i g o d le st = from-complete n (read_sig n) (sig-complete n) d le st
