-- Sources that are too deep are told to be; so where bad is answered no terminals are a source of any depth.
use Rattle.std.proofs.Common.{◌≡◌, ℕ, zero, suc, ◌≤◌, ◌<◌, List, [], ◌∷◌, length, Some, None, Bool, true, false, inl, inr, refl, ◌∙◌, arith}
use Rattle.mlc_names.specs.declared.token.Reserved.TheVariants as res
use Rattle.sml_tree.specs.Terminal.{Terminal, reserved}
use Rattle.sml_tree.specs.Fixity.{Fixity}
use Rattle.sml_grammar.specs.Answer.{Answer, ok, bad, deep, read, then_read, many, whole}
use Rattle.sml_grammar.specs.Terminals.{no_state}
use Rattle.sml_grammar.specs.Expressions.{readers}
use Rattle.sml_grammar.specs.Partial.{OpensDec, in_val, in_fun, in_type, in_datatype, in_withtype, in_exception, begun_local, in_local, in_local_body}
use Rattle.sml_grammar.proofs.Answers.{le_or, many-deep, many-stop, not_false}
use Rattle.sml_grammar.proofs.CompBegins.{opens-begins}
use Rattle.sml_grammar.proofs.CompDeep.{all-over}
use Rattle.sml_grammar.proofs.CompOverLists.{ReadOrDeep}
use Rattle.module_tree.specs.ReadModules.{spec_parameter, Parameter, Top}
use Rattle.module_tree.specs.ModuleDepth.{depth_parameter, depth_top, depth_tops}
use Rattle.module_tree.specs.ModuleGrammar.{module_id, of_val_spec, of_type_spec, of_abbreviation_spec, of_eqtype_spec, of_datatype_spec, of_replication_spec, of_exception_spec, of_structure_spec, of_include, of_include_ids, of_sharing, ReadsParameter, fun_bind}
use Rattle.module_grammar.specs.Laws as laws
use Rattle.module_grammar.specs.Laws.{IsTree, Outcome, is_source, is_too_deep, is_wrong}
use Rattle.module_grammar.specs.Signatures.{and_type, read_sig, specs_from}
use Rattle.module_grammar.specs.Structures.{maybe_sig, str_readers, str_dec_by}
use Rattle.module_grammar.specs.Sources.{sig_bind_turn, read_parameter, fun_bind_turn, inner_decs, Standing, top_turn, read_source}
use Rattle.module_grammar.specs.PartialSignatures.{OpensSpecs, past_no_spec, in_spec, past_spec, in_vals, in_abbreviations, in_data, in_exceptions, in_structures, in_include}
use Rattle.module_grammar.specs.PartialModules.{OpensStrDecs, OpensStrDec, in_core_dec, begun_local_str, in_local_str, in_local_str_body, in_structure, OpensSigBinds, in_sig_bind, past_sig_bind, OpensParameter, in_structure_parameter, in_spec_parameter, OpensFunBinds, in_parameter, in_result, in_fun_body, past_fun_bind, OpensTop, in_declaration, in_signatures, in_functors, in_expression, OpensTops, past_no_top, in_top, past_top}
use Rattle.module_grammar.proofs.Shorter.{sig-shorter, fun-bind-shorter, top-shorter}
use Rattle.module_grammar.proofs.SigComplete.{sig-complete}
use Rattle.module_grammar.proofs.SigOver.{sig-or, specs-over, sig-over}
use Rattle.module_grammar.proofs.StrComplete.{calm, readers-complete}
use Rattle.module_grammar.proofs.StrOver.{opens_dec-begins, maybe-sig-over, maybe-sig-or, str-or, str-dec-over, readers-over}
use Rattle.module_grammar.proofs.SourceSound.{sound}
use Rattle.module_grammar.proofs.SourceFar.{deep-sound}
use Rattle.module_grammar.proofs.SourceComplete.{parameter-complete, dec_then, exp-turn, inner-complete, one-top, top-calm, complete}
use Rattle.module_grammar.proofs.Paths.{parameter-opens, top-opens, tops-opens}

-- What partial trees begin with.

opens_sig_binds-and : {i : List Terminal} {d : ℕ} → OpensSigBinds i d → and_type (Some i) ≡ None
opens_sig_binds-and (in_sig_bind p (module_id q x) o) = refl
opens_sig_binds-and (past_sig_bind p q (module_id r x) g o) = refl

opens_fun_binds-and : {f : Fixity} {i : List Terminal} {d : ℕ} → OpensFunBinds f i d → and_type (Some i) ≡ None
opens_fun_binds-and (in_parameter p (module_id q x) o) = refl
opens_fun_binds-and (in_result p q (module_id r x) a u o) = refl
opens_fun_binds-and (in_fun_body p q r (module_id t x) a g o) = refl
opens_fun_binds-and (past_fun_bind w (fun_bind p q r (module_id t x) a g s) o) = refl

opens_top-calm : {f : Fixity} {fresh : Bool} {i : List Terminal} {d : ℕ} → OpensTop f fresh i d → fresh ≡ false → calm i ≡ true
opens_top-calm (in_declaration o) e = (opens_dec-begins o).calm
opens_top-calm (in_signatures p o) e = refl
opens_top-calm (in_functors p o) e = refl
opens_top-calm (in_expression o) e = not_false e

opens_tops-calm : {f : Fixity} {fresh : Bool} {i : List Terminal} {d : ℕ} → OpensTops f fresh i d → fresh ≡ false → calm i ≡ true
opens_tops-calm (past_no_top p o) e = refl
opens_tops-calm (in_top o) e = opens_top-calm o e
opens_tops-calm {i} (past_top t o) e = top-calm 0 t e

module _ (n : ℕ) where
  sig-turns : {i : List Terminal} {d : ℕ} → OpensSigBinds i d → n < d → (k : ℕ) → length i < k → many (sig_bind_turn n) k no_state i ≡ deep
  sig-turns o lt zero le = absurd (omega arith)
  sig-turns (in_sig_bind {i} {d} p (module_id q x) o) lt (suc k) le =
      let h : read_sig n i ≡ deep = sig-over n i d o lt in many-stop (sig_bind_turn n) k (rw h refl)
  sig-turns (past_sig_bind {g} p r (module_id q x) d o) lt (suc k) le =
      let e = opens_sig_binds-and o in
      let s = sig-shorter d in
      elim (sig-or n (read_sig n) (sig-complete n) (sig-over n) d (record { wheres = record { ty = refl; and_ = e }; none = refl })) [
        | inl h ↦ many-deep (sig_bind_turn n) k {put = λ xs. record { sigid = record { place = q; it = x }; sigexp = g } ∷ xs} (rw h refl) (sig-turns o lt k (omega arith))
        | inr h ↦ many-stop (sig_bind_turn n) k (rw h refl)
      ]

  -- functors

  spec-parameter : (p : ℕ) {i : List Terminal} {d : ℕ} → OpensSpecs i d → read_parameter n p i ≡ then_read (specs_from n (read_sig n) i) (λ xs m. read (spec_parameter p xs) m)
  spec-parameter p (past_no_spec r o) = refl
  spec-parameter p (in_spec (in_vals r o)) = refl
  spec-parameter p (in_spec (in_abbreviations r o)) = refl
  spec-parameter p (in_spec (in_data r o)) = refl
  spec-parameter p (in_spec (in_exceptions r o)) = refl
  spec-parameter p (in_spec (in_structures r o)) = refl
  spec-parameter p (in_spec (in_include r o)) = refl
  spec-parameter p (past_spec (of_val_spec r d) o) = refl
  spec-parameter p (past_spec (of_type_spec r d) o) = refl
  spec-parameter p (past_spec (of_abbreviation_spec r d) o) = refl
  spec-parameter p (past_spec (of_eqtype_spec r d) o) = refl
  spec-parameter p (past_spec (of_datatype_spec r d) o) = refl
  spec-parameter p (past_spec (of_replication_spec r s t v w) o) = refl
  spec-parameter p (past_spec (of_exception_spec r d) o) = refl
  spec-parameter p (past_spec (of_structure_spec r d) o) = refl
  spec-parameter p (past_spec (of_include r g) o) = refl
  spec-parameter p (past_spec (of_include_ids r v xs) o) = refl
  spec-parameter p (past_spec (of_sharing r s t v cs) o) = refl

  parameter-over : (p : ℕ) {i : List Terminal} {d : ℕ} → OpensParameter i d → n < d → read_parameter n p i ≡ deep
  parameter-over p (in_structure_parameter {i} {d} r (module_id q x) o) lt = let h : read_sig n i ≡ deep = sig-over n i d o lt in rw h refl
  parameter-over p {i} (in_spec_parameter o) lt =
      let h : specs_from n (read_sig n) i ≡ deep = specs-over n (read_sig n) (sig-complete n) (sig-over n) o lt in spec-parameter p o ∙ rw h refl

  parameter-or : (p q : ℕ) {i o : List Terminal} {a : Parameter} → ReadsParameter p i a (reserved q res.RightParen ∷ o) → ReadOrDeep (read_parameter n p i) a (reserved q res.RightParen ∷ o)
  parameter-or p q {a} d =
      elim (le_or (depth_parameter a) n) [
        | inl u ↦ inl (parameter-complete n p q d u)
        | inr u ↦ inr (parameter-over p (parameter-opens d (depth_parameter a) (omega arith) (omega arith)) u)
      ]

  module _ (f : Fixity) where
    fun-turns : {i : List Terminal} {d : ℕ} → OpensFunBinds f i d → n < d → (k : ℕ) → length i < k → many (fun_bind_turn n f) k no_state i ≡ deep
    fun-turns o lt zero le = absurd (omega arith)
    fun-turns (in_parameter {i} p (module_id t x) o) lt (suc k) le =
        let u : read_parameter n p i ≡ deep = parameter-over p o lt in many-stop (fun_bind_turn n f) k (rw u refl)
    fun-turns (in_result {u = s} {m} p q (module_id t x) ad v o) lt (suc k) le =
        let h : maybe_sig n (s ∷ m) ≡ deep = maybe-sig-over n v o lt in
        elim (parameter-or p q ad) [
          | inl u ↦ many-stop (fun_bind_turn n f) k (rw (u, h) refl)
          | inr u ↦ many-stop (fun_bind_turn n f) k (rw u refl)
        ]
    fun-turns (in_fun_body {n = j} {d} p q r (module_id t x) ad gd o) lt (suc k) le =
        let h : (str_readers n).str f j ≡ deep = (readers-over n).str f j d o lt in
        elim (parameter-or p q ad) [
          | inl u ↦ elim (maybe-sig-or n r gd) [
            | inl v ↦ many-stop (fun_bind_turn n f) k (rw (u, v, h) refl)
            | inr v ↦ many-stop (fun_bind_turn n f) k (rw (u, v) refl)
          ]
          | inr u ↦ many-stop (fun_bind_turn n f) k (rw u refl)
        ]
    fun-turns (past_fun_bind w (fun_bind {a} {g} {s} p q r (module_id t x) ad gd sd) o) lt (suc k) le =
        let e = opens_fun_binds-and o in
        let b = fun-bind-shorter (fun_bind p q r (module_id t x) ad gd sd) in
        elim (parameter-or p q ad) [
          | inl u ↦ elim (maybe-sig-or n r gd) [
            | inl v ↦ elim (str-or n (str_readers n).str (readers-complete n).str (readers-over n).str sd
                (record { sig = record { wheres = record { ty = refl; and_ = e }; none = refl }; none = refl; bracket = refl })) [
                  | inl h ↦ many-deep (fun_bind_turn n f) k {put = λ xs. record { funid = record { place = t; it = x }; parameter = a; result = g; body = s } ∷ xs}
                      (rw (u, v, h) refl) (fun-turns o lt k (omega arith))
                  | inr h ↦ many-stop (fun_bind_turn n f) k (rw (u, v, h) refl)
                ]
            | inr v ↦ many-stop (fun_bind_turn n f) k (rw (u, v) refl)
          ]
          | inr u ↦ many-stop (fun_bind_turn n f) k (rw u refl)
        ]

  -- a source's top

  inner-opened : (m : ℕ) (f : Fixity) (i : List Terminal) (d : ℕ) → OpensStrDecs f i d → m ≤ d → inner_decs m f i ≡ deep
  inner-opened zero f i d o le = refl
  inner-opened (suc m) f i d o le = (readers-over m).decs f i d o (omega arith)

  inner-none : (m : ℕ) → m < 1 → (f : Fixity) (i : List Terminal) → inner_decs m f i ≡ deep
  inner-none zero lt f i = refl
  inner-none (suc m) lt f i = absurd (omega arith)

  core-turn : (s : Standing) {f : Fixity} {i : List Terminal} {d : ℕ} → OpensDec f i d → top_turn n s i ≡ dec_then n s i
  core-turn s (in_val p h o) = refl
  core-turn s (in_fun p h o) = refl
  core-turn s (in_type p o) = refl
  core-turn s (in_datatype p o) = refl
  core-turn s (in_withtype p q d o) = refl
  core-turn s (in_exception p o) = refl
  core-turn s (begun_local p) = refl
  core-turn s (in_local p o) = refl
  core-turn s (in_local_body p q d o) = refl

  dec-turn : (s : Standing) {f : Fixity} {i : List Terminal} {d : ℕ} → OpensStrDec f i d → top_turn n s i ≡ dec_then n s i
  dec-turn s (in_core_dec e o) = core-turn s o
  dec-turn s (begun_local_str p) = refl
  dec-turn s (in_local_str p o) = refl
  dec-turn s (in_local_str_body p q d o) = refl
  dec-turn s (in_structure p o) = refl

  top-deep : {f : Fixity} {fresh : Bool} {i : List Terminal} {d : ℕ} → OpensTop f fresh i d → n < d → top_turn n (record { fix = f; fresh = fresh }) i ≡ deep
  top-deep {f} {fresh} {i} (in_declaration o) lt =
      let h : str_dec_by n (str_readers n).str (inner_decs n) f i ≡ deep =
      str-dec-over n (str_readers n).str (readers-complete n).str (readers-over n).str (inner_decs n) (inner-complete n)
      (record { opened = inner-opened n; none = inner-none n }) o lt in
      dec-turn (record { fix = f; fresh = fresh }) o ∙ rw h refl
  top-deep (in_signatures {i} p o) lt = let h : whole (sig_bind_turn n) no_state i ≡ deep = sig-turns o lt (suc (length i)) (omega arith) in rw h refl
  top-deep {f} (in_functors {i} p o) lt = let h : whole (fun_bind_turn n f) no_state i ≡ deep = fun-turns f o lt (suc (length i)) (omega arith) in rw h refl
  top-deep {f} {i} {d} (in_expression o) lt =
      let h : (readers n).exp f 0 i ≡ deep = (all-over n).exp f 0 i d o lt in exp-turn n f i (opens-begins o) ∙ rw h refl

  tops-over : {f : Fixity} {fresh : Bool} {i : List Terminal} {d : ℕ} → OpensTops f fresh i d → n < d → (k : ℕ) → length i < k
      → many (top_turn n) k (record { fix = f; fresh = fresh }) i ≡ deep
  tops-over o lt zero le = absurd (omega arith)
  tops-over (past_no_top p o) lt (suc k) le = many-deep (top_turn n) k {put = λ xs. xs} refl (tops-over o lt k (omega arith))
  tops-over (in_top o) lt (suc k) le = many-stop (top_turn n) k (top-deep o lt)
  tops-over {f} (past_top {m} {t} dt o) lt (suc k) le =
      elim (le_or (depth_top t) n) [
        | inl q ↦
            let h = one-top n dt q (λ e. opens_tops-calm o e) in
            let s = top-shorter dt in
            many-deep (top_turn n) k {put = λ xs. t ∷ xs} h (tops-over o lt k (omega arith))
        | inr q ↦ many-stop (top_turn n) k (top-deep (top-opens dt (depth_top t) (omega arith) (omega arith)) q)
      ]

pub deep-complete : laws.DeepComplete
deep-complete n f i o = tops-over n o (omega arith) (suc (length i)) (omega arith)

pub bad-sound : laws.BadSound
bad-sound n f i ts h d =
    elim (le_or (depth_tops ts) n) [
      | inl p ↦ let c : read_source n f i ≡ read ts [] = complete n f i ts (d, p) in absurd (cc)
      | inr p ↦ let c : read_source n f i ≡ deep = deep-complete n f i (tops-opens d (suc n) (omega arith) (omega arith)) in absurd (cc)
    ]

-- by the answer of the reading function
pub one-outcome : laws.OneOutcome
one-outcome n f i = (settled (read_source n f i) refl, apart)
  where
    settled : (a : Answer (List Top)) → read_source n f i ≡ a → Outcome n f i
    settled (ok r) e = is_source r.tree (sound n f i r.tree r.rest e)
    settled deep e = is_too_deep (deep-sound n f i e)
    settled bad e = is_wrong (λ ts d. bad-sound n f i ts e d) (λ o. let c = deep-complete n f i o in absurd (cc))

    apart : (ts : List Top) → IsTree n f i ts → OpensTops f true i (suc n) → ⊥
    apart ts t o = let a = complete n f i ts t in let b = deep-complete n f i o in absurd (cc)
