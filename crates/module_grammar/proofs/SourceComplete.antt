-- Sources that are in the grammar, and not too deep, are read; so no text has two trees.
use Rattle.std.proofs.Common.{◌≡◌, ℕ, zero, suc, ◌≤◌, ◌<◌, List, [], ◌∷◌, length, Some, None, Bool, true, false, refl, sym, ◌∙◌, arith, max}
use Rattle.mlc_names.specs.declared.token.Reserved.TheVariants as res
use Rattle.sml_tree.specs.Terminal.{Terminal, reserved}
use Rattle.sml_tree.specs.Fixity.{Fixity}
use Rattle.sml_tree.specs.ReadTree.{Dec}
use Rattle.sml_tree.specs.Grammar.{Declare, of_val, of_fun, of_type, of_datatype, of_withtype, of_replication, of_exception, of_local, of_open, of_infix, of_infixr, of_nonfix}
use Rattle.sml_grammar.specs.Answer.{Answer, Turn, read, then_read, many, whole}
use Rattle.sml_grammar.specs.Terminals.{after_word, no_state}
use Rattle.sml_grammar.specs.Expressions.{begins, readers}
use Rattle.sml_grammar.proofs.Answers.{not_true, not_false, many-last, many-more, parts}
use Rattle.sml_grammar.proofs.CompQuiet.{plain-word, reads-begins}
use Rattle.sml_grammar.proofs.CompLists.{plain-exp}
use Rattle.sml_grammar.proofs.CompMain.{exp-complete}
use Rattle.module_tree.specs.ReadModules.{Specs, StrDecs, StrDec, Parameter, spec_parameter, FunBind, SigBind, Top, str_top}
use Rattle.module_tree.specs.Scope.{after_top}
use Rattle.module_tree.specs.ModuleDepth.{depth_str_decs, depth_parameter, depth_fun_binds, depth_sig_binds, depth_top, depth_tops}
use Rattle.module_tree.specs.ModuleGrammar.{module_id, ReadsSpecs, no_more_specs, spec_semicolon, of_spec, of_val_spec, of_type_spec, of_abbreviation_spec, of_eqtype_spec, of_datatype_spec, of_replication_spec, of_exception_spec, of_structure_spec, of_include, of_include_ids, of_sharing, ReadsStrDecs, ReadsStrDec, of_core_dec, of_structure, of_local_str, SigBinds, last_sig_bind, more_sig_binds, ReadsParameter, of_structure_parameter, of_spec_parameter, fun_bind, FunBinds, last_fun_bind, more_fun_binds, ReadsTop, of_str_top, of_signature, of_functor, of_exp_top, ends_in_semicolon, ReadsTops, no_more_tops, top_semicolon, of_top}
use Rattle.module_grammar.specs.Laws as laws
use Rattle.module_grammar.specs.Laws.{IsTree}
use Rattle.module_grammar.specs.Signatures.{and_type, read_sig, specs_from}
use Rattle.module_grammar.specs.Structures.{str_readers, str_dec_by}
use Rattle.module_grammar.specs.Sources.{sig_bind_turn, read_parameter, fun_bind_turn, inner_decs, Standing, exp_by, after_one, top_turn}
use Rattle.module_grammar.proofs.Shorter.{sig-shorter, fun-bind-shorter, top-shorter}
use Rattle.module_grammar.proofs.SigComplete.{SigStops, bracket-stops, specs-whole, sig-complete}
use Rattle.module_grammar.proofs.StrComplete.{StrStops, calm, calm-stops, dec-begins, DecsEnd, maybe-sig-complete, str-dec-complete, readers-complete}

-- signatures

sig-binds-and : {i o : List Terminal} {bs : List SigBind} → SigBinds i bs o → and_type (Some i) ≡ None
sig-binds-and (last_sig_bind p (module_id q x) g) = refl
sig-binds-and (more_sig_binds p q (module_id r x) g bs) = refl

fun-binds-and : {f : Fixity} {i o : List Terminal} {bs : List FunBind} → FunBinds f i bs o → and_type (Some i) ≡ None
fun-binds-and (last_fun_bind (fun_bind p q r (module_id t x) a g s)) = refl
fun-binds-and (more_fun_binds u (fun_bind p q r (module_id t x) a g s) bs) = refl

module _ (n : ℕ) where
  sig-turns : {i o : List Terminal} {bs : List SigBind} → SigBinds i bs o → depth_sig_binds bs ≤ n → SigStops o → after_word res.And o ≡ None
      → (k : ℕ) → length i < k → many (sig_bind_turn n) k no_state i ≡ read bs o
  sig-turns d le st c zero lt = absurd (omega arith)
  sig-turns (last_sig_bind {i} {o} {g} p (module_id q x) d) le st c (suc k) lt =
      let h : read_sig n i ≡ read g o = sig-complete n i g o d (omega arith) st in
      many-last (sig_bind_turn n) k (rw (h, c) refl)
  sig-turns (more_sig_binds {i} {m} {o} {g} {bs} p r (module_id q x) d more) le st c (suc k) lt =
      let e = sig-binds-and more in
      let h : read_sig n i ≡ read g (reserved r res.And ∷ m) =
      sig-complete n i g (reserved r res.And ∷ m) d (omega arith) (record { wheres = record { ty = refl; and_ = e }; none = refl }) in
      let s = sig-shorter d in
      let z : many (sig_bind_turn n) k no_state m ≡ read bs o = sig-turns more (omega arith) st c k (omega arith) in
      many-more (sig_bind_turn n) k {put = λ xs. record { sigid = record { place = q; it = x }; sigexp = g } ∷ xs} (rw h refl) z

  -- functors

  spec-parameter : (p q : ℕ) {i o : List Terminal} {ss : Specs} → ReadsSpecs i ss (reserved q res.RightParen ∷ o)
      → read_parameter n p i ≡ then_read (specs_from n (read_sig n) i) (λ xs m. read (spec_parameter p xs) m)
  spec-parameter p q no_more_specs = refl
  spec-parameter p q (spec_semicolon r d) = refl
  spec-parameter p q (of_spec (of_val_spec r d) ds) = refl
  spec-parameter p q (of_spec (of_type_spec r d) ds) = refl
  spec-parameter p q (of_spec (of_abbreviation_spec r d) ds) = refl
  spec-parameter p q (of_spec (of_eqtype_spec r d) ds) = refl
  spec-parameter p q (of_spec (of_datatype_spec r d) ds) = refl
  spec-parameter p q (of_spec (of_replication_spec r s t v w) ds) = refl
  spec-parameter p q (of_spec (of_exception_spec r d) ds) = refl
  spec-parameter p q (of_spec (of_structure_spec r d) ds) = refl
  spec-parameter p q (of_spec (of_include r g) ds) = refl
  spec-parameter p q (of_spec (of_include_ids r v xs) ds) = refl
  spec-parameter p q (of_spec (of_sharing r s t v cs) ds) = refl

  pub parameter-complete : (p q : ℕ) {i o : List Terminal} {a : Parameter} → ReadsParameter p i a (reserved q res.RightParen ∷ o) → depth_parameter a ≤ n
      → read_parameter n p i ≡ read a (reserved q res.RightParen ∷ o)
  parameter-complete p q {o} (of_structure_parameter {i} {g} r (module_id s x) d) le =
      let h : read_sig n i ≡ read g (reserved q res.RightParen ∷ o) =
      sig-complete n i g (reserved q res.RightParen ∷ o) d le (record { wheres = record { ty = refl; and_ = refl }; none = refl }) in
      rw h refl
  parameter-complete p q {i} {o} (of_spec_parameter {ss} d) le =
      let h : specs_from n (read_sig n) i ≡ read ss (reserved q res.RightParen ∷ o) = specs-whole n (read_sig n) (sig-complete n) d le (bracket-stops q o) in
      spec-parameter p q d ∙ rw h refl

  module _ (f : Fixity) where
    fun-turns : {i o : List Terminal} {bs : List FunBind} → FunBinds f i bs o → depth_fun_binds bs ≤ n → StrStops o → after_word res.And o ≡ None
        → (k : ℕ) → length i < k → many (fun_bind_turn n f) k no_state i ≡ read bs o
    fun-turns d le st c zero lt = absurd (omega arith)
    fun-turns (last_fun_bind {o} (fun_bind {i} {m} {n = j} {x} {a} {g} {s} p q r (module_id t y) ad gd sd)) le st c (suc k) lt =
        let u = parameter-complete p q ad (omega arith) in
        let v = maybe-sig-complete n r gd (omega arith) in
        let h : (str_readers n).str f j ≡ read s o = (readers-complete n).str f j s o sd (omega arith) st in
        many-last (fun_bind_turn n f) k (rw (u, v, h, c) refl)
    fun-turns (more_fun_binds {m = l} {o} {bs} w (fun_bind {i} {m} {n = j} {x} {a} {g} {s} p q r (module_id t y) ad gd sd) more) le st c (suc k) lt =
        let u = parameter-complete p q ad (omega arith) in
        let v = maybe-sig-complete n r gd (omega arith) in
        let e = fun-binds-and more in
        let h : (str_readers n).str f j ≡ read s (reserved w res.And ∷ l) = (readers-complete n).str f j s (reserved w res.And ∷ l) sd (omega arith)
        (record { sig = record { wheres = record { ty = refl; and_ = e }; none = refl }; none = refl; bracket = refl }) in
        let b = fun-bind-shorter (fun_bind p q r (module_id t y) ad gd sd) in
        let z : many (fun_bind_turn n f) k no_state l ≡ read bs o = fun-turns more (omega arith) st c k (omega arith) in
        many-more (fun_bind_turn n f) k {put = λ xs. record { funid = record { place = t; it = y }; parameter = a; result = g; body = s } ∷ xs}
        (rw (u, v, h) refl) z

  -- what a turn at a source's top does

  abbrev pub dec_then : Standing → List Terminal → Answer (Turn (List Top) Standing)
  dec_then s i = then_read (then_read (str_dec_by n (str_readers n).str (inner_decs n) s.fix i) (λ d o. read (str_top d) o)) (after_one s)

  core-turn : (s : Standing) {f : Fixity} {i o : List Terminal} {d : Dec} → Declare f i d o → top_turn n s i ≡ dec_then s i
  core-turn s (of_val p a b c) = refl
  core-turn s (of_fun p a b c) = refl
  core-turn s (of_type p b) = refl
  core-turn s (of_datatype p b) = refl
  core-turn s (of_withtype p q b c) = refl
  core-turn s (of_replication p q r t c) = refl
  core-turn s (of_exception p b) = refl
  core-turn s (of_local p q r d e) = refl
  core-turn s (of_open p d) = refl
  core-turn s (of_infix p m d) = refl
  core-turn s (of_infixr p m d) = refl
  core-turn s (of_nonfix p d) = refl

  dec-turn : (s : Standing) {f : Fixity} {i o : List Terminal} {d : StrDec} → ReadsStrDec f i d o → top_turn n s i ≡ dec_then s i
  dec-turn s (of_core_dec d) = core-turn s d
  dec-turn s (of_structure p b) = refl
  dec-turn s (of_local_str p q r d e m) = refl

  pub exp-turn : (f : Fixity) (i : List Terminal) → begins f 0 i ≡ true
      → top_turn n (record { fix = f; fresh = true }) i ≡ then_read (exp_by n f i) (after_one (record { fix = f; fresh = true }))
  exp-turn f [] h = not_true h
  exp-turn f (reserved p res.Semicolon ∷ r) h = not_true h
  exp-turn f (reserved p res.Signature ∷ r) h = not_true h
  exp-turn f (reserved p res.Functor ∷ r) h = not_true h
  exp-turn f (reserved p res.Structure ∷ r) h = not_true h
  exp-turn f (reserved p res.Val ∷ r) h = not_true h
  exp-turn f (reserved p res.Fun ∷ r) h = not_true h
  exp-turn f (reserved p res.TypeWord ∷ r) h = not_true h
  exp-turn f (reserved p res.Datatype ∷ r) h = not_true h
  exp-turn f (reserved p res.Exception ∷ r) h = not_true h
  exp-turn f (reserved p res.Local ∷ r) h = not_true h
  exp-turn f (reserved p res.Open ∷ r) h = not_true h
  exp-turn f (reserved p res.Infix ∷ r) h = not_true h
  exp-turn f (reserved p res.Infixr ∷ r) h = not_true h
  exp-turn f (reserved p res.Nonfix ∷ r) h = not_true h
  exp-turn f _ h = refl

  pub inner-complete : (f : Fixity) (i : List Terminal) (ds : StrDecs) (o : List Terminal) → ReadsStrDecs f i ds o → depth_str_decs ds < n → DecsEnd o
      → inner_decs n f i ≡ read ds o
  inner-complete f i ds o d lt en = go n lt
    where
      go : (m : ℕ) → depth_str_decs ds < m → inner_decs m f i ≡ read ds o
      go zero lt = absurd (omega arith)
      go (suc m) lt = (readers-complete m).decs f i ds o d (omega arith) en

  -- one phrase, before a `;`, another declaration or the end
  pub one-top : {f : Fixity} {fresh : Bool} {i m : List Terminal} {t : Top} → ReadsTop f fresh i t m → depth_top t ≤ n → (ends_in_semicolon t ≡ false → calm m ≡ true)
      → top_turn n (record { fix = f; fresh = fresh }) i ≡ after_one (record { fix = f; fresh = fresh }) t m
  one-top {f} {fresh} (of_str_top {i} {o} {d} dd) le c =
      let h : str_dec_by n (str_readers n).str (inner_decs n) f i ≡ read d o =
      str-dec-complete n (str_readers n).str (readers-complete n).str (inner_decs n) inner-complete dd le (calm-stops f o (c refl)) in
      dec-turn (record { fix = f; fresh = fresh }) dd ∙ rw h refl
  one-top {f} (of_signature {i} {o} {bs} p d) le c =
      let st = calm-stops f o (c refl) in
      let h : whole (sig_bind_turn n) no_state i ≡ read bs o = sig-turns d le st.str.sig st.quiet.and_ (suc (length i)) (omega arith) in
      rw h refl
  one-top {f} (of_functor {i} {o} {bs} p d) le c =
      let st = calm-stops f o (c refl) in
      let h : whole (fun_bind_turn n f) no_state i ≡ read bs o = fun-turns f d le st.str st.quiet.and_ (suc (length i)) (omega arith) in
      rw h refl
  one-top {f} (of_exp_top {i} {o} {e} p d) le c =
      let h : (readers n).exp f 0 i ≡ read e (reserved p res.Semicolon ∷ o) =
      plain-exp n (readers n).exp (exp-complete n) f i e (reserved p res.Semicolon ∷ o) d le (plain-word f p res.Semicolon o refl) in
      exp-turn f i (reads-begins 0 d (omega arith)) ∙ rw h refl

  pub top-calm : {f : Fixity} {fresh : Bool} {i o : List Terminal} {t : Top} → ReadsTop f fresh i t o → fresh ≡ false → calm i ≡ true
  top-calm (of_str_top d) e = (dec-begins d).calm
  top-calm (of_signature p d) e = refl
  top-calm (of_functor p d) e = refl
  top-calm (of_exp_top p d) e = not_false e

  tops-calm : {f : Fixity} {fresh : Bool} {i : List Terminal} {ts : List Top} → ReadsTops f fresh i ts → fresh ≡ false → calm i ≡ true
  tops-calm no_more_tops e = refl
  tops-calm (top_semicolon p d) e = refl
  tops-calm (of_top t d) e = top-calm t e

  tops-complete : {f : Fixity} {fresh : Bool} {i : List Terminal} {ts : List Top} → ReadsTops f fresh i ts → depth_tops ts ≤ n → (k : ℕ) → length i < k
      → many (top_turn n) k (record { fix = f; fresh = fresh }) i ≡ read ts []
  tops-complete d le zero lt = absurd (omega arith)
  tops-complete no_more_tops le (suc k) lt = many-last (top_turn n) k refl
  tops-complete {f} (top_semicolon {i} {ts} p d) le (suc k) lt =
      let z : many (top_turn n) k (record { fix = f; fresh = true }) i ≡ read ts [] = tops-complete d le k (omega arith) in
      many-more (top_turn n) k {put = λ xs. xs} refl z
  tops-complete {f} (of_top {m} {t} {ts} d more) le (suc k) lt =
      let h = one-top d (omega arith) (λ e. tops-calm more e) in
      let s = top-shorter d in
      let z : many (top_turn n) k (record { fix = after_top f t; fresh = ends_in_semicolon t }) m ≡ read ts [] = tops-complete more (omega arith) k (omega arith) in
      many-more (top_turn n) k {put = λ xs. t ∷ xs} h z

pub complete : laws.Complete
complete n f i ts d = tops-complete n d.0 d.1 (suc (length i)) (omega arith)

pub one-tree : laws.OneTree
one-tree f i ts us d e =
    let n = max (depth_tops ts) (depth_tops us) in
    let a = complete n f i ts (d, omega arith) in
    let b = complete n f i us (e, omega arith) in
    (parts (sym a ∙ b)).0
