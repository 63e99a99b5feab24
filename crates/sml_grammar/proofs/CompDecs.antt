-- What is in the grammar, and not too deep, is read: declarations.
use Rattle.std.proofs.Common.{◌≡◌, ℕ, zero, suc, ◌≤◌, ◌<◌, List, ◌∷◌, length, Option, Some, None, true, false, refl, ◌∙◌, arith}
use Rattle.mlc_names.specs.declared.token.Reserved.TheVariants as res
use Rattle.sml_tree.specs.declared.ident.Vid.{Vid}
use Rattle.sml_tree.specs.Terminal.{Terminal, reserved}
use Rattle.sml_tree.specs.Fixity.{Fixity}
use Rattle.sml_tree.specs.ReadTree.{Ty, Head, Exp, Decs, dec, Dec, Binds, bind, rec_binds, Funs, fun_and, Clauses, last_clause, clause}
use Rattle.sml_tree.specs.Depth.{depth_some, depth_decs, depth_dec, depth_binds, depth_funs, depth_clauses}
use Rattle.sml_tree.specs.Levels.{after, after_dec}
use Rattle.sml_tree.specs.Grammar.{MaybeTy, without_ty, with_ty, Declares, nothing_more, of_semicolon, of_dec, Declare, of_val, of_fun, of_type, of_datatype, of_withtype, of_replication, of_exception, of_local, of_open, of_infix, of_infixr, of_nonfix, ReadsBinds, of_last_bind, of_bind, of_rec, ReadsFuns, of_last_fun, of_fun_and, ReadsClauses, of_last_clause, of_clause}
use Rattle.sml_grammar.specs.Answer.{read, last, more, many}
use Rattle.sml_grammar.specs.Terminals.{no_state, after_word}
use Rattle.sml_grammar.specs.Types.{read_ty, maybe_ty, ty_could_go_on}
use Rattle.sml_grammar.specs.Patterns.{read_pat, read_head}
use Rattle.sml_grammar.specs.Bindings.{read_tyvars, read_type_binds, read_data_binds, read_ex_binds, read_strids, read_vids}
use Rattle.sml_grammar.specs.Expressions.{Reader, DecsReader, bind_turn, read_binds, Shape, shape_of, agrees, clause_turn, read_clauses, fun_turn, read_funs, dec_start, is_dec_start, dec_by, dec_turn, infix_directive, decs_from}
use Rattle.sml_grammar.proofs.Answers.{many-pass, many-last, many-more}
use Rattle.sml_grammar.proofs.Terminals.{tycon-found, long_tycon-found}
use Rattle.sml_grammar.proofs.CompFacts.{quiet, ends_binds}
use Rattle.sml_grammar.proofs.CompFacts as facts
use Rattle.sml_grammar.proofs.CompShapes.{shorter, dec-shorter, clauses-shorter}
use Rattle.sml_grammar.proofs.CompQuiet.{Plain, plain-word, quiet-is, decs-quiet, Ends, ends-in, ends-end, no-bar}
use Rattle.sml_grammar.proofs.CompLists.{CompleteExp, CompleteDecs, plain-exp}
use Rattle.sml_grammar.proofs.CompHeads.{pat-no_rec, binds-tyvars, funs-tyvars, data-not_replicated, Agree, agree-none, agree-some, maybe-head}

quiet-ends : (o : List Terminal) → quiet o ≡ true → ends_binds o ≡ true
quiet-ends (reserved p res.Withtype ∷ r) h = refl
quiet-ends _ h = h

dec-no_semicolon : {f : Fixity} {i o : List Terminal} {d : Dec} → Declare f i d o → (after_word res.Semicolon i ≡ None) × (is_dec_start (dec_start i) ≡ true)
dec-no_semicolon (of_val p a s b) = (refl, refl)
dec-no_semicolon (of_fun p a s b) = (refl, refl)
dec-no_semicolon (of_type p b) = (refl, refl)
dec-no_semicolon (of_datatype p b) = (refl, refl)
dec-no_semicolon (of_withtype p q b c) = (refl, refl)
dec-no_semicolon (of_replication p q r t c) = (refl, refl)
dec-no_semicolon (of_exception p b) = (refl, refl)
dec-no_semicolon (of_local p q r d e) = (refl, refl)
dec-no_semicolon (of_open p d) = (refl, refl)
dec-no_semicolon (of_infix p n d) = (refl, refl)
dec-no_semicolon (of_infixr p n d) = (refl, refl)
dec-no_semicolon (of_nonfix p d) = (refl, refl)

-- what reads the declarations in a `local`
abbrev pub CompleteInner : ℕ → DecsReader → Type 0
CompleteInner n inner = (f : Fixity) (i : List Terminal) (ds : Decs) (o : List Terminal) → Declares f i ds o → depth_decs ds < n → Ends o → inner f i ≡ read ds o

module _ (n : ℕ) where
  pub maybe-complete : {m o : List Terminal} {s : Option Ty} → MaybeTy m s o → depth_some s ≤ n → after_word res.Colon o ≡ None → ty_could_go_on 0 o ≡ false → maybe_ty n (after_word res.Colon m) m ≡ read s o
  maybe-complete without_ty le c y = rw c refl
  maybe-complete (with_ty {i} {o} {a} p d) le c y = let h : read_ty n 0 i ≡ read a o = facts.ty-complete n d le y in rw h refl

module _ (n : ℕ) (self : Reader) (complete : CompleteExp n self) where
  pub binds-complete : {f : Fixity} {i o : List Terminal} {bs : Binds} → ReadsBinds f i bs o → depth_binds bs ≤ n → Plain f o → after_word res.And o ≡ None → (k : ℕ) → length i < k →
      many (bind_turn n self f) k no_state i ≡ read bs o
  binds-complete d le q c zero lt = absurd (omega arith)
  binds-complete {f} (of_last_bind {i} {m} {o} {a} {e} p da d) le q c (suc k) lt =
      let r = pat-no_rec da in
      let g : read_pat n f i ≡ read a (reserved p res.Equals ∷ m) = facts.pat-complete-equals n da (omega arith) in
      let h : self f 0 m ≡ read e o = plain-exp n self complete f m e o d (omega arith) q in
      many-last (bind_turn n self f) k (rw (r, g, h, c) refl)
  binds-complete {f} (of_bind {i} {m} {n = j} {o} {a} {e} {bs} p t da d db) le q c (suc k) lt =
      let r = pat-no_rec da in
      let g : read_pat n f i ≡ read a (reserved p res.Equals ∷ m) = facts.pat-complete-equals n da (omega arith) in
      let h : self f 0 m ≡ read e (reserved t res.And ∷ j) = plain-exp n self complete f m e (reserved t res.And ∷ j) d (omega arith) (plain-word f t res.And j refl) in
      let s = shorter d in
      let s2 = facts.pat-shorter da in
      let z : many (bind_turn n self f) k no_state j ≡ read bs o = binds-complete db (omega arith) q c k (omega arith) in
      many-more (bind_turn n self f) k {put = bind a e} (rw (r, g, h) refl) z
  binds-complete {f} (of_rec {i} {o} {bs} p db) le q c (suc k) lt =
      let z : many (bind_turn n self f) k no_state i ≡ read bs o = binds-complete db le q c k (omega arith) in
      many-more (bind_turn n self f) k {put = rec_binds} refl z

  -- a clause up to its body
  clause-step : (f : Fixity) (s : Option Shape) (i : List Terminal) {m k o : List Terminal} {h : Head} {t : Option Ty} {e : Exp} (p : ℕ) → read_head n f i ≡ read h m → agrees s h ≡ true →
      maybe_ty n (after_word res.Colon m) m ≡ read t (reserved p res.Equals ∷ k) → self f 0 k ≡ read e o → after_word res.Bar o ≡ None → clause_turn n self f s i ≡ read (last (last_clause h t e)) o
  clause-step f s i p a b c d g = rw (a, b, c, d, g) refl

  clause-more : (f : Fixity) (s : Option Shape) (i : List Terminal) {m k g : List Terminal} {h : Head} {t : Option Ty} {e : Exp} (p q : ℕ) → read_head n f i ≡ read h m → agrees s h ≡ true →
      maybe_ty n (after_word res.Colon m) m ≡ read t (reserved p res.Equals ∷ k) → self f 0 k ≡ read e (reserved q res.Bar ∷ g) → clause_turn n self f s i ≡ read (more (clause h t e) (Some (shape_of h))) g
  clause-more f s i p q a b c d = rw (a, b, c, d) refl

  pub clauses-complete : {f : Fixity} (s : Option Shape) {v : Vid} {c : ℕ} {i o : List Terminal} {cs : Clauses} → ReadsClauses f v c i cs o → Agree s v c → depth_clauses cs ≤ n → Plain f o → (k : ℕ) → length i < k →
      many (clause_turn n self f) k s i ≡ read cs o
  clauses-complete s d ag le q zero lt = absurd (omega arith)
  clauses-complete {f} s (of_last_clause {i} {m} {k = j} {o} {h} {s = t} {e} p dh a b dt d) ag le q (suc k) lt =
      let w = maybe-head f dt refl refl in
      let x : read_head n f i ≡ read h m = facts.head-complete n f dh (omega arith) w.0 w.1 in
      let y = maybe-complete n dt (omega arith) refl refl in
      let z : self f 0 j ≡ read e o = plain-exp n self complete f j e o d (omega arith) q in
      many-last (clause_turn n self f) k (clause-step f s i p x (ag h a b) y z (no-bar o q.bar))
  clauses-complete {f} s {v} {c} (of_clause {i} {m} {k = j} {g} {o} {h} {s = t} {e} {cs} p r dh a b dt ends d dc) ag le q (suc k) lt =
      let w = maybe-head f dt refl refl in
      let x : read_head n f i ≡ read h m = facts.head-complete n f dh (omega arith) w.0 w.1 in
      let y = maybe-complete n dt (omega arith) refl refl in
      let z : self f 0 j ≡ read e (reserved r res.Bar ∷ g) = complete f 0 j e (reserved r res.Bar ∷ g) d (omega arith) (omega arith) ends refl refl (λ u. refl) in
      let s1 = facts.head-shorter dh in let s2 = facts.maybe-shorter dt in let s3 = shorter d in
      let u : many (clause_turn n self f) k (Some (shape_of h)) g ≡ read cs o = clauses-complete (Some (shape_of h)) dc (agree-some v c h a b) (omega arith) q k (omega arith) in
      many-more (clause_turn n self f) k {put = clause h t e} (clause-more f s i p r x (ag h a b) y z) u

  pub clauses-whole : {f : Fixity} {v : Vid} {c : ℕ} {i o : List Terminal} {cs : Clauses} → ReadsClauses f v c i cs o → depth_clauses cs ≤ n → Plain f o → read_clauses n self f i ≡ read cs o
  clauses-whole {v} {c} {i} d le q = clauses-complete None d (agree-none v c) le q (suc (length i)) (omega arith)

  pub funs-complete : {f : Fixity} {i o : List Terminal} {fs : Funs} → ReadsFuns f i fs o → depth_funs fs ≤ n → Plain f o → after_word res.And o ≡ None → (k : ℕ) → length i < k →
      many (fun_turn n self f) k no_state i ≡ read fs o
  funs-complete d le q c zero lt = absurd (omega arith)
  funs-complete {f} (of_last_fun {i} {o} {cs} v m d) le q c (suc k) lt =
      let h : read_clauses n self f i ≡ read cs o = clauses-whole d le q in many-last (fun_turn n self f) k (rw (h, c) refl)
  funs-complete {f} (of_fun_and {i} {m} {o} {cs} {fs} v c' p d ds) le q c (suc k) lt =
      let h : read_clauses n self f i ≡ read cs (reserved p res.And ∷ m) = clauses-whole d (omega arith) (plain-word f p res.And m refl) in
      let s = clauses-shorter d in
      let z : many (fun_turn n self f) k no_state m ≡ read fs o = funs-complete ds (omega arith) q c k (omega arith) in
      many-more (fun_turn n self f) k {put = fun_and cs} (rw h refl) z

  module _ (inner : DecsReader) (complete_inner : CompleteInner n inner) where
    pub dec-complete : {f : Fixity} {i o : List Terminal} {d : Dec} → Declare f i d o → depth_dec d ≤ n → quiet o ≡ true → dec_by n self inner f (dec_start i) ≡ read d o
    dec-complete {f} (of_val {i} {m} {o} {as_} {bs} p da s d) le e =
        let q = quiet-is f o e in
        let g : read_tyvars i ≡ read as_ m = facts.tyvars-complete da (binds-tyvars d) in let at = facts.place-found s in
        let h : read_binds n self f m ≡ read bs o = binds-complete d le q.plain q.and_ (suc (length m)) (omega arith) in
        rw (g, at, h) refl
    dec-complete {f} (of_fun {i} {m} {o} {as_} {fs} p da s d) le e =
        let q = quiet-is f o e in
        let g : read_tyvars i ≡ read as_ m = facts.tyvars-complete da (funs-tyvars d) in let at = facts.place-found s in
        let h : read_funs n self f m ≡ read fs o = funs-complete d le q.plain q.and_ (suc (length m)) (omega arith) in
        rw (g, at, h) refl
    dec-complete (of_type {i} {o} {bs} p d) le e = let h : read_type_binds n i ≡ read bs o = facts.type_binds-complete n d le e in rw h refl
    dec-complete {f} (of_datatype {i} {o} {bs} p d) le e =
        let q = quiet-is f o e in
        let g = data-not_replicated d in
        let h : read_data_binds n f i ≡ read bs o = facts.data_binds-complete n f d le (quiet-ends o e) in
        let w = q.withtype in
        rw (g, h, w) refl
    dec-complete {f} (of_withtype {i} {m} {o} {bs} {cs} p r d d2) le e =
        let g = data-not_replicated d in
        let h : read_data_binds n f i ≡ read bs (reserved r res.Withtype ∷ m) = facts.data_binds-complete n f d (omega arith) refl in
        let z : read_type_binds n m ≡ read cs o = facts.type_binds-complete n d2 (omega arith) e in
        rw (g, h, z) refl
    dec-complete (of_replication {t} {u} {o} p q r tc lc) le e =
        let g = tycon-found tc (reserved q res.Equals ∷ reserved r res.Datatype ∷ u ∷ o) in
        let h = long_tycon-found lc o in
        rw (g, h) refl
    dec-complete {f} (of_exception {i} {o} {bs} p d) le e = let h : read_ex_binds n f i ≡ read bs o = facts.ex_binds-complete n f d le e in rw h refl
    dec-complete {f} (of_local {i} {m} {o} {ds} {es} p q r d d2) le e =
        let g : inner f i ≡ read ds (reserved q res.In ∷ m) = complete_inner f i ds (reserved q res.In ∷ m) d (omega arith) (ends-in q m) in
        let h : inner (after f ds) m ≡ read es (reserved r res.End ∷ o) = complete_inner (after f ds) m es (reserved r res.End ∷ o) d2 (omega arith) (ends-end r o) in
        rw (g, h) refl
    dec-complete {f} (of_open {i} {o} {xs} p d) le e =
        let q = quiet-is f o e in
        let h : read_strids i ≡ read xs o = facts.strids-complete d q.strid in
        rw h refl
    dec-complete {f} (of_infix {i} {m} {o} {d = x} {xs} p dn d) le e =
        let q = quiet-is f o e in
        let h : read_vids m ≡ read xs o = facts.vids-complete d q.vid in
        facts.precedence-complete (infix_directive p false) dn (facts.vids-no_digit d) ∙ rw h refl
    dec-complete {f} (of_infixr {i} {m} {o} {d = x} {xs} p dn d) le e =
        let q = quiet-is f o e in
        let h : read_vids m ≡ read xs o = facts.vids-complete d q.vid in
        facts.precedence-complete (infix_directive p true) dn (facts.vids-no_digit d) ∙ rw h refl
    dec-complete {f} (of_nonfix {i} {o} {xs} p d) le e =
        let q = quiet-is f o e in
        let h : read_vids i ≡ read xs o = facts.vids-complete d q.vid in
        rw h refl

    -- a turn that reads a declaration
    pub dec-step : {f : Fixity} {i o : List Terminal} {d : Dec} → Declare f i d o → depth_dec d ≤ n → quiet o ≡ true → dec_turn n self inner f i ≡ read (more (dec d) (after_dec f d)) o
    dec-step {f} {i} {o} {d} dd le e =
        let w = dec-no_semicolon dd in let a = w.0 in let b = w.1 in
        let h : dec_by n self inner f (dec_start i) ≡ read d o = dec-complete dd le e in
        rw (a, b, h) refl

    pub decs-complete : {f : Fixity} {i o : List Terminal} {ds : Decs} → Declares f i ds o → depth_decs ds ≤ n → Ends o → (k : ℕ) → length i < k → many (dec_turn n self inner) k f i ≡ read ds o
    decs-complete d le e zero lt = absurd (omega arith)
    decs-complete {f} (nothing_more {o}) le e (suc k) lt = let a = e.semicolon in let b = e.no_dec in many-last (dec_turn n self inner) k (rw (a, b) refl)
    decs-complete {f} (of_semicolon {i} {o} {ds} p d) le e (suc k) lt = many-pass (dec_turn n self inner) k {s = f} {t = f} refl ∙ decs-complete d le e k (omega arith)
    decs-complete {f} (of_dec {i} {m} {o} {d} {ds} dd dds) le e (suc k) lt =
        let s = dec-shorter dd in
        let z : many (dec_turn n self inner) k (after_dec f d) m ≡ read ds o = decs-complete dds (omega arith) e k (omega arith) in
        many-more (dec_turn n self inner) k {put = dec d} (dec-step dd (omega arith) (decs-quiet dds e.quiet)) z

    pub from-decs-complete : CompleteDecs n (decs_from n self inner)
    from-decs-complete f i ds o d le e = decs-complete d le e (suc (length i)) (omega arith)
