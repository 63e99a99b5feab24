-- What is too deep is told to be: declarations.
use Rattle.std.proofs.Common.{◌≡◌, ℕ, zero, suc, ◌≤◌, ◌<◌, List, ◌∷◌, length, Option, Some, None, false, inl, inr, refl, ◌∙◌, arith}
use Rattle.mlc_names.specs.declared.token.Reserved.TheVariants as res
use Rattle.sml_tree.specs.Terminal.{Terminal, reserved}
use Rattle.sml_tree.specs.declared.ident.Vid.{Vid}
use Rattle.sml_tree.specs.Fixity.{Fixity}
use Rattle.sml_tree.specs.ReadTree.{Ty, Pat, Head, Decs, dec, bind, rec_binds, clause, fun_and}
use Rattle.sml_tree.specs.Depth.{depth_pat, depth_head, depth_some, depth_data_binds, depth_decs, depth_dec, depth_clauses}
use Rattle.sml_tree.specs.Levels.{after}
use Rattle.sml_tree.specs.Grammar.{Pattern, ReadsHead, MaybeTy, without_ty, with_ty, Declares}
use Rattle.sml_grammar.specs.Answer.{deep, read, many}
use Rattle.sml_grammar.specs.Terminals.{no_state, after_word, infix_vid}
use Rattle.sml_grammar.specs.Types.{read_ty, maybe_ty}
use Rattle.sml_grammar.specs.Patterns.{begins_pat, read_pat, read_head}
use Rattle.sml_grammar.specs.Bindings.{read_type_binds, read_data_binds, read_ex_binds}
use Rattle.sml_grammar.specs.Expressions.{Reader, DecsReader, bind_turn, read_binds, Shape, shape_of, clause_turn, read_clauses, fun_turn, read_funs, dec_start, dec_by, dec_turn, decs_from}
use Rattle.sml_grammar.specs.Partial.{OpensDecs, past_empty, in_dec, past_dec, OpensDec, in_val, in_fun, in_type, in_datatype, in_withtype, in_exception, begun_local, in_local, in_local_body, OpensBinds, past_rec, in_bind_pat, in_bind, past_bind, OpensFuns, in_clauses, past_clauses, OpensClauses, in_head, in_result, in_clause, past_clause}
use Rattle.sml_grammar.proofs.Answers.{many-pass, le_or, many-deep, many-stop}
use Rattle.sml_grammar.proofs.CompFacts as facts
use Rattle.sml_grammar.proofs.CompShapes.{shorter, dec-shorter, clauses-shorter}
use Rattle.sml_grammar.proofs.CompQuiet.{plain-word, Ends, ends-in}
use Rattle.sml_grammar.proofs.CompLists.{CompleteExp}
use Rattle.sml_grammar.proofs.CompHeads.{begins_pat-no_rec, pat-no_rec, data-not_replicated, Agree, agree-none, agree-some, maybe-head}
use Rattle.sml_grammar.proofs.CompDecs.{CompleteInner, maybe-complete, clauses-whole, dec-step}
use Rattle.sml_grammar.proofs.CompPaths.{decs-opens, dec-opens, clauses-opens}
use Rattle.sml_grammar.proofs.CompBegins.{opens_dec-word, opens_decs-quiet, opens_data-not_replicated}
use Rattle.sml_grammar.proofs.CompOverLists.{OverExp, OverDecs, ReadOrDeep, exp-or, plain-or}

-- what reads the declarations in a `local`, where they are too deep, or where there is no room for any
pub record OverInner (n : ℕ) (inner : DecsReader) : Type 0 where
  pub opened : (f : Fixity) (i : List Terminal) (d : ℕ) → OpensDecs f i d → n ≤ d → inner f i ≡ deep
  pub none : n < 1 → (f : Fixity) (i : List Terminal) → inner f i ≡ deep

module _ (n : ℕ) where
  bound-or : {f : Fixity} {i m : List Terminal} {a : Pat} {p : ℕ} → Pattern f i a (reserved p res.Equals ∷ m) → ReadOrDeep (read_pat n f i) a (reserved p res.Equals ∷ m)
  bound-or {f} {a} da =
      elim (le_or (depth_pat a) n) [ inl q ↦ inl (facts.pat-complete-equals n da q) | inr q ↦ inr (facts.pat-over n f (facts.pat-opens da (depth_pat a) (omega arith) (omega arith)) q) ]

  head-or : {f : Fixity} {i m : List Terminal} {h : Head} → ReadsHead f i h m → begins_pat f m ≡ false → infix_vid f m ≡ None → ReadOrDeep (read_head n f i) h m
  head-or {f} {h} dh b c =
      elim (le_or (depth_head h) n) [ inl q ↦ inl (facts.head-complete n f dh q b c) | inr q ↦ inr (facts.head-over n f (facts.head-opens dh (depth_head h) (omega arith) (omega arith)) q) ]

  maybe-over : {m o : List Terminal} {s : Option Ty} → MaybeTy m s o → n < depth_some s → maybe_ty n (after_word res.Colon m) m ≡ deep
  maybe-over without_ty lt = absurd (omega arith)
  maybe-over (with_ty {i} {o} {a} p d) lt = let h : read_ty n 0 i ≡ deep = facts.ty-over n (facts.ty-opens d (depth_some (Some a)) (omega arith) (omega arith)) lt in rw h refl

  maybe-or : {m k : List Terminal} {p : ℕ} {s : Option Ty} → MaybeTy m s (reserved p res.Equals ∷ k) → ReadOrDeep (maybe_ty n (after_word res.Colon m) m) s (reserved p res.Equals ∷ k)
  maybe-or {s} d = elim (le_or (depth_some s) n) [ inl q ↦ inl (maybe-complete n d q refl refl) | inr q ↦ inr (maybe-over d q) ]

module _ (n : ℕ) (self : Reader) (complete : CompleteExp n self) (over : OverExp n self) where
  pub binds-over : {f : Fixity} {i : List Terminal} {d : ℕ} → OpensBinds f i d → n < d → (k : ℕ) → length i < k → many (bind_turn n self f) k no_state i ≡ deep
  binds-over o lt zero le = absurd (omega arith)
  binds-over {f} (past_rec {i} p o) lt (suc k) le = many-deep (bind_turn n self f) k {put = rec_binds} refl (binds-over o lt k (omega arith))
  binds-over {f} (in_bind_pat {i} o) lt (suc k) le =
      let r = begins_pat-no_rec f i (facts.opens_pat-begins o) in
      let g : read_pat n f i ≡ deep = facts.pat-over n f o lt in
      many-stop (bind_turn n self f) k (rw (r, g) refl)
  binds-over {f} (in_bind {i} {m} {a} {d} p da o) lt (suc k) le =
      let r = pat-no_rec da in
      elim (bound-or n da) [
        | inl g ↦ let h : self f 0 m ≡ deep = over f 0 m d o lt in many-stop (bind_turn n self f) k (rw (r, g, h) refl)
        | inr g ↦ many-stop (bind_turn n self f) k (rw (r, g) refl)
      ]
  binds-over {f} (past_bind {i} {m} {n = j} {a} {e} p q da de o) lt (suc k) le =
      let r = pat-no_rec da in
      let s = shorter de in let s2 = facts.pat-shorter da in
      elim (bound-or n da) [
        | inl g ↦ elim (plain-or n self complete over f m e q res.And j de refl) [
          | inl h ↦ many-deep (bind_turn n self f) k {put = bind a e} (rw (r, g, h) refl) (binds-over o lt k (omega arith))
          | inr h ↦ many-stop (bind_turn n self f) k (rw (r, g, h) refl)
        ]
        | inr g ↦ many-stop (bind_turn n self f) k (rw (r, g) refl)
      ]

  clauses-over : {f : Fixity} (s : Option Shape) {v : Vid} {c : ℕ} {i : List Terminal} {d : ℕ} → OpensClauses f v c i d → Agree s v c → n < d → (k : ℕ) → length i < k → many (clause_turn n self f) k s i ≡ deep
  clauses-over s o ag lt zero le = absurd (omega arith)
  clauses-over {f} s (in_head {i} o) ag lt (suc k) le = let g : read_head n f i ≡ deep = facts.head-over n f o lt in many-stop (clause_turn n self f) k (rw g refl)
  clauses-over {f} s (in_result {i} {m} {h} p dh a b o) ag lt (suc k) le =
      let same = ag h a b in
      elim (head-or n dh refl refl) [
        | inl g ↦ let t : read_ty n 0 m ≡ deep = facts.ty-over n o lt in many-stop (clause_turn n self f) k (rw (g, same, t) refl)
        | inr g ↦ many-stop (clause_turn n self f) k (rw g refl)
      ]
  clauses-over {f} s (in_clause {i} {m} {k = j} {h} {t} {d} p dh a b dt o) ag lt (suc k) le =
      let same = ag h a b in
      let w = maybe-head f dt refl refl in
      elim (head-or n dh w.0 w.1) [
        | inl g ↦ elim (maybe-or n dt) [
          | inl x ↦ let y : self f 0 j ≡ deep = over f 0 j d o lt in many-stop (clause_turn n self f) k (rw (g, same, x, y) refl)
          | inr x ↦ many-stop (clause_turn n self f) k (rw (g, same, x) refl)
        ]
        | inr g ↦ many-stop (clause_turn n self f) k (rw g refl)
      ]
  clauses-over {f} s {v} {c} (past_clause {i} {m} {k = j} {g = u} {h} {t} {e} p q dh a b dt ends de o) ag lt (suc k) le =
      let same = ag h a b in
      let w = maybe-head f dt refl refl in
      let s1 = facts.head-shorter dh in let s2 = facts.maybe-shorter dt in let s3 = shorter de in
      elim (head-or n dh w.0 w.1) [
        | inl g ↦ elim (maybe-or n dt) [
          | inl x ↦ elim (exp-or n self complete over f 0 j e (reserved q res.Bar ∷ u) de (omega arith) ends refl refl (λ z. refl)) [
            | inl y ↦ many-deep (clause_turn n self f) k {put = clause h t e} (rw (g, same, x, y) refl) (clauses-over (Some (shape_of h)) o (agree-some v c h a b) lt k (omega arith))
            | inr y ↦ many-stop (clause_turn n self f) k (rw (g, same, x, y) refl)
          ]
          | inr x ↦ many-stop (clause_turn n self f) k (rw (g, same, x) refl)
        ]
        | inr g ↦ many-stop (clause_turn n self f) k (rw g refl)
      ]

  pub clauses-deep : {f : Fixity} {v : Vid} {c : ℕ} {i : List Terminal} {d : ℕ} → OpensClauses f v c i d → n < d → read_clauses n self f i ≡ deep
  clauses-deep {v} {c} {i} o lt = clauses-over None o (agree-none v c) lt (suc (length i)) (omega arith)

  pub funs-over : {f : Fixity} {i : List Terminal} {d : ℕ} → OpensFuns f i d → n < d → (k : ℕ) → length i < k → many (fun_turn n self f) k no_state i ≡ deep
  funs-over o lt zero le = absurd (omega arith)
  funs-over {f} (in_clauses {i} v c o) lt (suc k) le = let h : read_clauses n self f i ≡ deep = clauses-deep o lt in many-stop (fun_turn n self f) k (rw h refl)
  funs-over {f} (past_clauses {i} {m} {cs} v c p dc o) lt (suc k) le =
      let s = clauses-shorter dc in
      elim (le_or (depth_clauses cs) n) [
        | inl x ↦
            let h : read_clauses n self f i ≡ read cs (reserved p res.And ∷ m) = clauses-whole n self complete dc x (plain-word f p res.And m refl) in
            many-deep (fun_turn n self f) k {put = fun_and cs} (rw h refl) (funs-over o lt k (omega arith))
        | inr x ↦
            let h : read_clauses n self f i ≡ deep = clauses-deep (clauses-opens dc (depth_clauses cs) (omega arith) (omega arith)) x in
            many-stop (fun_turn n self f) k (rw h refl)
      ]

  module _ (inner : DecsReader) (complete_inner : CompleteInner n inner) (over_inner : OverInner n inner) where
    -- the declarations of a `local` between it and its `in`
    inner-or : (f : Fixity) (i : List Terminal) (ds : Decs) (o : List Terminal) → Declares f i ds o → Ends o → ReadOrDeep (inner f i) ds o
    inner-or f i ds o d e =
        elim (le_or (suc (depth_decs ds)) n) [
          | inl x ↦ inl (complete_inner f i ds o d x e)
          | inr x ↦ elim (le_or 1 n) [
            | inl y ↦ inr (over_inner.opened f i (depth_decs ds) (decs-opens d (depth_decs ds) (omega arith) (omega arith)) (omega arith))
            | inr y ↦ inr (over_inner.none y f i)
          ]
        ]

    pub dec-over : {f : Fixity} {i : List Terminal} {d : ℕ} → OpensDec f i d → n < d → dec_by n self inner f (dec_start i) ≡ deep
    dec-over {f} (in_val {i} {m} p s o) lt = let h = facts.tyvars-found s in let g : read_binds n self f m ≡ deep = binds-over o lt (suc (length m)) (omega arith) in rw (h, g) refl
    dec-over {f} (in_fun {i} {m} p s o) lt = let h = facts.tyvars-found s in let g : read_funs n self f m ≡ deep = funs-over o lt (suc (length m)) (omega arith) in rw (h, g) refl
    dec-over (in_type {i} p o) lt = let g : read_type_binds n i ≡ deep = facts.type_binds-over n o lt in rw g refl
    dec-over {f} (in_datatype {i} p o) lt =
        let r = opens_data-not_replicated o in let g : read_data_binds n f i ≡ deep = facts.data_binds-over n f o lt in rw (r, g) refl
    dec-over {f} (in_withtype {i} {m} {bs} p q db o) lt =
        let r = data-not_replicated db in
        elim (le_or (depth_data_binds bs) n) [
          | inl x ↦
              let g : read_data_binds n f i ≡ read bs (reserved q res.Withtype ∷ m) = facts.data_binds-complete n f db x refl in
              let h : read_type_binds n m ≡ deep = facts.type_binds-over n o lt in
              rw (r, g, h) refl
          | inr x ↦ let g : read_data_binds n f i ≡ deep = facts.data_binds-over n f (facts.data_binds-opens db (depth_data_binds bs) (omega arith) (omega arith)) x in rw (r, g) refl
        ]
    dec-over {f} (in_exception {i} p o) lt = let g : read_ex_binds n f i ≡ deep = facts.ex_binds-over n f o lt in rw g refl
    dec-over {f} (begun_local {i} p) lt = let g : inner f i ≡ deep = over_inner.none lt f i in rw g refl
    dec-over {f} (in_local {i} {d} p o) lt = let g : inner f i ≡ deep = over_inner.opened f i d o (omega arith) in rw g refl
    dec-over {f} (in_local_body {i} {m} {ds} {d} p q dd o) lt =
        let h : inner (after f ds) m ≡ deep = over_inner.opened (after f ds) m d o (omega arith) in
        elim (inner-or f i ds (reserved q res.In ∷ m) dd (ends-in q m)) [ inl g ↦ rw (g, h) refl | inr g ↦ rw g refl ]

    dec-deep : {f : Fixity} {i : List Terminal} {d : ℕ} → OpensDec f i d → n < d → dec_turn n self inner f i ≡ deep
    dec-deep {f} {i} o lt =
        let w = opens_dec-word o in let a = w.semicolon in let b = w.starts in
        let h : dec_by n self inner f (dec_start i) ≡ deep = dec-over o lt in
        rw (a, b, h) refl

    decs-over : {f : Fixity} {i : List Terminal} {d : ℕ} → OpensDecs f i d → n < d → (k : ℕ) → length i < k → many (dec_turn n self inner) k f i ≡ deep
    decs-over o lt zero le = absurd (omega arith)
    decs-over {f} (past_empty {i} p o) lt (suc k) le = many-pass (dec_turn n self inner) k {s = f} {t = f} refl ∙ decs-over o lt k (omega arith)
    decs-over {f} (in_dec o) lt (suc k) le = many-stop (dec_turn n self inner) k (dec-deep o lt)
    decs-over {f} (past_dec {i} {m} {x} dx o) lt (suc k) le =
        let s = dec-shorter dx in
        elim (le_or (depth_dec x) n) [
          | inl p ↦ many-deep (dec_turn n self inner) k {put = dec x} (dec-step n self complete inner complete_inner dx p (opens_decs-quiet o)) (decs-over o lt k (omega arith))
          | inr p ↦ many-stop (dec_turn n self inner) k (dec-deep (dec-opens dx (depth_dec x) (omega arith) (omega arith)) p)
        ]

    pub from-decs-over : OverDecs n (decs_from n self inner)
    from-decs-over f i d o lt = decs-over o lt (suc (length i)) (omega arith)
