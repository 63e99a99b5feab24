-- Lists of specifications that are too deep are told to be.
use Rattle.std.proofs.Common.{◌≡◌, ℕ, zero, suc, ◌<◌, List, ◌∷◌, length, Option, Some, None, false, inl, inr, refl, ◌∙◌, arith}
use Rattle.mlc_names.specs.declared.token.Reserved.TheVariants as res
use Rattle.sml_tree.specs.Terminal.{Terminal, reserved}
use Rattle.sml_tree.specs.ReadTree.{Ty}
use Rattle.sml_tree.specs.Depth.{depth_ty, depth_some}
use Rattle.sml_tree.specs.Grammar.{ReadsTy, MaybeOf}
use Rattle.sml_grammar.specs.Answer.{deep, read, many}
use Rattle.sml_grammar.specs.Terminals.{after_word, no_state}
use Rattle.sml_grammar.specs.Types.{read_ty, maybe_ty, ty_could_go_on}
use Rattle.sml_grammar.specs.Bindings.{read_tyvars}
use Rattle.sml_grammar.proofs.Answers.{le_or, many-deep, many-stop}
use Rattle.sml_grammar.proofs.Terminals.{vid-found, long_tycon-found}
use Rattle.sml_grammar.proofs.BindTyvars.{tyvars-complete, begins-place, place-found, bound, bound-step}
use Rattle.sml_grammar.proofs.BindOf.{of-read, of-over, of-opens}
use Rattle.sml_grammar.proofs.CompFacts as facts
use Rattle.sml_grammar.proofs.CompOverLists.{ReadOrDeep}
use Rattle.sml_grammar.proofs.TypeShapes.{ty-shorter}
use Rattle.sml_grammar.proofs.MaybeTypes.{of-shorter}
use Rattle.module_tree.specs.ReadModules.{ConDesc}
use Rattle.module_tree.specs.ModuleDepth.{depth_con_descs}
use Rattle.module_tree.specs.ModuleGrammar.{ConDescs, data_desc, one_where}
use Rattle.module_grammar.specs.Signatures.{val_desc_turn, con_desc_turn, read_con_descs, data_desc_turn, and_type, where_turn}
use Rattle.module_grammar.specs.PartialSignatures.{OpensVals, in_val_desc, past_val_desc, OpensConDescs, in_con_desc, past_con_desc, OpensDataDescs, in_data_desc, past_data_desc, OpensExDescs, in_ex_desc, past_ex_desc, OpensWheres, in_where, past_where}
use Rattle.module_grammar.proofs.Shorter.{one-data-shorter, where-shorter}
use Rattle.module_grammar.proofs.SpecComplete.{cons-complete, long-tyvars}
use Rattle.module_grammar.proofs.Paths.{cons-opens}

-- a list of `where type` begins with `type`
opens_wheres-begin : {i : List Terminal} {d : ℕ} → OpensWheres i d → and_type (Some i) ≡ Some i
opens_wheres-begin (in_where p r d c o) = refl
opens_wheres-begin (past_where q (one_where p r d s c t) o) = refl

module _ (n : ℕ) where
  -- a whole type is read, or it is too deep
  ty-or : {i o : List Terminal} {a : Ty} → ReadsTy i a o → ty_could_go_on 0 o ≡ false → ReadOrDeep (read_ty n 0 i) a o
  ty-or {a} d y =
      elim (le_or (depth_ty a) n) [ inl q ↦ inl (facts.ty-complete n d q y) | inr q ↦ inr (facts.ty-over n (facts.ty-opens d (depth_ty a) (omega arith) (omega arith)) q) ]

  of-or : {m o : List Terminal} {s : Option Ty} → MaybeOf m s o → after_word res.Of o ≡ None → ty_could_go_on 0 o ≡ false
      → ReadOrDeep (maybe_ty n (after_word res.Of m) m) s o
  of-or {s} d w y = elim (le_or (depth_some s) n) [ inl q ↦ inl (of-read n d q w y) | inr q ↦ inr (of-over n (of-opens d (depth_some s) (omega arith) (omega arith)) q) ]

  pub vals-over : {i : List Terminal} {d : ℕ} → OpensVals i d → n < d → (k : ℕ) → length i < k → many (val_desc_turn n) k no_state i ≡ deep
  vals-over o lt zero le = absurd (omega arith)
  vals-over (in_val_desc {i} q v o) lt (suc k) le =
      let g = vid-found v (reserved q res.Colon ∷ i) in
      let h : read_ty n 0 i ≡ deep = facts.ty-over n o lt in
      many-stop (val_desc_turn n) k (rw (g, h) refl)
  vals-over (past_val_desc {i} {p} {x} {a} q r v d o) lt (suc k) le =
      let g = vid-found v (reserved q res.Colon ∷ i) in
      let s = ty-shorter d in
      elim (ty-or d refl) [
        | inl h ↦ many-deep (val_desc_turn n) k {put = λ ws. record { place = p; vid = x; ty = a } ∷ ws} (rw (g, h) refl) (vals-over o lt k (omega arith))
        | inr h ↦ many-stop (val_desc_turn n) k (rw (g, h) refl)
      ]

  pub cons-over : {i : List Terminal} {d : ℕ} → OpensConDescs i d → n < d → (k : ℕ) → length i < k → many (con_desc_turn n res.Bar) k no_state i ≡ deep
  cons-over o lt zero le = absurd (omega arith)
  cons-over (in_con_desc {m} q v o) lt (suc k) le =
      let g = vid-found v (reserved q res.Of ∷ m) in
      let h : read_ty n 0 m ≡ deep = facts.ty-over n o lt in
      many-stop (con_desc_turn n res.Bar) k (rw (g, h) refl)
  cons-over (past_con_desc {m} {p} {x} {s} q v d o) lt (suc k) le =
      let g = vid-found v m in
      let r = of-shorter d in
      elim (of-or d refl refl) [
        | inl h ↦ many-deep (con_desc_turn n res.Bar) k {put = λ es. record { place = p; vid = x; of_ty = s } ∷ es} (rw (g, h) refl) (cons-over o lt k (omega arith))
        | inr h ↦ many-stop (con_desc_turn n res.Bar) k (rw (g, h) refl)
      ]

  pub exs-over : {i : List Terminal} {d : ℕ} → OpensExDescs i d → n < d → (k : ℕ) → length i < k → many (con_desc_turn n res.And) k no_state i ≡ deep
  exs-over o lt zero le = absurd (omega arith)
  exs-over (in_ex_desc {m} q v o) lt (suc k) le =
      let g = vid-found v (reserved q res.Of ∷ m) in
      let h : read_ty n 0 m ≡ deep = facts.ty-over n o lt in
      many-stop (con_desc_turn n res.And) k (rw (g, h) refl)
  exs-over (past_ex_desc {m} {p} {x} {s} q v d o) lt (suc k) le =
      let g = vid-found v m in
      let r = of-shorter d in
      elim (of-or d refl refl) [
        | inl h ↦ many-deep (con_desc_turn n res.And) k {put = λ es. record { place = p; vid = x; of_ty = s } ∷ es} (rw (g, h) refl) (exs-over o lt k (omega arith))
        | inr h ↦ many-stop (con_desc_turn n res.And) k (rw (g, h) refl)
      ]

  -- the constructors of one datatype, before `and`
  cons-or : {m o : List Terminal} {cs : List ConDesc} → ConDescs m cs o → ty_could_go_on 0 o ≡ false → after_word res.Of o ≡ None → after_word res.Bar o ≡ None
      → ReadOrDeep (read_con_descs n res.Bar m) cs o
  cons-or {m} {cs} d y w c =
      elim (le_or (depth_con_descs cs) n) [
        | inl q ↦ inl (cons-complete n d q y w c (suc (length m)) (omega arith))
        | inr q ↦ inr (cons-over (cons-opens d (depth_con_descs cs) (omega arith) (omega arith)) q (suc (length m)) (omega arith))
      ]

  pub data-over : {i : List Terminal} {d : ℕ} → OpensDataDescs i d → n < d → (k : ℕ) → length i < k → many (data_desc_turn n) k no_state i ≡ deep
  data-over o lt zero le = absurd (omega arith)
  data-over (in_data_desc {m} r d v o) lt (suc k) le =
      let h : read_con_descs n res.Bar m ≡ deep = cons-over o lt (suc (length m)) (omega arith) in
      many-stop (data_desc_turn n) k (bound-step _ (bound r d v) ∙ rw h refl)
  data-over (past_data_desc {i} u (data_desc {as_} {p} {x} {cs} r b d v ds) o) lt (suc k) le =
      let at = begins-place b in
      let s = one-data-shorter (data_desc r b d v ds) in
      elim (cons-or ds refl refl refl) [
        | inl h ↦ many-deep (data_desc_turn n) k {put = λ es. record { place = p; tyvars = as_; tycon = x; cons = cs } ∷ es}
            (bound-step _ (bound r d v) ∙ rw (h, at) refl) (data-over o lt k (omega arith))
        | inr h ↦ many-stop (data_desc_turn n) k (bound-step _ (bound r d v) ∙ rw h refl)
      ]

  pub wheres-over : {i : List Terminal} {d : ℕ} → OpensWheres i d → n < d → (k : ℕ) → length i < k → many (where_turn n) k no_state i ≡ deep
  wheres-over o lt zero le = absurd (omega arith)
  wheres-over (in_where {i} {m} {t} {as_} p r d v o) lt (suc k) le =
      let g : read_tyvars i ≡ read as_ (t ∷ reserved r res.Equals ∷ m) = tyvars-complete d (long-tyvars v (reserved r res.Equals ∷ m)) in
      let h = long_tycon-found v (reserved r res.Equals ∷ m) in
      let u : read_ty n 0 m ≡ deep = facts.ty-over n o lt in
      many-stop (where_turn n) k (rw (g, h, u) refl)
  wheres-over (past_where x (one_where {i} {m} {t} {as_} {q} {u = w} {c} {a} p r d b v y) o) lt (suc k) le =
      let g : read_tyvars i ≡ read as_ (t ∷ reserved r res.Equals ∷ m) = tyvars-complete d (long-tyvars v (reserved r res.Equals ∷ m)) in
      let h = long_tycon-found v (reserved r res.Equals ∷ m) in
      let at = place-found b in
      let e = opens_wheres-begin o in
      let s = where-shorter (one_where p r d b v y) in
      elim (ty-or y refl) [
        | inl u ↦ many-deep (where_turn n) k {put = λ es. record { place = p; tyvars_place = w; tyvars = as_; tycon = record { place = q; it = c }; ty = a } ∷ es}
            (rw (g, h, at, u, e) refl) (wheres-over o lt k (omega arith))
        | inr u ↦ many-stop (where_turn n) k (rw (g, h, u) refl)
      ]
