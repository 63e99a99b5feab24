-- A tree of depth d has a partial one of each depth up to d.
use Rattle.std.proofs.Common.{◌≡◌, ℕ, zero, suc, ◌≤◌, ◌<◌, List, [], ◌∷◌, ◌++◌, Bool, inl, inr, refl, sym, ap, subst, arith}
use Rattle.mlc_names.specs.declared.token.Reserved.TheVariants as res
use Rattle.sml_tree.specs.Terminal.{Terminal, reserved, IsVid, short_strid}
use Rattle.sml_tree.specs.Fixity.{Fixity}
use Rattle.sml_tree.specs.ReadTree.{Placed}
use Rattle.sml_tree.specs.Depth.{depth_some, depth_ty}
use Rattle.sml_tree.specs.Levels.{after}
use Rattle.sml_grammar.specs.Partial.{OpensDecs, past_empty, in_dec, past_dec, OpensDec, in_val, in_fun, in_type, in_datatype, in_withtype, in_exception, begun_local, in_local, in_local_body}
use Rattle.sml_grammar.proofs.Answers.{le_or}
use Rattle.sml_grammar.proofs.BindOf.{OpensOf, in_of, of-opens}
use Rattle.sml_grammar.proofs.CompFacts as facts
use Rattle.sml_grammar.proofs.CompPaths as core
use Rattle.module_tree.specs.ReadModules.{ConDesc, DataDesc, ValDesc, WhereType, SigExp, Specs, Spec, StrDescs, MaybeSig, StrExp, StrDecs, StrDec, StrBinds, StrBind, Parameter, FunBind, SigBind, Top}
use Rattle.module_tree.specs.Scope.{after_decs}
use Rattle.module_tree.specs.ModuleDepth.{depth_con_descs, depth_data_descs, depth_val_descs, depth_where_types, depth_sig, depth_specs, depth_spec, depth_str_descs, depth_maybe_sig, depth_str, depth_str_decs, depth_str_dec, depth_str_binds, depth_str_bind, depth_parameter, depth_fun_binds, depth_sig_binds, depth_top, depth_tops}
use Rattle.module_tree.specs.ModuleGrammar.{IsModuleId, module_id, ValDescs, last_val, more_vals, ConDescs, last_con, more_cons, data_desc, DataDescs, last_data, more_data, ExDescs, last_ex, more_exs, one_where, WhereTypes, last_where, more_wheres, ReadsSig, of_sig, of_sig_id, of_where, ReadsSpecs, no_more_specs, spec_semicolon, of_spec, ReadsSpec, of_val_spec, of_type_spec, of_abbreviation_spec, of_eqtype_spec, of_datatype_spec, of_replication_spec, of_exception_spec, of_structure_spec, of_include, of_include_ids, of_sharing, ReadsStrDescs, of_last_desc, of_desc_and, ReadsMaybeSig, without_sig, with_sig, ReadsStr, of_struct, of_str_id, of_constrained, of_applied, of_applied_to_decs, of_let_str, ReadsStrDecs, no_more_decs, dec_semicolon, of_str_dec, ReadsStrDec, of_core_dec, of_structure, of_local_str, ReadsStrBinds, of_last_str, of_str_and, ReadsStrBind, of_str_bind, SigBinds, last_sig_bind, more_sig_binds, ReadsParameter, of_structure_parameter, of_spec_parameter, OneFunBind, fun_bind, FunBinds, last_fun_bind, more_fun_binds, ReadsTop, of_str_top, of_signature, of_functor, of_exp_top, ReadsTops, no_more_tops, top_semicolon, of_top}
use Rattle.module_grammar.specs.PartialSignatures.{with_sig_word, with_sig_id, OpensVals, in_val_desc, past_val_desc, OpensConDescs, in_con_desc, past_con_desc, OpensDataDescs, in_data_desc, past_data_desc, OpensExDescs, in_ex_desc, past_ex_desc, OpensWheres, in_where, past_where, OpensSig, begun_sig, in_sig, extended, in_wheres, OpensSpecs, past_no_spec, in_spec, past_spec, OpensSpec, in_vals, in_abbreviations, in_data, in_exceptions, in_structures, in_include, OpensStrDescs, in_str_desc, past_str_desc}
use Rattle.module_grammar.specs.PartialModules.{with_struct, with_let, with_str_id, OpensStr, begun_str, in_struct, signed, in_signature, in_argument, in_argument_decs, in_let, in_let_body, OpensStrDecs, past_no_dec, in_str_dec, past_str_dec, OpensStrDec, in_core_dec, begun_local_str, in_local_str, in_local_str_body, in_structure, OpensStrBinds, in_str_sig, in_str_body, past_str_bind, OpensSigBinds, in_sig_bind, past_sig_bind, OpensParameter, in_structure_parameter, in_spec_parameter, OpensFunBinds, in_parameter, in_result, in_fun_body, past_fun_bind, OpensTop, in_declaration, in_signatures, in_functors, in_expression, OpensTops, past_no_top, in_top, past_top}
use Rattle.module_grammar.proofs.StrComplete.{lift_decs, lift-reads, lift-added}

-- Lists of specifications.

vals-opens : {i o : List Terminal} {vs : List ValDesc} → ValDescs i vs o → (k : ℕ) → 0 < k → k ≤ depth_val_descs vs → OpensVals i k
vals-opens (last_val q v d) k pos le = in_val_desc q v (facts.ty-opens d k pos (omega arith))
vals-opens (more_vals {a} q r v d ds) k pos le =
    elim (le_or k (depth_ty a)) [ inl h ↦ in_val_desc q v (facts.ty-opens d k pos h) | inr h ↦ past_val_desc q r v d (vals-opens ds k pos (omega arith)) ]

in-con : {t : Terminal} {m : List Terminal} {p x d : ℕ} → IsVid t p x → OpensOf m d → OpensConDescs (t ∷ m) d
in-con v (in_of q o) = in_con_desc q v o

in-ex : {t : Terminal} {m : List Terminal} {p x d : ℕ} → IsVid t p x → OpensOf m d → OpensExDescs (t ∷ m) d
in-ex v (in_of q o) = in_ex_desc q v o

pub cons-opens : {i o : List Terminal} {cs : List ConDesc} → ConDescs i cs o → (k : ℕ) → 0 < k → k ≤ depth_con_descs cs → OpensConDescs i k
cons-opens (last_con v d) k pos le = in-con v (of-opens d k pos (omega arith))
cons-opens (more_cons {s} q v d ds) k pos le =
    elim (le_or k (depth_some s)) [ inl h ↦ in-con v (of-opens d k pos h) | inr h ↦ past_con_desc q v d (cons-opens ds k pos (omega arith)) ]

exs-opens : {i o : List Terminal} {cs : List ConDesc} → ExDescs i cs o → (k : ℕ) → 0 < k → k ≤ depth_con_descs cs → OpensExDescs i k
exs-opens (last_ex v d) k pos le = in-ex v (of-opens d k pos (omega arith))
exs-opens (more_exs {s} q v d ds) k pos le =
    elim (le_or k (depth_some s)) [ inl h ↦ in-ex v (of-opens d k pos h) | inr h ↦ past_ex_desc q v d (exs-opens ds k pos (omega arith)) ]

data-opens : {i o : List Terminal} {ds : List DataDesc} → DataDescs i ds o → (k : ℕ) → 0 < k → k ≤ depth_data_descs ds → OpensDataDescs i k
data-opens (last_data (data_desc r b d v cs)) k pos le = in_data_desc r d v (cons-opens cs k pos (omega arith))
data-opens (more_data p (data_desc {cs = ds} r b d v cs) more) k pos le =
    elim (le_or k (depth_con_descs ds)) [
      | inl h ↦ in_data_desc r d v (cons-opens cs k pos h)
      | inr h ↦ past_data_desc p (data_desc r b d v cs) (data-opens more k pos (omega arith))
    ]

pub wheres-opens : {i o : List Terminal} {ws : List WhereType} → WhereTypes i ws o → (k : ℕ) → 0 < k → k ≤ depth_where_types ws → OpensWheres i k
wheres-opens (last_where (one_where p r d s c t)) k pos le = in_where p r d c (facts.ty-opens t k pos (omega arith))
wheres-opens (more_wheres q (one_where {a} p r d s c t) ws) k pos le =
    elim (le_or k (depth_ty a)) [
      | inl h ↦ in_where p r d c (facts.ty-opens t k pos h)
      | inr h ↦ past_where q (one_where p r d s c t) (wheres-opens ws k pos (omega arith))
    ]

-- Signatures.
mutual
  pub sig-opens : {i o : List Terminal} {g : SigExp} → ReadsSig i g o → (k : ℕ) → 0 < k → k ≤ depth_sig g → OpensSig i k
  sig-opens d zero pos le = absurd (omega arith)
  sig-opens (of_sig p q d) (suc zero) pos le = begun_sig (with_sig_word p)
  sig-opens (of_sig p q d) (suc (suc k)) pos le = in_sig p (specs-opens d (suc k) (omega arith) (omega arith))
  sig-opens (of_sig_id v) (suc zero) pos le = begun_sig (with_sig_id v)
  sig-opens (of_sig_id v) (suc (suc k)) pos le = absurd (omega arith)
  sig-opens (of_where {g} p d ws) (suc k) pos le =
      elim (le_or k (depth_sig g)) [ inl h ↦ extended p d h | inr h ↦ in_wheres p d (wheres-opens ws k (omega arith) (omega arith)) ]

  pub specs-opens : {i o : List Terminal} {ss : Specs} → ReadsSpecs i ss o → (k : ℕ) → 0 < k → k ≤ depth_specs ss → OpensSpecs i k
  specs-opens no_more_specs k pos le = absurd (omega arith)
  specs-opens (spec_semicolon p d) k pos le = past_no_spec p (specs-opens d k pos le)
  specs-opens (of_spec {s} d ds) k pos le =
      elim (le_or k (depth_spec s)) [ inl h ↦ in_spec (spec-opens d k pos h) | inr h ↦ past_spec d (specs-opens ds k pos (omega arith)) ]

  pub spec-opens : {i o : List Terminal} {s : Spec} → ReadsSpec i s o → (k : ℕ) → 0 < k → k ≤ depth_spec s → OpensSpec i k
  spec-opens (of_val_spec p d) k pos le = in_vals p (vals-opens d k pos le)
  spec-opens (of_type_spec p d) k pos le = absurd (omega arith)
  spec-opens (of_abbreviation_spec p d) k pos le = in_abbreviations p (facts.type_binds-opens d k pos le)
  spec-opens (of_eqtype_spec p d) k pos le = absurd (omega arith)
  spec-opens (of_datatype_spec p d) k pos le = in_data p (data-opens d k pos le)
  spec-opens (of_replication_spec p q r v w) k pos le = absurd (omega arith)
  spec-opens (of_exception_spec p d) k pos le = in_exceptions p (exs-opens d k pos le)
  spec-opens (of_structure_spec p d) k pos le = in_structures p (descs-opens d k pos le)
  spec-opens (of_include p d) k pos le = in_include p (sig-opens d k pos le)
  spec-opens {i} (of_include_ids p v xs) k pos le = let e : 1 ≡ k = omega arith in subst (λ (z : ℕ). OpensSpec i z) e (in_include p (begun_sig (with_sig_id v)))
  spec-opens (of_sharing p q r v cs) k pos le = absurd (omega arith)

  pub descs-opens : {i o : List Terminal} {ds : StrDescs} → ReadsStrDescs i ds o → (k : ℕ) → 0 < k → k ≤ depth_str_descs ds → OpensStrDescs i k
  descs-opens (of_last_desc p v d) k pos le = in_str_desc p v (sig-opens d k pos le)
  descs-opens (of_desc_and {g} p q v d ds) k pos le =
      elim (le_or k (depth_sig g)) [ inl h ↦ in_str_desc p v (sig-opens d k pos h) | inr h ↦ past_str_desc p q v d (descs-opens ds k pos (omega arith)) ]

-- Partial declarations of the core, as partial declarations of structures.
mutual
  lift-opens : {f : Fixity} {i : List Terminal} {d : ℕ} → OpensDecs f i d → OpensStrDecs f i d
  lift-opens (past_empty p o) = past_no_dec p (lift-opens o)
  lift-opens (in_dec o) = in_str_dec (lift-dec o)
  lift-opens (past_dec x o) = past_str_dec (of_core_dec x) (lift-opens o)

  lift-dec : {f : Fixity} {i : List Terminal} {d : ℕ} → OpensDec f i d → OpensStrDec f i d
  lift-dec (in_val p s o) = in_core_dec refl (in_val p s o)
  lift-dec (in_fun p s o) = in_core_dec refl (in_fun p s o)
  lift-dec (in_type p o) = in_core_dec refl (in_type p o)
  lift-dec (in_datatype p o) = in_core_dec refl (in_datatype p o)
  lift-dec (in_withtype p q d o) = in_core_dec refl (in_withtype p q d o)
  lift-dec (in_exception p o) = in_core_dec refl (in_exception p o)
  lift-dec (begun_local p) = begun_local_str p
  lift-dec (in_local p o) = in_local_str p (lift-opens o)
  lift-dec {f} (in_local_body {m} {ds} {d} p q x o) =
      let e : after f ds ≡ after_decs f (lift_decs ds) = ap (λ z. z ++ f) (sym (lift-added ds)) in
      in_local_str_body p q (lift-reads x) (subst (λ (z : Fixity). OpensStrDecs z m d) e (lift-opens o))

id-strid : {t : Terminal} {o : List Terminal} {x : Placed ℕ} {f : Fixity} → IsModuleId t x → OpensStr f (t ∷ o) 1
id-strid (module_id p x) = begun_str (with_str_id (short_strid p x))

maybe-opens : {f : Fixity} {t : Terminal} {i o : List Terminal} {x : Placed ℕ} {g : MaybeSig} → IsModuleId t x → ReadsMaybeSig i g o → (k : ℕ) → 0 < k
    → k ≤ depth_maybe_sig g → OpensStrBinds f (t ∷ i) k
maybe-opens v without_sig k pos le = absurd (omega arith)
maybe-opens v (with_sig u d) k pos le = in_str_sig v u (sig-opens d k pos le)

-- Structures.
mutual
  pub str-opens : {f : Fixity} {i o : List Terminal} {s : StrExp} → ReadsStr f i s o → (k : ℕ) → 0 < k → k ≤ depth_str s → OpensStr f i k
  str-opens d zero pos le = absurd (omega arith)
  str-opens (of_struct p q d) (suc zero) pos le = begun_str (with_struct p)
  str-opens (of_struct p q d) (suc (suc k)) pos le = in_struct p (str-decs-opens d (suc k) (omega arith) (omega arith))
  str-opens (of_str_id v) (suc zero) pos le = begun_str (with_str_id v)
  str-opens (of_str_id v) (suc (suc k)) pos le = absurd (omega arith)
  str-opens (of_constrained {s} d v g) (suc k) pos le =
      elim (le_or k (depth_str s)) [ inl h ↦ signed d v h | inr h ↦ in_signature d v (sig-opens g k (omega arith) (omega arith)) ]
  str-opens (of_applied p q v d) (suc zero) pos le = id-strid v
  str-opens (of_applied p q v d) (suc (suc k)) pos le = in_argument p v (str-opens d (suc k) (omega arith) (omega arith))
  str-opens (of_applied_to_decs p q v d) (suc zero) pos le = id-strid v
  str-opens (of_applied_to_decs p q v d) (suc (suc k)) pos le = in_argument_decs p v (str-decs-opens d (suc k) (omega arith) (omega arith))
  str-opens (of_let_str p q r d s) (suc zero) pos le = begun_str (with_let p)
  str-opens (of_let_str {ds} p q r d s) (suc (suc k)) pos le =
      elim (le_or (suc k) (depth_str_decs ds)) [
        | inl h ↦ in_let p (str-decs-opens d (suc k) (omega arith) h)
        | inr h ↦ in_let_body p q d (str-opens s (suc k) (omega arith) (omega arith))
      ]

  pub str-decs-opens : {f : Fixity} {i o : List Terminal} {ds : StrDecs} → ReadsStrDecs f i ds o → (k : ℕ) → 0 < k → k ≤ depth_str_decs ds → OpensStrDecs f i k
  str-decs-opens no_more_decs k pos le = absurd (omega arith)
  str-decs-opens (dec_semicolon p d) k pos le = past_no_dec p (str-decs-opens d k pos le)
  str-decs-opens (of_str_dec {d = x} d ds) k pos le =
      elim (le_or k (depth_str_dec x)) [ inl h ↦ in_str_dec (str-dec-opens d k pos h) | inr h ↦ past_str_dec d (str-decs-opens ds k pos (omega arith)) ]

  pub str-dec-opens : {f : Fixity} {i o : List Terminal} {d : StrDec} → ReadsStrDec f i d o → (k : ℕ) → 0 < k → k ≤ depth_str_dec d → OpensStrDec f i k
  str-dec-opens (of_core_dec d) k pos le = lift-dec (core.dec-opens d k pos le)
  str-dec-opens (of_structure p d) k pos le = in_structure p (str-binds-opens d k pos le)
  str-dec-opens (of_local_str p q r d e n) zero pos le = absurd (omega arith)
  str-dec-opens (of_local_str p q r d e n) (suc zero) pos le = begun_local_str p
  str-dec-opens (of_local_str {ds} p q r d e n) (suc (suc k)) pos le =
      elim (le_or (suc k) (depth_str_decs ds)) [
        | inl h ↦ in_local_str p (str-decs-opens d (suc k) (omega arith) h)
        | inr h ↦ in_local_str_body p q d (str-decs-opens e (suc k) (omega arith) (omega arith))
      ]

  pub str-binds-opens : {f : Fixity} {i o : List Terminal} {bs : StrBinds} → ReadsStrBinds f i bs o → (k : ℕ) → 0 < k → k ≤ depth_str_binds bs → OpensStrBinds f i k
  str-binds-opens (of_last_str d) k pos le = str-bind-opens d k pos le
  str-binds-opens (of_str_and {b} p d ds) k pos le =
      elim (le_or k (depth_str_bind b)) [ inl h ↦ str-bind-opens d k pos h | inr h ↦ past_str_bind p d (str-binds-opens ds k pos (omega arith)) ]

  str-bind-opens : {f : Fixity} {i o : List Terminal} {b : StrBind} → ReadsStrBind f i b o → (k : ℕ) → 0 < k → k ≤ depth_str_bind b → OpensStrBinds f i k
  str-bind-opens (of_str_bind {g} p v d s) k pos le =
      elim (le_or k (depth_maybe_sig g)) [ inl h ↦ maybe-opens v d k pos h | inr h ↦ in_str_body p v d (str-opens s k pos (omega arith)) ]

-- Sources.

sig-binds-opens : {i o : List Terminal} {bs : List SigBind} → SigBinds i bs o → (k : ℕ) → 0 < k → k ≤ depth_sig_binds bs → OpensSigBinds i k
sig-binds-opens (last_sig_bind p v d) k pos le = in_sig_bind p v (sig-opens d k pos (omega arith))
sig-binds-opens (more_sig_binds {g} p q v d ds) k pos le =
    elim (le_or k (depth_sig g)) [ inl h ↦ in_sig_bind p v (sig-opens d k pos h) | inr h ↦ past_sig_bind p q v d (sig-binds-opens ds k pos (omega arith)) ]

pub parameter-opens : {b : ℕ} {i o : List Terminal} {a : Parameter} → ReadsParameter b i a o → (k : ℕ) → 0 < k → k ≤ depth_parameter a → OpensParameter i k
parameter-opens (of_structure_parameter p v d) k pos le = in_structure_parameter p v (sig-opens d k pos le)
parameter-opens (of_spec_parameter d) k pos le = in_spec_parameter (specs-opens d k pos le)

abbrev depth_fun : FunBind → ℕ
depth_fun b = depth_fun_binds (b ∷ [])

result-opens : {f : Fixity} {t : Terminal} {i m o : List Terminal} {x : Placed ℕ} {a : Parameter} {g : MaybeSig} (p q : ℕ) → IsModuleId t x
    → ReadsParameter p i a (reserved q res.RightParen ∷ m) → ReadsMaybeSig m g o → (k : ℕ) → 0 < k → k ≤ depth_maybe_sig g
    → OpensFunBinds f (t ∷ reserved p res.LeftParen ∷ i) k
result-opens p q v a without_sig k pos le = absurd (omega arith)
result-opens p q v a (with_sig u d) k pos le = in_result p q v a u (sig-opens d k pos le)

fun-bind-opens : {f : Fixity} {i o : List Terminal} {b : FunBind} → OneFunBind f i b o → (k : ℕ) → 0 < k → k ≤ depth_fun b → OpensFunBinds f i k
fun-bind-opens (fun_bind {a} {g} p q r v ad gd sd) k pos le =
    elim (le_or k (depth_parameter a)) [
      | inl h ↦ in_parameter p v (parameter-opens ad k pos h)
      | inr h ↦ elim (le_or k (depth_maybe_sig g)) [ inl u ↦ result-opens p q v ad gd k pos u | inr u ↦ in_fun_body p q r v ad gd (str-opens sd k pos (omega arith)) ]
    ]

fun-binds-opens : {f : Fixity} {i o : List Terminal} {bs : List FunBind} → FunBinds f i bs o → (k : ℕ) → 0 < k → k ≤ depth_fun_binds bs → OpensFunBinds f i k
fun-binds-opens (last_fun_bind d) k pos le = fun-bind-opens d k pos le
fun-binds-opens (more_fun_binds {b} p d ds) k pos le =
    elim (le_or k (depth_fun b)) [ inl h ↦ fun-bind-opens d k pos h | inr h ↦ past_fun_bind p d (fun-binds-opens ds k pos (omega arith)) ]

pub top-opens : {f : Fixity} {fresh : Bool} {i o : List Terminal} {t : Top} → ReadsTop f fresh i t o → (k : ℕ) → 0 < k → k ≤ depth_top t → OpensTop f fresh i k
top-opens (of_str_top d) k pos le = in_declaration (str-dec-opens d k pos le)
top-opens (of_signature p d) k pos le = in_signatures p (sig-binds-opens d k pos le)
top-opens (of_functor p d) k pos le = in_functors p (fun-binds-opens d k pos le)
top-opens (of_exp_top p d) k pos le = in_expression (core.reads-opens 0 d (omega arith) k pos le)

pub tops-opens : {f : Fixity} {fresh : Bool} {i : List Terminal} {ts : List Top} → ReadsTops f fresh i ts → (k : ℕ) → 0 < k → k ≤ depth_tops ts → OpensTops f fresh i k
tops-opens no_more_tops k pos le = absurd (omega arith)
tops-opens (top_semicolon p d) k pos le = past_no_top p (tops-opens d k pos le)
tops-opens (of_top {t} d ds) k pos le =
    elim (le_or k (depth_top t)) [ inl h ↦ in_top (top-opens d k pos h) | inr h ↦ past_top d (tops-opens ds k pos (omega arith)) ]
