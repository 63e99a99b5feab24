-- What is read is shorter than what it is read from, so that the loops' counts are enough.
use Rattle.std.proofs.Common.{ℕ, ◌≤◌, ◌<◌, List, length, Bool, arith}
use Rattle.sml_tree.specs.Terminal.{LongId, Terminal}
use Rattle.sml_tree.specs.Fixity.{Fixity}
use Rattle.sml_tree.specs.ReadTree.{Placed}
use Rattle.sml_grammar.proofs.TypeShapes.{ty-shorter}
use Rattle.sml_grammar.proofs.MaybeTypes.{of-shorter}
use Rattle.sml_grammar.proofs.BindTyvars.{tyvars-shorter}
use Rattle.sml_grammar.proofs.BindTypes.{type_binds-shorter}
use Rattle.sml_grammar.proofs.CompShapes.{shorter, dec-shorter}
use Rattle.module_tree.specs.ReadModules.{TypeDesc, ConDesc, DataDesc, ValDesc, WhereType, SigExp, Specs, Spec, StrDescs, MaybeSig, StrExp, StrDecs, StrDec, StrBinds, StrBind, Parameter, FunBind, SigBind, Top}
use Rattle.module_tree.specs.ModuleGrammar.{ValDescs, last_val, more_vals, OneTypeDesc, type_desc, TypeDescs, last_type, more_types, ConDescs, last_con, more_cons, OneDataDesc, data_desc, DataDescs, last_data, more_data, ExDescs, last_ex, more_exs, OneWhere, one_where, WhereTypes, last_where, more_wheres, SigIds, last_sig_id, more_sig_ids, LongTycons, last_tycon, more_tycons, ReadsSig, of_sig, of_sig_id, of_where, ReadsSpecs, no_more_specs, spec_semicolon, of_spec, ReadsSpec, of_val_spec, of_type_spec, of_abbreviation_spec, of_eqtype_spec, of_datatype_spec, of_replication_spec, of_exception_spec, of_structure_spec, of_include, of_include_ids, of_sharing, ReadsStrDescs, of_last_desc, of_desc_and, ReadsMaybeSig, without_sig, with_sig, ReadsStr, of_struct, of_str_id, of_constrained, of_applied, of_applied_to_decs, of_let_str, ReadsStrDecs, no_more_decs, dec_semicolon, of_str_dec, ReadsStrDec, of_core_dec, of_structure, of_local_str, ReadsStrBinds, of_last_str, of_str_and, ReadsStrBind, of_str_bind, SigBinds, last_sig_bind, more_sig_binds, ReadsParameter, of_structure_parameter, of_spec_parameter, OneFunBind, fun_bind, FunBinds, last_fun_bind, more_fun_binds, ReadsTop, of_str_top, of_signature, of_functor, of_exp_top}

pub vals-shorter : {i o : List Terminal} {vs : List ValDesc} → ValDescs i vs o → length o < length i
vals-shorter (last_val q v d) = let h = ty-shorter d in omega arith
vals-shorter (more_vals q r v d vs) = let h = ty-shorter d in let k = vals-shorter vs in omega arith

pub type-shorter : {i o : List Terminal} {d : TypeDesc} → OneTypeDesc i d o → length o < length i
type-shorter (type_desc b d c) = let h = tyvars-shorter d in omega arith

pub types-shorter : {i o : List Terminal} {ds : List TypeDesc} → TypeDescs i ds o → length o < length i
types-shorter (last_type d) = type-shorter d
types-shorter (more_types p d ds) = let h = type-shorter d in let k = types-shorter ds in omega arith

pub cons-shorter : {i o : List Terminal} {cs : List ConDesc} → ConDescs i cs o → length o < length i
cons-shorter (last_con v d) = let h = of-shorter d in omega arith
cons-shorter (more_cons q v d cs) = let h = of-shorter d in let k = cons-shorter cs in omega arith

pub exs-shorter : {i o : List Terminal} {cs : List ConDesc} → ExDescs i cs o → length o < length i
exs-shorter (last_ex v d) = let h = of-shorter d in omega arith
exs-shorter (more_exs q v d cs) = let h = of-shorter d in let k = exs-shorter cs in omega arith

pub one-data-shorter : {i o : List Terminal} {d : DataDesc} → OneDataDesc i d o → length o < length i
one-data-shorter (data_desc r b d c cs) = let h = tyvars-shorter d in let k = cons-shorter cs in omega arith

pub data-shorter : {i o : List Terminal} {ds : List DataDesc} → DataDescs i ds o → length o < length i
data-shorter (last_data d) = one-data-shorter d
data-shorter (more_data p d ds) = let h = one-data-shorter d in let k = data-shorter ds in omega arith

pub where-shorter : {i o : List Terminal} {w : WhereType} → OneWhere i w o → length o < length i
where-shorter (one_where p r d s c t) = let h = tyvars-shorter d in let k = ty-shorter t in omega arith

pub wheres-shorter : {i o : List Terminal} {ws : List WhereType} → WhereTypes i ws o → length o < length i
wheres-shorter (last_where w) = where-shorter w
wheres-shorter (more_wheres p w ws) = let h = where-shorter w in let k = wheres-shorter ws in omega arith

pub ids-shorter : {i o : List Terminal} {xs : List (Placed ℕ)} → SigIds i xs o → length o < length i
ids-shorter (last_sig_id v) = omega arith
ids-shorter (more_sig_ids v xs) = let k = ids-shorter xs in omega arith

pub tycons-shorter : {i o : List Terminal} {cs : List (Placed LongId)} → LongTycons i cs o → length o < length i
tycons-shorter (last_tycon v) = omega arith
tycons-shorter (more_tycons q v cs) = let k = tycons-shorter cs in omega arith

mutual
  pub sig-shorter : {i o : List Terminal} {g : SigExp} → ReadsSig i g o → length o < length i
  sig-shorter (of_sig p q ss) = let h = specs-shorter ss in omega arith
  sig-shorter (of_sig_id v) = omega arith
  sig-shorter (of_where p g ws) = let h = sig-shorter g in let k = wheres-shorter ws in omega arith

  pub specs-shorter : {i o : List Terminal} {ss : Specs} → ReadsSpecs i ss o → length o ≤ length i
  specs-shorter no_more_specs = omega arith
  specs-shorter (spec_semicolon p ss) = let h = specs-shorter ss in omega arith
  specs-shorter (of_spec s ss) = let h = spec-shorter s in let k = specs-shorter ss in omega arith

  pub spec-shorter : {i o : List Terminal} {s : Spec} → ReadsSpec i s o → length o < length i
  spec-shorter (of_val_spec p d) = let h = vals-shorter d in omega arith
  spec-shorter (of_type_spec p d) = let h = types-shorter d in omega arith
  spec-shorter (of_abbreviation_spec p d) = let h = type_binds-shorter d in omega arith
  spec-shorter (of_eqtype_spec p d) = let h = types-shorter d in omega arith
  spec-shorter (of_datatype_spec p d) = let h = data-shorter d in omega arith
  spec-shorter (of_replication_spec p q r v w) = omega arith
  spec-shorter (of_exception_spec p d) = let h = exs-shorter d in omega arith
  spec-shorter (of_structure_spec p d) = let h = descs-shorter d in omega arith
  spec-shorter (of_include p g) = let h = sig-shorter g in omega arith
  spec-shorter (of_include_ids p v xs) = let h = ids-shorter xs in omega arith
  spec-shorter (of_sharing p q r v cs) = let h = tycons-shorter cs in omega arith

  pub descs-shorter : {i o : List Terminal} {ds : StrDescs} → ReadsStrDescs i ds o → length o < length i
  descs-shorter (of_last_desc p v g) = let h = sig-shorter g in omega arith
  descs-shorter (of_desc_and p q v g ds) = let h = sig-shorter g in let k = descs-shorter ds in omega arith

pub maybe-sig-shorter : {i o : List Terminal} {g : MaybeSig} → ReadsMaybeSig i g o → length o ≤ length i
maybe-sig-shorter without_sig = omega arith
maybe-sig-shorter (with_sig v g) = let h = sig-shorter g in omega arith

mutual
  pub str-shorter : {f : Fixity} {i o : List Terminal} {s : StrExp} → ReadsStr f i s o → length o < length i
  str-shorter (of_struct p q ds) = let h = str-decs-shorter ds in omega arith
  str-shorter (of_str_id v) = omega arith
  str-shorter (of_constrained s v g) = let h = str-shorter s in let k = sig-shorter g in omega arith
  str-shorter (of_applied p q v s) = let h = str-shorter s in omega arith
  str-shorter (of_applied_to_decs p q v ds) = let h = str-decs-shorter ds in omega arith
  str-shorter (of_let_str p q r ds s) = let h = str-decs-shorter ds in let k = str-shorter s in omega arith

  pub str-decs-shorter : {f : Fixity} {i o : List Terminal} {ds : StrDecs} → ReadsStrDecs f i ds o → length o ≤ length i
  str-decs-shorter no_more_decs = omega arith
  str-decs-shorter (dec_semicolon p ds) = let h = str-decs-shorter ds in omega arith
  str-decs-shorter (of_str_dec d ds) = let h = str-dec-shorter d in let k = str-decs-shorter ds in omega arith

  pub str-dec-shorter : {f : Fixity} {i o : List Terminal} {d : StrDec} → ReadsStrDec f i d o → length o < length i
  str-dec-shorter (of_core_dec d) = dec-shorter d
  str-dec-shorter (of_structure p bs) = let h = str-binds-shorter bs in omega arith
  str-dec-shorter (of_local_str p q r ds es n) = let h = str-decs-shorter ds in let k = str-decs-shorter es in omega arith

  pub str-binds-shorter : {f : Fixity} {i o : List Terminal} {bs : StrBinds} → ReadsStrBinds f i bs o → length o < length i
  str-binds-shorter (of_last_str b) = str-bind-shorter b
  str-binds-shorter (of_str_and p b bs) = let h = str-bind-shorter b in let k = str-binds-shorter bs in omega arith

  pub str-bind-shorter : {f : Fixity} {i o : List Terminal} {b : StrBind} → ReadsStrBind f i b o → length o < length i
  str-bind-shorter (of_str_bind p v g s) = let h = maybe-sig-shorter g in let k = str-shorter s in omega arith

pub sig-binds-shorter : {i o : List Terminal} {bs : List SigBind} → SigBinds i bs o → length o < length i
sig-binds-shorter (last_sig_bind p v g) = let h = sig-shorter g in omega arith
sig-binds-shorter (more_sig_binds p q v g bs) = let h = sig-shorter g in let k = sig-binds-shorter bs in omega arith

pub parameter-shorter : {b : ℕ} {i o : List Terminal} {a : Parameter} → ReadsParameter b i a o → length o ≤ length i
parameter-shorter (of_structure_parameter p v g) = let h = sig-shorter g in omega arith
parameter-shorter (of_spec_parameter ss) = specs-shorter ss

pub fun-bind-shorter : {f : Fixity} {i o : List Terminal} {b : FunBind} → OneFunBind f i b o → length o < length i
fun-bind-shorter (fun_bind p q r v a g s) = let h = parameter-shorter a in let k = maybe-sig-shorter g in let j = str-shorter s in omega arith

pub fun-binds-shorter : {f : Fixity} {i o : List Terminal} {bs : List FunBind} → FunBinds f i bs o → length o < length i
fun-binds-shorter (last_fun_bind b) = fun-bind-shorter b
fun-binds-shorter (more_fun_binds p b bs) = let h = fun-bind-shorter b in let k = fun-binds-shorter bs in omega arith

pub top-shorter : {f : Fixity} {fresh : Bool} {i o : List Terminal} {t : Top} → ReadsTop f fresh i t o → length o < length i
top-shorter (of_str_top d) = str-dec-shorter d
top-shorter (of_signature p bs) = let h = sig-binds-shorter bs in omega arith
top-shorter (of_functor p bs) = let h = fun-binds-shorter bs in omega arith
top-shorter (of_exp_top p e) = let h = shorter e in omega arith
