-- The depth of a program's tree: phrases in each other, as in the core. Structure and signature expressions and `local` are counted; lists,
-- bindings, specifications and declarations aren't counted themselves.
use Rattle.std.specs.Prelude.{ℕ, suc, max, List, [], ◌∷◌}
use Rattle.sml_tree.specs.Depth.{depth_ty, depth_some, depth_type_binds, depth, depth_dec}
use Rattle.module_tree.specs.ReadModules.{ConDesc, DataDesc, ValDesc, WhereType, SigExp, sig_end, sig_id, where_type, Specs, no_specs, spec, Spec, val_spec, type_spec, abbreviation_spec, eqtype_spec, datatype_spec, replication_spec, exception_spec, structure_spec, include_spec, include_ids, sharing_spec, StrDescs, last_desc, desc_and, MaybeSig, no_sig, sealed, StrExp, struct_end, str_id, constrained, applied, applied_to_decs, let_str, StrDecs, no_str_decs, str_dec, StrDec, core_dec, structure_dec, local_str, StrBinds, last_str, str_and, StrBind, str_bind, Parameter, structure_parameter, spec_parameter, FunBind, SigBind, Top, str_top, signature_top, functor_top, exp_top}

abbrev pub depth_con_descs : List ConDesc → ℕ
depth_con_descs [] = 0
depth_con_descs (c ∷ cs) = max (depth_some c.of_ty) (depth_con_descs cs)

abbrev pub depth_data_descs : List DataDesc → ℕ
depth_data_descs [] = 0
depth_data_descs (d ∷ ds) = max (depth_con_descs d.cons) (depth_data_descs ds)

abbrev pub depth_val_descs : List ValDesc → ℕ
depth_val_descs [] = 0
depth_val_descs (v ∷ vs) = max (depth_ty v.ty) (depth_val_descs vs)

abbrev pub depth_where_types : List WhereType → ℕ
depth_where_types [] = 0
depth_where_types (w ∷ ws) = max (depth_ty w.ty) (depth_where_types ws)

abbrev mutual
  pub depth_sig : SigExp → ℕ
  depth_sig (sig_end p ss) = suc (depth_specs ss)
  depth_sig (sig_id p x) = 1
  depth_sig (where_type g ws) = suc (max (depth_sig g) (depth_where_types ws))

  pub depth_specs : Specs → ℕ
  depth_specs no_specs = 0
  depth_specs (spec s ss) = max (depth_spec s) (depth_specs ss)

  pub depth_spec : Spec → ℕ
  depth_spec (val_spec p vs) = depth_val_descs vs
  depth_spec (type_spec p ts) = 0
  depth_spec (abbreviation_spec p bs) = depth_type_binds bs
  depth_spec (eqtype_spec p ts) = 0
  depth_spec (datatype_spec p ds) = depth_data_descs ds
  depth_spec (replication_spec p x c) = 0
  depth_spec (exception_spec p cs) = depth_con_descs cs
  depth_spec (structure_spec p ds) = depth_str_descs ds
  depth_spec (include_spec p g) = depth_sig g
  depth_spec (include_ids p xs) = 1
  depth_spec (sharing_spec p cs) = 0

  pub depth_str_descs : StrDescs → ℕ
  depth_str_descs (last_desc x g) = depth_sig g
  depth_str_descs (desc_and x g ds) = max (depth_sig g) (depth_str_descs ds)

abbrev pub depth_maybe_sig : MaybeSig → ℕ
depth_maybe_sig no_sig = 0
depth_maybe_sig (sealed k g) = depth_sig g

abbrev mutual
  pub depth_str : StrExp → ℕ
  depth_str (struct_end p ds) = suc (depth_str_decs ds)
  depth_str (str_id x) = 1
  depth_str (constrained s k g) = suc (max (depth_str s) (depth_sig g))
  depth_str (applied x s) = suc (depth_str s)
  depth_str (applied_to_decs x ds) = suc (depth_str_decs ds)
  depth_str (let_str p ds s) = suc (max (depth_str_decs ds) (depth_str s))

  pub depth_str_decs : StrDecs → ℕ
  depth_str_decs no_str_decs = 0
  depth_str_decs (str_dec d ds) = max (depth_str_dec d) (depth_str_decs ds)

  pub depth_str_dec : StrDec → ℕ
  depth_str_dec (core_dec d) = depth_dec d
  depth_str_dec (structure_dec p bs) = depth_str_binds bs
  depth_str_dec (local_str p ds es) = suc (max (depth_str_decs ds) (depth_str_decs es))

  pub depth_str_binds : StrBinds → ℕ
  depth_str_binds (last_str b) = depth_str_bind b
  depth_str_binds (str_and b bs) = max (depth_str_bind b) (depth_str_binds bs)

  pub depth_str_bind : StrBind → ℕ
  depth_str_bind (str_bind x g s) = max (depth_maybe_sig g) (depth_str s)

abbrev pub depth_parameter : Parameter → ℕ
depth_parameter (structure_parameter x g) = depth_sig g
depth_parameter (spec_parameter p ss) = depth_specs ss

abbrev pub depth_fun_binds : List FunBind → ℕ
depth_fun_binds [] = 0
depth_fun_binds (b ∷ bs) = max (max (depth_parameter b.parameter) (max (depth_maybe_sig b.result) (depth_str b.body))) (depth_fun_binds bs)

abbrev pub depth_sig_binds : List SigBind → ℕ
depth_sig_binds [] = 0
depth_sig_binds (b ∷ bs) = max (depth_sig b.sigexp) (depth_sig_binds bs)

abbrev pub depth_top : Top → ℕ
depth_top (str_top d) = depth_str_dec d
depth_top (signature_top p bs) = depth_sig_binds bs
depth_top (functor_top p bs) = depth_fun_binds bs
depth_top (exp_top e) = depth e

abbrev pub depth_tops : List Top → ℕ
depth_tops [] = 0
depth_tops (t ∷ ts) = max (depth_top t) (depth_tops ts)
