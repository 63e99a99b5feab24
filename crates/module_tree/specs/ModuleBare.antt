-- The bare tree of a program that was read: each derived form of modules (the Definition, Appendix A) is what it stands for.
use Rattle.std.specs.Prelude.{ℕ, List, [], ◌∷◌, map, if◌then◌else◌}
use Rattle.sml_tree.specs.declared.ident.Vid.TheVariants.{Named}
use Rattle.sml_tree.specs.BareTree as core
use Rattle.sml_tree.specs.Bare.{at, bare_ty, bare_some, bare_long, bare_exp, bare_dec, is_directive}
use Rattle.sml_tree.specs.ReadTree.{Placed, TypeBind, Exp, exp_place}
use Rattle.module_tree.specs.BareModules as bare
use Rattle.module_tree.specs.ReadModules.{TypeDesc, ConDesc, DataDesc, ValDesc, WhereType, SigExp, sig_end, sig_id, where_type, Specs, no_specs, spec, Spec, val_spec, type_spec, abbreviation_spec, eqtype_spec, datatype_spec, replication_spec, exception_spec, structure_spec, include_spec, include_ids, sharing_spec, StrDescs, last_desc, desc_and, MaybeSig, no_sig, sealed, StrExp, struct_end, str_id, constrained, applied, applied_to_decs, let_str, StrDecs, no_str_decs, str_dec, StrDec, core_dec, structure_dec, local_str, StrBinds, last_str, str_and, StrBind, str_bind, Parameter, structure_parameter, spec_parameter, FunBind, SigBind, Top, str_top, signature_top, functor_top, exp_top, str_place}

abbrev pub id_at : ℕ → Placed ℕ → bare.IdAt
id_at f x = record { place = at f x.place; id = x.it }

abbrev pub bare_val_desc : ℕ → ValDesc → bare.ValDesc
bare_val_desc f v = record { place = at f v.place; vid = v.vid; ty = bare_ty f v.ty }

abbrev pub bare_type_desc : ℕ → TypeDesc → bare.TypeDesc
bare_type_desc f d = record { place = at f d.place; tyvars = d.tyvars; tycon = d.tycon }

abbrev pub bare_con_desc : ℕ → ConDesc → bare.ConDesc
bare_con_desc f c = record { place = at f c.place; vid = c.vid; of_ty = bare_some f c.of_ty }

abbrev pub bare_data_desc : ℕ → DataDesc → bare.DataDesc
bare_data_desc f d = record { place = at f d.place; tyvars = d.tyvars; tycon = d.tycon; cons = map (bare_con_desc f) d.cons }

-- where type a and type b: where type a where type b
abbrev pub where_all : ℕ → bare.SigExp → List WhereType → bare.SigExp
where_all f g [] = g
where_all f g (w ∷ ws) = where_all f (bare.where_type g (at f w.place) (at f w.tyvars_place) w.tyvars (bare_long f w.tycon) (bare_ty f w.ty)) ws

-- type tyvarseq tycon = ty: include sig type tyvarseq tycon end where type tyvarseq tycon = ty
abbrev pub abbreviated : ℕ → TypeBind → bare.Spec
abbreviated f b = bare.include_spec (at f b.place) (bare.where_type
    (bare.sig_end (at f b.place)
    (bare.spec (bare.type_spec (at f b.place) (record { place = at f b.place; tyvars = b.tyvars; tycon = b.tycon } ∷ [])) bare.no_specs))
    (at f b.place) (at f b.place) b.tyvars (record { place = at f b.place; long = record { qualifiers = []; id = b.tycon } }) (bare_ty f b.ty))

-- type .. and ..: type .. type ..
abbrev pub abbreviated_all : ℕ → List TypeBind → bare.Specs → bare.Specs
abbreviated_all f [] ss = ss
abbreviated_all f (b ∷ bs) ss = bare.spec (abbreviated f b) (abbreviated_all f bs ss)

-- include A B: include A include B
abbrev pub included_all : ℕ → ℕ → List (Placed ℕ) → bare.Specs → bare.Specs
included_all f p [] ss = ss
included_all f p (x ∷ xs) ss = bare.spec (bare.include_spec (at f p) (bare.sig_id (id_at f x))) (included_all f p xs ss)

abbrev mutual
  pub bare_sig : ℕ → SigExp → bare.SigExp
  bare_sig f (sig_end p ss) = bare.sig_end (at f p) (bare_specs f ss)
  bare_sig f (sig_id p x) = bare.sig_id (record { place = at f p; id = x })
  bare_sig f (where_type g ws) = where_all f (bare_sig f g) ws

  pub bare_specs : ℕ → Specs → bare.Specs
  bare_specs f no_specs = bare.no_specs
  bare_specs f (spec s ss) = bare_spec f s (bare_specs f ss)

  -- a specification before others
  pub bare_spec : ℕ → Spec → bare.Specs → bare.Specs
  bare_spec f (val_spec p vs) ss = bare.spec (bare.val_spec (at f p) (map (bare_val_desc f) vs)) ss
  bare_spec f (type_spec p ts) ss = bare.spec (bare.type_spec (at f p) (map (bare_type_desc f) ts)) ss
  bare_spec f (abbreviation_spec p bs) ss = abbreviated_all f bs ss
  bare_spec f (eqtype_spec p ts) ss = bare.spec (bare.eqtype_spec (at f p) (map (bare_type_desc f) ts)) ss
  bare_spec f (datatype_spec p ds) ss = bare.spec (bare.datatype_spec (at f p) (map (bare_data_desc f) ds)) ss
  bare_spec f (replication_spec p x c) ss = bare.spec (bare.replication_spec (at f p) (id_at f x) (bare_long f c)) ss
  bare_spec f (exception_spec p cs) ss = bare.spec (bare.exception_spec (at f p) (map (bare_con_desc f) cs)) ss
  bare_spec f (structure_spec p ds) ss = bare.spec (bare.structure_spec (at f p) (bare_str_descs f ds)) ss
  bare_spec f (include_spec p g) ss = bare.spec (bare.include_spec (at f p) (bare_sig f g)) ss
  bare_spec f (include_ids p xs) ss = included_all f p xs ss
  bare_spec f (sharing_spec p cs) ss = bare.spec (bare.sharing_spec (at f p) (map (bare_long f) cs)) ss

  pub bare_str_descs : ℕ → StrDescs → bare.StrDescs
  bare_str_descs f (last_desc x g) = bare.desc (id_at f x) (bare_sig f g) bare.no_descs
  bare_str_descs f (desc_and x g ds) = bare.desc (id_at f x) (bare_sig f g) (bare_str_descs f ds)

-- S : G = e is S = e : G
abbrev pub constrained_if : ℕ → ℕ → MaybeSig → bare.StrExp → bare.StrExp
constrained_if f p no_sig s = s
constrained_if f p (sealed k g) s = bare.constrained (at f p) s k (bare_sig f g)

abbrev mutual
  pub bare_str : ℕ → StrExp → bare.StrExp
  bare_str f (struct_end p ds) = bare.struct_end (at f p) (bare_str_decs f ds)
  bare_str f (str_id x) = bare.str_id (bare_long f x)
  bare_str f (constrained s k g) = bare.constrained (at f (str_place s)) (bare_str f s) k (bare_sig f g)
  bare_str f (applied x s) = bare.applied (id_at f x) (bare_str f s)
  -- F (strdec) is F (struct strdec end)
  bare_str f (applied_to_decs x ds) = bare.applied (id_at f x) (bare.struct_end (at f x.place) (bare_str_decs f ds))
  bare_str f (let_str p ds s) = bare.let_str (at f p) (bare_str_decs f ds) (bare_str f s)

  pub bare_str_decs : ℕ → StrDecs → bare.StrDecs
  bare_str_decs f no_str_decs = bare.no_str_decs
  bare_str_decs f (str_dec d ds) = bare_str_dec f d (bare_str_decs f ds)

  -- a declaration before others; directives of fixity leave nothing
  pub bare_str_dec : ℕ → StrDec → bare.StrDecs → bare.StrDecs
  bare_str_dec f (core_dec d) ds = if is_directive d then ds else bare.str_dec (bare.core_dec (bare_dec f d)) ds
  bare_str_dec f (structure_dec p bs) ds = bare.str_dec (bare.structure_dec (at f p) (bare_str_binds f bs)) ds
  bare_str_dec f (local_str p ds es) ds' = bare.str_dec (bare.local_str (at f p) (bare_str_decs f ds) (bare_str_decs f es)) ds'

  pub bare_str_binds : ℕ → StrBinds → bare.StrBinds
  bare_str_binds f (last_str b) = bare_str_bind f b bare.no_binds
  bare_str_binds f (str_and b bs) = bare_str_bind f b (bare_str_binds f bs)

  -- a binding before others
  pub bare_str_bind : ℕ → StrBind → bare.StrBinds → bare.StrBinds
  bare_str_bind f (str_bind x g s) bs = bare.str_bind (id_at f x) (constrained_if f (str_place s) g (bare_str f s)) bs

abbrev pub bare_parameter : ℕ → Parameter → bare.Parameter
bare_parameter f (structure_parameter x g) = bare.named (id_at f x) (bare_sig f g)
bare_parameter f (spec_parameter p ss) = bare.opened (bare.sig_end (at f p) (bare_specs f ss))

abbrev pub bare_fun_bind : ℕ → FunBind → bare.FunBind
bare_fun_bind f b =
    record { funid = id_at f b.funid; parameter = bare_parameter f b.parameter; body = constrained_if f (str_place b.body) b.result (bare_str f b.body) }

abbrev pub bare_sig_bind : ℕ → SigBind → bare.SigBind
bare_sig_bind f b = record { sigid = id_at f b.sigid; sigexp = bare_sig f b.sigexp }

-- exp ;: val it = exp, where `it` is the name of that identifier
abbrev pub bare_it : ℕ → ℕ → Exp → core.Dec
bare_it it f e = core.val_dec (at f (exp_place e)) (at f (exp_place e)) []
    (core.bind (at f (exp_place e)) (core.vid_pat (at f (exp_place e)) (record { qualifiers = []; vid = Named it })) (bare_exp f e) core.no_binds) core.no_binds

-- the bare declarations of one declaration in a list, at a source's top
abbrev pub tops_of : bare.StrDecs → List bare.Top → List bare.Top
tops_of bare.no_str_decs ts = ts
tops_of (bare.str_dec d ds) ts = bare.str_top d ∷ tops_of ds ts

abbrev pub bare_top : ℕ → ℕ → Top → List bare.Top → List bare.Top
bare_top it f (str_top d) ts = tops_of (bare_str_dec f d bare.no_str_decs) ts
bare_top it f (signature_top p bs) ts = bare.signature_top (at f p) (map (bare_sig_bind f) bs) ∷ ts
bare_top it f (functor_top p bs) ts = bare.functor_top (at f p) (map (bare_fun_bind f) bs) ∷ ts
bare_top it f (exp_top e) ts = bare.str_top (bare.core_dec (bare_it it f e)) ∷ ts

abbrev pub bare_tops : ℕ → ℕ → List Top → List bare.Top
bare_tops it f [] = []
bare_tops it f (t ∷ ts) = bare_top it f t (bare_tops it f ts)
