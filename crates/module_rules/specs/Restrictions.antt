-- The syntactic restrictions of programs with modules: the places of the phrases that break one, whatever is in scope, in the order of the phrases' ends,
-- inner ones first. [Definition 2.9, 3.5]
-- The order is that of the bare tree: a signature before the `=` of a structure's binding stands after the structure.
use Rattle.std.specs.Prelude.{ℕ, not, nat_eq, List, [], ◌∷◌, ◌++◌, map, flat_map, length}
use Rattle.mlc_base.specs.declared.place.Place.{Place}
use Rattle.sml_tree.specs.declared.ident.Tyvar.{Tyvar}
use Rattle.sml_tree.specs.declared.ident.Vid.TheVariants.{Named}
use Rattle.sml_tree.specs.BareTree as core
use Rattle.sml_tree.specs.BareTree.{Ty, ConBind, DataBind, ExBind, Dec, new_exn, datatype_dec, exception_dec}
use Rattle.sml_tree.specs.Phrases.{ty, phrases}
use Rattle.core_rules.specs.Scoping.{tyvars_in}
use Rattle.core_rules.specs.Restrictions.{distinct, is_kept, ty_place, unless, are_among, no_repetition, broken_to, broken_in}
use Rattle.module_tree.specs.BareModules as bare
use Rattle.module_tree.specs.BareModules.{TypeDesc, ConDesc, DataDesc, ValDesc, SigExp, Specs, Spec, StrDescs, StrExp, StrDecs, StrDec, StrBinds, Parameter, FunBind, Top}

-- what a declaration of the core breaks, and a type
abbrev pub in_dec : Dec → List Place
in_dec d = broken_in (core.dec d core.no_decs)

abbrev pub in_ty : Ty → List Place
in_ty t = broken_to (length (phrases (ty t))) [] (ty t)

-- A specification of datatypes breaks what a declaration of them does, and one of exceptions likewise: no type constructor, constructor or exception
-- twice in it, no identifier that is never bound, no type variable twice in a sequence, none on the right that isn't in it.

abbrev pub as_con : ConDesc → ConBind
as_con c = record { place = c.place; vid = Named c.vid; of_ty = c.of_ty }

abbrev pub as_data : DataDesc → DataBind
as_data d = record { place = d.place; tyvars = d.tyvars; tycon = d.tycon; cons = map as_con d.cons }

abbrev pub as_exn : ConDesc → ExBind
as_exn c = new_exn c.place (Named c.vid) c.of_ty

-- a value that is specified: no identifier that is never bound, but `it` may be
abbrev pub in_val_desc : ValDesc → List Place
in_val_desc v = in_ty v.ty ++ unless (not (is_kept (Named v.vid))) v.place

-- a type that is specified: no type variable twice in its sequence
abbrev pub in_type_desc : TypeDesc → List Place
in_type_desc d = unless (no_repetition d.tyvars) d.place

-- no type constructor twice in one specification
abbrev pub in_type_descs : Place → List TypeDesc → List Place
in_type_descs p ds = flat_map in_type_desc ds ++ unless (distinct nat_eq (map (λ d. d.tycon) ds)) p

-- after `where`, with the place of the sequence of type variables
abbrev pub in_where : Place → List Tyvar → Ty → List Place
in_where q as_ t = unless (no_repetition as_) q ++ in_ty t ++ unless (are_among as_ (tyvars_in (phrases (ty t)))) (ty_place t)

abbrev pub described : StrDescs → List ℕ
described bare.no_descs = []
described (bare.desc x g ds) = x.id ∷ described ds

abbrev mutual
  pub in_sig : SigExp → List Place
  in_sig (bare.sig_end p ss) = in_specs ss
  in_sig (bare.sig_id x) = []
  in_sig (bare.where_type g p q as_ c t) = in_sig g ++ in_where q as_ t

  pub in_specs : Specs → List Place
  in_specs bare.no_specs = []
  in_specs (bare.spec s ss) = in_spec s ++ in_specs ss

  -- no value identifier, and no identifier of a structure, twice in one specification
  pub in_spec : Spec → List Place
  in_spec (bare.val_spec p vs) = flat_map in_val_desc vs ++ unless (distinct nat_eq (map (λ v. v.vid) vs)) p
  in_spec (bare.type_spec p ds) = in_type_descs p ds
  in_spec (bare.eqtype_spec p ds) = in_type_descs p ds
  in_spec (bare.datatype_spec p ds) = in_dec (datatype_dec p (map as_data ds))
  in_spec (bare.replication_spec p x c) = []
  in_spec (bare.exception_spec p cs) = in_dec (exception_dec p (map as_exn cs))
  in_spec (bare.structure_spec p ds) = in_descs ds ++ unless (distinct nat_eq (described ds)) p
  in_spec (bare.include_spec p g) = in_sig g
  in_spec (bare.sharing_spec p cs) = []

  pub in_descs : StrDescs → List Place
  in_descs bare.no_descs = []
  in_descs (bare.desc x g ds) = in_sig g ++ in_descs ds

abbrev pub bound : StrBinds → List ℕ
bound bare.no_binds = []
bound (bare.str_bind x s bs) = x.id ∷ bound bs

abbrev mutual
  pub in_str : StrExp → List Place
  in_str (bare.struct_end p ds) = in_str_decs ds
  in_str (bare.str_id x) = []
  in_str (bare.constrained p s k g) = in_str s ++ in_sig g
  in_str (bare.applied x s) = in_str s
  in_str (bare.let_str p ds s) = in_str_decs ds ++ in_str s

  pub in_str_decs : StrDecs → List Place
  in_str_decs bare.no_str_decs = []
  in_str_decs (bare.str_dec d ds) = in_str_dec d ++ in_str_decs ds

  -- no identifier of a structure twice in one declaration
  pub in_str_dec : StrDec → List Place
  in_str_dec (bare.core_dec d) = in_dec d
  in_str_dec (bare.structure_dec p bs) = in_str_binds bs ++ unless (distinct nat_eq (bound bs)) p
  in_str_dec (bare.local_str p ds es) = in_str_decs ds ++ in_str_decs es

  pub in_str_binds : StrBinds → List Place
  in_str_binds bare.no_binds = []
  in_str_binds (bare.str_bind x s bs) = in_str s ++ in_str_binds bs

abbrev pub in_parameter : Parameter → List Place
in_parameter (bare.named x g) = in_sig g
in_parameter (bare.opened g) = in_sig g

abbrev pub in_fun_bind : FunBind → List Place
in_fun_bind b = in_parameter b.parameter ++ in_str b.body

-- no identifier of a signature or functor twice in one declaration
abbrev pub in_top : Top → List Place
in_top (bare.str_top d) = in_str_dec d
in_top (bare.signature_top p bs) = flat_map (λ b. in_sig b.sigexp) bs ++ unless (distinct nat_eq (map (λ b. b.sigid.id) bs)) p
in_top (bare.functor_top p bs) = flat_map in_fun_bind bs ++ unless (distinct nat_eq (map (λ b. b.funid.id) bs)) p

-- all that a source breaks
abbrev pub broken_in_tops : List Top → List Place
broken_in_tops ts = flat_map in_top ts
