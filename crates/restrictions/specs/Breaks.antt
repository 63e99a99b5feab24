-- What is broken in a bare tree, by recursion along the tree: the same as `broken_to` has by levels (`proofs/Levels`), in the same order.
use Rattle.std.specs.Prelude.{ℕ, List, [], ◌++◌, flat_map, Option, Some, None}
use Rattle.mlc_base.specs.declared.place.Place.{Place}
use Rattle.sml_tree.specs.BareTree as bare
use Rattle.sml_tree.specs.BareTree.{Ty, Tys, TyFields, TypeBind, ConBind, DataBind, ExBind, Pat, PatFields, Exp, ExpFields, Rules, Decs, Dec, Binds}
use Rattle.sml_tree.specs.Phrases.{Phrase, exp, pat, ty, dec, rule, bind, type_bind, data_bind, con_bind, ex_bind}
use Rattle.core_rules.specs.Scoping.{scoped_at, tyvar_names}
use Rattle.core_rules.specs.Restrictions.{broken_by, broken_by_dec, unless_fn}

-- the scope inside a declaration of values
abbrev pub scope_in : List ℕ → List Rattle.sml_tree.specs.declared.ident.Tyvar.Tyvar → Binds → Binds → List ℕ
scope_in s as_ bs rs = tyvar_names (scoped_at s as_ bs rs) ++ s

abbrev mutual
  pub ty_breaks : Ty → List Place
  ty_breaks (bare.var p a) = []
  ty_breaks (bare.fields p fs) = ty_fields_breaks fs ++ broken_by [] (ty (bare.fields p fs))
  ty_breaks (bare.con p ts q c) = tys_breaks ts
  ty_breaks (bare.arrow p t u) = ty_breaks t ++ ty_breaks u
  ty_breaks (bare.ill p) = []

  pub tys_breaks : Tys → List Place
  tys_breaks bare.no_tys = []
  tys_breaks (bare.ty t ts) = ty_breaks t ++ tys_breaks ts

  pub ty_fields_breaks : TyFields → List Place
  ty_fields_breaks bare.no_ty_fields = []
  ty_fields_breaks (bare.ty_field l t fs) = ty_breaks t ++ ty_fields_breaks fs

abbrev pub some_breaks : Option Ty → List Place
some_breaks None = []
some_breaks (Some t) = ty_breaks t

abbrev pub type_bind_breaks : TypeBind → List Place
type_bind_breaks b = ty_breaks b.ty ++ broken_by [] (type_bind b)

abbrev pub con_bind_breaks : ConBind → List Place
con_bind_breaks c = some_breaks c.of_ty ++ broken_by [] (con_bind c)

abbrev pub data_bind_breaks : DataBind → List Place
data_bind_breaks b = flat_map con_bind_breaks b.cons ++ broken_by [] (data_bind b)

abbrev pub ex_bind_breaks : ExBind → List Place
ex_bind_breaks (bare.new_exn p x t) = some_breaks t ++ broken_by [] (ex_bind (bare.new_exn p x t))
ex_bind_breaks (bare.same_exn p x q y) = broken_by [] (ex_bind (bare.same_exn p x q y))

abbrev mutual
  pub pat_breaks : Pat → List Place
  pat_breaks (bare.wild_pat p) = []
  pat_breaks (bare.constant_pat p c) = []
  pat_breaks (bare.vid_pat p x) = []
  pat_breaks (bare.built_pat p b) = []
  pat_breaks (bare.fields_pat p fs b) = pat_fields_breaks fs ++ broken_by [] (pat (bare.fields_pat p fs b))
  pat_breaks (bare.con_pat p q x a) = pat_breaks a
  pat_breaks (bare.built_con_pat p b a) = pat_breaks a
  pat_breaks (bare.typed_pat p a t) = pat_breaks a ++ ty_breaks t
  pat_breaks (bare.as_pat p v t a) = some_breaks t ++ pat_breaks a

  pub pat_fields_breaks : PatFields → List Place
  pat_fields_breaks bare.no_pat_fields = []
  pat_fields_breaks (bare.pat_field l a fs) = pat_breaks a ++ pat_fields_breaks fs

-- with the type variables that are scoped round it
abbrev mutual
  pub exp_breaks : List ℕ → Exp → List Place
  exp_breaks s (bare.constant_exp p c) = []
  exp_breaks s (bare.vid_exp p x) = []
  exp_breaks s (bare.built_exp p b) = []
  exp_breaks s (bare.fields_exp p fs) = exp_fields_breaks s fs ++ broken_by [] (exp (bare.fields_exp p fs))
  exp_breaks s (bare.let_in p ds e) = decs_breaks s ds ++ exp_breaks s e
  exp_breaks s (bare.app p f a) = exp_breaks s f ++ exp_breaks s a
  exp_breaks s (bare.typed p e t) = exp_breaks s e ++ ty_breaks t
  exp_breaks s (bare.handle p e rs) = exp_breaks s e ++ rules_breaks s rs
  exp_breaks s (bare.raise p e) = exp_breaks s e
  exp_breaks s (bare.fn p rs) = rules_breaks s rs

  pub exp_fields_breaks : List ℕ → ExpFields → List Place
  exp_fields_breaks s bare.no_exp_fields = []
  exp_fields_breaks s (bare.exp_field l e fs) = exp_breaks s e ++ exp_fields_breaks s fs

  pub rules_breaks : List ℕ → Rules → List Place
  rules_breaks s bare.no_rules = []
  rules_breaks s (bare.rule p a e rs) = (pat_breaks a ++ exp_breaks s e) ++ rules_breaks s rs

  pub decs_breaks : List ℕ → Decs → List Place
  decs_breaks s bare.no_decs = []
  decs_breaks s (bare.dec d ds) = dec_breaks s d ++ decs_breaks s ds

  pub dec_breaks : List ℕ → Dec → List Place
  dec_breaks s (bare.val_dec p q as_ bs rs) = (binds_breaks (scope_in s as_ bs rs) bs ++ recs_breaks (scope_in s as_ bs rs) rs) ++ broken_by_dec s (bare.val_dec p q as_ bs rs)
  dec_breaks s (bare.type_dec p bs) = flat_map type_bind_breaks bs ++ broken_by_dec [] (bare.type_dec p bs)
  dec_breaks s (bare.datatype_dec p bs) = flat_map data_bind_breaks bs ++ broken_by_dec [] (bare.datatype_dec p bs)
  dec_breaks s (bare.replicate_dec p x c) = []
  dec_breaks s (bare.exception_dec p bs) = flat_map ex_bind_breaks bs ++ broken_by_dec [] (bare.exception_dec p bs)
  dec_breaks s (bare.local_dec p ds es) = decs_breaks s ds ++ decs_breaks s es
  dec_breaks s (bare.open_dec p xs) = []
  dec_breaks s (bare.sequence_dec p ds) = decs_breaks s ds ++ broken_by_dec [] (bare.sequence_dec p ds)

  pub binds_breaks : List ℕ → Binds → List Place
  binds_breaks s bare.no_binds = []
  binds_breaks s (bare.bind p a e bs) = (pat_breaks a ++ exp_breaks s e) ++ binds_breaks s bs

  -- behind `rec`
  pub recs_breaks : List ℕ → Binds → List Place
  recs_breaks s bare.no_binds = []
  recs_breaks s (bare.bind p a e bs) = ((pat_breaks a ++ exp_breaks s e) ++ unless_fn (bind p a e)) ++ recs_breaks s bs

abbrev pub phrase_breaks : List ℕ → Phrase → List Place
phrase_breaks s (exp e) = exp_breaks s e
phrase_breaks s (pat a) = pat_breaks a
phrase_breaks s (ty t) = ty_breaks t
phrase_breaks s (dec d) = dec_breaks s d
phrase_breaks s (rule p a e) = pat_breaks a ++ exp_breaks s e
phrase_breaks s (bind p a e) = pat_breaks a ++ exp_breaks s e
phrase_breaks s (type_bind b) = type_bind_breaks b
phrase_breaks s (data_bind b) = data_bind_breaks b
phrase_breaks s (con_bind c) = con_bind_breaks c
phrase_breaks s (ex_bind b) = ex_bind_breaks b
