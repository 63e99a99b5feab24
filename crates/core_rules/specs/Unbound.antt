-- Identifiers that aren't bound where they stand, in the order of the phrases' ends.
-- What is in scope is told by an environment of the dynamic semantics, whose values don't matter.
use Rattle.std.specs.Prelude.{ℕ, zero, suc, if◌then◌else◌, List, [], ◌∷◌, ◌++◌, map, flat_map, length, Option, Some, None, option_map, option_and_then, unwrap_or}
use Rattle.mlc_base.specs.declared.place.Place.{Place}
use Rattle.sml_tree.specs.Terminal.{LongVid, LongId}
use Rattle.sml_tree.specs.declared.ident.Vid.{Vid}
use Rattle.ty_basis.specs.of_ty_core.declared.env.Status.TheVariants.{Exception}
use Rattle.sml_tree.specs.BareTree as bare
use Rattle.sml_tree.specs.BareTree.{Ty, Pat, con_pat, vid_pat, PatFields, Exp, vid_exp, let_in, Binds, no_binds, Decs, no_decs, Dec, val_dec, type_dec, datatype_dec, replicate_dec, exception_dec, local_dec, open_dec, sequence_dec, DataBind, ExBind, new_exn, same_exn}
use Rattle.sml_tree.specs.Phrases.{Phrase, exp, pat, ty, dec, rule, data_bind, ex_bind, bind_list, parts, phrases}
use Rattle.core_rules.specs.Values.{Env, nothing, value, tycon, plus, Found, long_value_in, along, tycon_in, unit_value}
use Rattle.core_rules.specs.Match.{is_variable, bound_to}
use Rattle.core_rules.specs.Eval.{types_env, datatypes_env, long_tycon_in, long_structure_in, opened, each_bound}

-- a value identifier, a type constructor or a structure, at its place
pub data Unbound : Type 0 where
  value_at : Place → LongVid → Unbound
  tycon_at : Place → LongId → Unbound
  structure_at : Place → LongId → Unbound

abbrev pub unless_bound : {A : Type 0} → Option A → Unbound → List Unbound
unless_bound o u = elim o [ None ↦ u ∷ [] | Some a ↦ [] ]

-- What declarations and patterns bind.

-- an identifier that stands alone in a pattern is bound by it unless it is a constructor or an exception
abbrev pub alone_names : Option Found → Vid → Env
alone_names o x = elim o [ None ↦ bound_to x unit_value | Some f ↦ if is_variable f.status then bound_to x unit_value else nothing ]

abbrev mutual
  pub pat_names : Env → Pat → Env
  pat_names e (vid_pat p x) = alone_names (long_value_in e x) x.vid
  pat_names e (bare.fields_pat p fs further) = fields_names e fs
  pat_names e (con_pat p q x a) = pat_names e a
  pat_names e (bare.built_con_pat p b a) = pat_names e a
  pat_names e (bare.typed_pat p a t) = pat_names e a
  pat_names e (bare.as_pat p x t a) = plus (bound_to x unit_value) (pat_names e a)
  pat_names e a = nothing

  pub fields_names : Env → PatFields → Env
  fields_names e bare.no_pat_fields = nothing
  fields_names e (bare.pat_field l a fs) = plus (pat_names e a) (fields_names e fs)

abbrev pub binds_names : Env → Binds → Env
binds_names e no_binds = nothing
binds_names e (bare.bind p a b bs) = plus (pat_names e a) (binds_names e bs)

abbrev pub rec_names : Binds → Env
rec_names no_binds = nothing
rec_names (bare.bind p a b bs) = each_bound a unit_value (rec_names bs)

abbrev pub exns_names : List ExBind → Env
exns_names [] = nothing
exns_names (new_exn p x t ∷ bs) = value x Exception unit_value (exns_names bs)
exns_names (same_exn p x q y ∷ bs) = value x Exception unit_value (exns_names bs)

abbrev pub tycons_names : List DataBind → Env
tycons_names [] = nothing
tycons_names (b ∷ bs) = tycon b.tycon nothing (tycons_names bs)

abbrev mutual
  pub decs_names : Env → Decs → Env
  decs_names e no_decs = nothing
  decs_names e (bare.dec d ds) = plus (dec_names e d) (decs_names (plus e (dec_names e d)) ds)

  pub dec_names : Env → Dec → Env
  dec_names e (val_dec p q as_ bs rs) = plus (binds_names e bs) (rec_names rs)
  dec_names e (type_dec p bs) = types_env bs
  dec_names e (datatype_dec p bs) = datatypes_env bs
  dec_names e (replicate_dec p x y) = unwrap_or (option_map (λ d. tycon x d d) (long_tycon_in e y)) nothing
  dec_names e (exception_dec p bs) = exns_names bs
  dec_names e (local_dec p ds ds') = decs_names (plus e (decs_names e ds)) ds'
  dec_names e (open_dec p xs) = unwrap_or (opened e xs) nothing
  dec_names e (sequence_dec p ds) = decs_names e ds

-- The parts of a phrase, each with what is in scope there.

pub record Scoped : Type 0 where
  pub scope : Env
  pub phrase : Phrase

abbrev pub all_in : Env → List Phrase → List Scoped
all_in e = map (λ x. record { scope = e; phrase = x })

abbrev pub decs_in : Env → Decs → List Scoped
decs_in e no_decs = []
decs_in e (bare.dec d ds) = record { scope = e; phrase = dec d } ∷ decs_in (plus e (dec_names e d)) ds

abbrev pub parts_in : Env → Phrase → List Scoped
parts_in e (exp (let_in p ds b)) = decs_in e ds ++ all_in (plus e (decs_names e ds)) (exp b ∷ [])
parts_in e (dec (val_dec p q as_ bs rs)) = all_in e (bind_list bs) ++ all_in (plus e (rec_names rs)) (bind_list rs)
parts_in e (dec (datatype_dec p bs)) = all_in (plus e (tycons_names bs)) (map data_bind bs)
parts_in e (dec (local_dec p ds ds')) = decs_in e ds ++ decs_in (plus e (decs_names e ds)) ds'
parts_in e (dec (sequence_dec p ds)) = decs_in e ds
parts_in e (rule p a b) = all_in e (pat a ∷ []) ++ all_in (plus e (pat_names e a)) (exp b ∷ [])
parts_in e x = all_in e (parts x)

-- The identifiers of a phrase itself: a constructor stands before its argument in a pattern, and after it in a type.

-- an identifier without qualifiers is bound by the pattern, if it isn't matched
abbrev pub unless_alone : List ℕ → List Unbound → List Unbound
unless_alone qs us = elim qs [ [] ↦ [] | q ∷ rest ↦ us ]

abbrev pub own_unbound : Env → Phrase → List Unbound
own_unbound e (exp (vid_exp p x)) = unless_bound (long_value_in e x) (value_at p x)
own_unbound e (pat (con_pat p q x a)) = unless_bound (long_value_in e x) (value_at q x)
own_unbound e (pat (vid_pat p x)) = unless_alone x.qualifiers (unless_bound (long_value_in e x) (value_at p x))
own_unbound e (ty (bare.con p ts q x)) = unless_bound (option_and_then (λ d. tycon_in d x.id) (along e x.qualifiers)) (tycon_at q x)
own_unbound e (dec (replicate_dec p x y)) = unless_bound (long_tycon_in e y) (tycon_at y.place y.long)
own_unbound e (dec (open_dec p xs)) = flat_map (λ y. unless_bound (long_structure_in e y) (structure_at y.place y.long)) xs
own_unbound e (ex_bind (same_exn p x q y)) = unless_bound (long_value_in e y) (value_at q y)
own_unbound e x = []

abbrev pub with_parts : Env → Phrase → List Unbound → List Unbound
with_parts e x inner = elim x [ pat a ↦ own_unbound e (pat a) ++ inner | other ↦ inner ++ own_unbound e other ]

-- so many levels deep
abbrev pub unbound_to : ℕ → Env → Phrase → List Unbound
unbound_to zero e x = []
unbound_to (suc k) e x = with_parts e x (flat_map (λ s. unbound_to k s.scope s.phrase) (parts_in e x))

-- no phrase is deeper than it has phrases
abbrev pub unbound_in : Env → Decs → List Unbound
unbound_in e ds = flat_map (λ s. unbound_to (length (phrases s.phrase)) s.scope s.phrase) (decs_in e ds)
