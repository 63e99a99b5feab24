-- Derived forms of modules and what they stand for, by computation.
use Rattle.std.proofs.Common.{◌≡◌, ℕ, ◌+◌, pos, [], ◌∷◌, None, refl}
use Rattle.mlc_base.specs.declared.place.Place.{Place}
use Rattle.sml_tree.specs.Terminal.{int, LongId}
use Rattle.sml_tree.specs.declared.ident.Vid.TheVariants.{Named}
use Rattle.sml_tree.specs.BareTree as core
use Rattle.sml_tree.specs.ReadTree.{Placed, Ty, con_ty, no_tys, TypeBind, constant_exp, open_dec, fixity_dec}
use Rattle.module_tree.specs.BareModules as bare
use Rattle.module_tree.specs.ReadModules.{transparent, opaque, sig_end, sig_id, where_type, WhereType, no_specs, spec, Spec, type_spec, abbreviation_spec, include_ids, no_sig, sealed, str_id, applied_to_decs, no_str_decs, str_dec, StrDec, core_dec, structure_dec, local_str, last_str, str_bind, spec_parameter, functor_top, str_top, exp_top}
use Rattle.module_tree.specs.ModuleBare.{bare_specs, bare_sig, bare_str, bare_str_dec, bare_top}

abbrev file : ℕ
file = 7

abbrev A : ℕ
A = 20

abbrev B : ℕ
B = 21

abbrev x : ℕ
x = 22

abbrev y : ℕ
y = 23

abbrev it : ℕ
it = 24

abbrev at : ℕ → ℕ → Placed ℕ
at p z = record { place = p; it = z }

abbrev long_at : ℕ → ℕ → Placed LongId
long_at p z = record { place = p; it = record { qualifiers = []; id = z } }

abbrev place : ℕ → Place
place p = record { file = file; byte = p }

abbrev id : ℕ → ℕ → bare.IdAt
id p z = record { place = place p; id = z }

abbrev long : ℕ → ℕ → core.LongIdAt
long p z = record { place = place p; long = record { qualifiers = []; id = z } }

abbrev ty : ℕ → Ty
ty p = con_ty p no_tys (long_at p x)

abbrev con : ℕ → core.Ty
con p = core.con (place p) core.no_tys (place p) (record { qualifiers = []; id = x })

-- structure A : B = A
abbrev constrained_dec : StrDec
constrained_dec = structure_dec 0 (last_str (str_bind (at 1 A) (sealed transparent (sig_id 3 B)) (str_id (long_at 5 A))))

constrained : bare_str_dec file constrained_dec bare.no_str_decs
    ≡ bare.str_dec (bare.structure_dec (place 0) (bare.str_bind (id 1 A) (bare.constrained (place 5) (bare.str_id (long 5 A)) transparent (bare.sig_id (id 3 B))) bare.no_binds))
    bare.no_str_decs
constrained = refl

-- A (open B)
applied : bare_str file (applied_to_decs (at 0 A) (str_dec (core_dec (open_dec 1 (long_at 2 B ∷ []))) no_str_decs))
    ≡ bare.applied (id 0 A) (bare.struct_end (place 0) (bare.str_dec (bare.core_dec (core.open_dec (place 1) (long 2 B ∷ []))) bare.no_str_decs))
applied = refl

-- functor A (type x) :> B = A
functor : bare_top it file (functor_top 0 (record {
  funid = at 1 A;
  parameter = spec_parameter 2 (spec (type_spec 3 (record { place = 4; tyvars = []; tycon = x } ∷ [])) no_specs);
  result = sealed opaque (sig_id 6 B);
  body = str_id (long_at 8 A);
} ∷ [])) []
    ≡ bare.functor_top (place 0) (record {
      funid = id 1 A;
      parameter = bare.opened (bare.sig_end (place 2) (bare.spec (bare.type_spec (place 3) (record { place = place 4; tyvars = []; tycon = x } ∷ [])) bare.no_specs));
      body = bare.constrained (place 8) (bare.str_id (long 8 A)) opaque (bare.sig_id (id 6 B));
    } ∷ []) ∷ []
functor = refl

-- type x = x and y = x: one specification after the other
abbrev bind : ℕ → ℕ → TypeBind
bind p z = record { place = p; tyvars = []; tycon = z; ty = ty (p + 2) }

abbrev abbreviation : ℕ → ℕ → bare.Spec
abbreviation p z = bare.include_spec (place p) (bare.where_type
    (bare.sig_end (place p) (bare.spec (bare.type_spec (place p) (record { place = place p; tyvars = []; tycon = z } ∷ [])) bare.no_specs))
    (place p) (place p) [] (long p z) (con (p + 2)))

abbreviations : bare_specs file (spec (abbreviation_spec 0 (bind 1 x ∷ bind 5 y ∷ [])) no_specs)
    ≡ bare.spec (abbreviation 1 x) (bare.spec (abbreviation 5 y) bare.no_specs)
abbreviations = refl

-- A where type x = x and type y = x
abbrev where_is : ℕ → ℕ → WhereType
where_is p z = record { place = p; tyvars_place = p; tyvars = []; tycon = long_at (p + 1) z; ty = ty (p + 3) }

wheres : bare_sig file (where_type (sig_id 0 A) (where_is 2 x ∷ where_is 7 y ∷ []))
    ≡ bare.where_type (bare.where_type (bare.sig_id (id 0 A)) (place 2) (place 2) [] (long 3 x) (con 5)) (place 7) (place 7) [] (long 8 y) (con 10)
wheres = refl

-- include A B
includes : bare_specs file (spec (include_ids 0 (at 1 A ∷ at 2 B ∷ [])) no_specs)
    ≡ bare.spec (bare.include_spec (place 0) (bare.sig_id (id 1 A))) (bare.spec (bare.include_spec (place 0) (bare.sig_id (id 2 B))) bare.no_specs)
includes = refl

-- 1 ; is val it = 1
expression : bare_top it file (exp_top (constant_exp 0 (int (pos 1)))) []
    ≡ bare.str_top (bare.core_dec (core.val_dec (place 0) (place 0) []
    (core.bind (place 0) (core.vid_pat (place 0) (record { qualifiers = []; vid = Named it })) (core.constant_exp (place 0) (int (pos 1))) core.no_binds) core.no_binds)) ∷ []
expression = refl

-- local nonfix x in structure A = B end: a directive leaves nothing
directive : bare_str_dec file (local_str 0 (str_dec (core_dec (fixity_dec 1 None (x ∷ []))) no_str_decs)
    (str_dec (structure_dec 4 (last_str (str_bind (at 5 A) no_sig (str_id (long_at 7 B))))) no_str_decs)) bare.no_str_decs
    ≡ bare.str_dec (bare.local_str (place 0) bare.no_str_decs
    (bare.str_dec (bare.structure_dec (place 4) (bare.str_bind (id 5 A) (bare.str_id (long 7 B)) bare.no_binds)) bare.no_str_decs)) bare.no_str_decs
directive = refl
