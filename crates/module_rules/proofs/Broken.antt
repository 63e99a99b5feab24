-- Restrictions, one tree or two for each: the places that break it, inner phrases before those round them.
use Rattle.std.proofs.Common.{◌≡◌, ℕ, List, [], ◌∷◌, false, refl, None, Some}
use Rattle.mlc_names.specs.StandardWords.{word_int, word_it, word_true}
use Rattle.mlc_names.specs.declared.label.Label.TheVariants.{Word}
use Rattle.mlc_base.specs.declared.place.Place.{Place}
use Rattle.sml_tree.specs.declared.ident.Tyvar.{Tyvar}
use Rattle.sml_tree.specs.BareTree.{Ty, var, fields, no_ty_fields, ty_field, con, no_tys, type_dec}
use Rattle.module_tree.specs.BareModules.{IdAt, TypeDesc, ConDesc, DataDesc, ValDesc, sig_end, sig_id, where_type, no_specs, spec, Spec, val_spec, type_spec, eqtype_spec, datatype_spec, exception_spec, structure_spec, include_spec, no_descs, desc, struct_end, str_id, constrained, no_str_decs, str_dec, StrDec, core_dec, structure_dec, no_binds, str_bind, named, opened, str_top, signature_top, functor_top}
use Rattle.module_tree.specs.ReadModules.{transparent}
use Rattle.module_rules.specs.Restrictions.{broken_in_tops}

abbrev place : ℕ → Place
place n = record { file = 1; byte = n }

abbrev places : List ℕ → List Place
places [] = []
places (n ∷ ns) = place n ∷ places ns

abbrev A : ℕ
A = 300

abbrev B : ℕ
B = 301

abbrev x : ℕ
x = 302

abbrev y : ℕ
y = 303

abbrev a : Tyvar
a = record { name = 304; equality = false }

abbrev b : Tyvar
b = record { name = 305; equality = false }

abbrev id : ℕ → ℕ → IdAt
id p n = record { place = place p; id = n }

abbrev int : ℕ → Ty
int p = con (place p) no_tys (place p) (record { qualifiers = []; id = word_int })

abbrev is_var : ℕ → Tyvar → Ty
is_var p v = var (place p) v

abbrev val_is : ℕ → ℕ → Ty → ValDesc
val_is p v t = record { place = place p; vid = v; ty = t }

abbrev type_is : ℕ → List Tyvar → ℕ → TypeDesc
type_is p as_ t = record { place = place p; tyvars = as_; tycon = t }

abbrev con_is : ℕ → ℕ → ConDesc
con_is p v = record { place = place p; vid = v; of_ty = None }

abbrev data_is : ℕ → List Tyvar → ℕ → List ConDesc → DataDesc
data_is p as_ t cs = record { place = place p; tyvars = as_; tycon = t; cons = cs }

-- signature A = sig .. end
abbrev specified : Spec → List Place
specified s = broken_in_tops (signature_top (place 0) (record { sigid = id 0 A; sigexp = sig_end (place 0) (spec s no_specs) } ∷ []) ∷ [])

-- val x : int and y : int, and val it : int
nothing_broken : specified (val_spec (place 1) (val_is 2 x (int 3) ∷ val_is 4 y (int 5) ∷ val_is 6 word_it (int 7) ∷ [])) ≡ []
nothing_broken = refl

-- val x : int and x : int
values_twice : specified (val_spec (place 1) (val_is 2 x (int 3) ∷ val_is 4 x (int 5) ∷ [])) ≡ places (1 ∷ [])
values_twice = refl

-- val true : {x : int, x : int}
value_never_bound : specified (val_spec (place 1) (val_is 2 word_true (fields (place 3) (ty_field (Word x) (int 4) (ty_field (Word x) (int 5) no_ty_fields))) ∷ []))
    ≡ places (3 ∷ 2 ∷ [])
value_never_bound = refl

-- type ('a, 'a) x and x, and the same for eqtype
types_twice : specified (type_spec (place 1) (type_is 2 (a ∷ a ∷ []) x ∷ type_is 3 [] x ∷ [])) ≡ places (2 ∷ 1 ∷ [])
types_twice = refl

eqtypes_twice : specified (eqtype_spec (place 1) (type_is 2 (a ∷ b ∷ []) x ∷ type_is 3 [] x ∷ [])) ≡ places (1 ∷ [])
eqtypes_twice = refl

-- datatype x = A | A, and datatype x = A and y = A, and datatype x = it
constructor_twice : specified (datatype_spec (place 1) (data_is 2 [] x (con_is 3 A ∷ con_is 4 A ∷ []) ∷ [])) ≡ places (1 ∷ [])
constructor_twice = refl

constructor_of_two : specified (datatype_spec (place 1) (data_is 2 [] x (con_is 3 A ∷ []) ∷ data_is 4 [] y (con_is 5 A ∷ []) ∷ [])) ≡ places (1 ∷ [])
constructor_of_two = refl

constructor_never_bound : specified (datatype_spec (place 1) (data_is 2 [] x (con_is 3 word_it ∷ []) ∷ [])) ≡ places (3 ∷ [])
constructor_never_bound = refl

-- datatype 'a x = A of 'b
variable_of_datatype : specified (datatype_spec (place 1) (data_is 2 (a ∷ []) x (record { place = place 3; vid = A; of_ty = Some (is_var 4 b) } ∷ []) ∷ []))
    ≡ places (3 ∷ [])
variable_of_datatype = refl

-- exception A and A, and exception it
exception_twice : specified (exception_spec (place 1) (con_is 2 A ∷ con_is 3 A ∷ [])) ≡ places (1 ∷ [])
exception_twice = refl

exception_never_bound : specified (exception_spec (place 1) (con_is 2 word_it ∷ [])) ≡ places (2 ∷ [])
exception_never_bound = refl

-- structure A : A and A : A
structures_twice : specified (structure_spec (place 1) (desc (id 2 A) (sig_id (id 3 A)) (desc (id 4 A) (sig_id (id 5 A)) no_descs))) ≡ places (1 ∷ [])
structures_twice = refl

-- type x = int type x = int, of which `type x = int and x = int` is made: no restriction is broken, since these are two specifications
abbrev abbreviated : ℕ → Spec
abbreviated p = include_spec (place p) (where_type (sig_end (place p) (spec (type_spec (place p) (type_is p [] x ∷ [])) no_specs)) (place p) (place p) []
    (record { place = place p; long = record { qualifiers = []; id = x } }) (int p))

abbreviations_twice : broken_in_tops (signature_top (place 0) (record {
  sigid = id 0 A;
  sigexp = sig_end (place 0) (spec (abbreviated 1) (spec (abbreviated 2) no_specs));
} ∷ []) ∷ []) ≡ []
abbreviations_twice = refl

-- A where type ('a, 'a) x = 'b
where_variables : broken_in_tops (signature_top (place 0) (record {
  sigid = id 0 A;
  sigexp = where_type (sig_id (id 1 A)) (place 2) (place 3) (a ∷ a ∷ []) (record { place = place 4; long = record { qualifiers = []; id = x } }) (is_var 5 b);
} ∷ []) ∷ []) ≡ places (3 ∷ 5 ∷ [])
where_variables = refl

-- structure A = struct type x = int and x = int end : A and A = A: the core's restrictions inside
abbrev twice : StrDec
twice = core_dec (type_dec (place 2) (record { place = place 3; tyvars = []; tycon = x; ty = int 4 } ∷ record { place = place 5; tyvars = []; tycon = x; ty = int 6 } ∷ []))

structures_declared_twice : broken_in_tops (str_top (structure_dec (place 0)
    (str_bind (id 1 A) (constrained (place 1) (struct_end (place 1) (str_dec twice no_str_decs)) transparent (sig_id (id 7 A)))
    (str_bind (id 8 A) (str_id (record { place = place 9; long = record { qualifiers = []; id = A } })) no_binds))) ∷ []) ≡ places (2 ∷ 0 ∷ [])
structures_declared_twice = refl

-- signature A = A and A = A, and functor A (val x : int and x : int) = B and A (B : A) = B
signatures_twice : broken_in_tops (signature_top (place 0) (record { sigid = id 1 A; sigexp = sig_id (id 2 A) } ∷ record { sigid = id 3 A; sigexp = sig_id (id 4 A) } ∷ []) ∷ [])
    ≡ places (0 ∷ [])
signatures_twice = refl

functors_twice : broken_in_tops (functor_top (place 0)
    (record {
      funid = id 1 A;
      parameter = opened (sig_end (place 2) (spec (val_spec (place 3) (val_is 4 x (int 5) ∷ val_is 6 x (int 7) ∷ [])) no_specs));
      body = str_id (record { place = place 8; long = record { qualifiers = []; id = B } });
    }
    ∷ record { funid = id 9 A; parameter = named (id 10 B) (sig_id (id 11 A)); body = str_id (record { place = place 12; long = record { qualifiers = []; id = B } }) }
    ∷ []) ∷ []) ≡ places (3 ∷ 0 ∷ [])
functors_twice = refl
