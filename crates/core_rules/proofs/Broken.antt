-- Restrictions, one tree or two for each: the places that break it, inner phrases before those round them.
use Rattle.std.proofs.Common.{◌≡◌, ℕ, false, List, [], ◌∷◌, refl, Some, None}
use Rattle.mlc_names.specs.declared.label.Label.{Label}
use Rattle.mlc_names.specs.declared.label.Label.TheVariants.{Word}
use Rattle.mlc_base.specs.declared.place.Place.{Place}
use Rattle.sml_tree.specs.declared.ident.Tyvar.{Tyvar}
use Rattle.sml_tree.specs.declared.ident.Vid.TheVariants.{Equals}
use Rattle.sml_tree.specs.Derived.{withtype_of}
use Rattle.sml_tree.specs.BareTree.{Ty, var, fields, ty_field, no_ty_fields, wild_pat, fields_pat, pat_field, no_pat_fields, typed_pat, Exp, fields_exp, exp_field, no_exp_fields, let_in, fn, no_rules, Dec, val_dec, type_dec, datatype_dec, exception_dec, new_exn, same_exn, bind, no_binds, TypeBind, ConBind, DataBind}
use Rattle.sml_tree.specs.Derived.{short}
use Rattle.core_rules.specs.Restrictions.{broken_in}
use Rattle.mlc_names.specs.StandardWords.{word_int, word_it, word_ref}
use Rattle.core_rules.proofs.Words.{at, num, v, vid, pv, tycon, decs, val, fun, clause, one_rule, word_A, word_B, word_E, word_a, word_b, word_f, word_g, word_id, word_l, word_t, word_x, word_y}

abbrev place : ℕ → Place
place n = record { file = 1; byte = n }

abbrev places : List ℕ → List Place
places [] = []
places (n ∷ ns) = place n ∷ places ns

abbrev broken : List Dec → List Place
broken ds = broken_in (decs ds)

abbrev a : Label
a = Word word_a

abbrev b : Label
b = Word word_b

-- fun id x = x
nothing_broken : broken (fun word_id (clause (pv word_x ∷ []) (v word_x) ∷ []) ∷ []) ≡ []
nothing_broken = refl

-- {a = {b = 1, b = 2}, a = 3}, and {a = 1, b = 2}
abbrev doubled : Exp
doubled = fields_exp (place 1) (exp_field a (fields_exp (place 2) (exp_field b (num 1) (exp_field b (num 2) no_exp_fields))) (exp_field a (num 3) no_exp_fields))

labels_of_records : broken (val (pv word_x) doubled ∷ []) ≡ places (2 ∷ 1 ∷ [])
labels_of_records = refl

labels_apart : broken (val (pv word_x) (fields_exp (place 1) (exp_field a (num 1) (exp_field b (num 2) no_exp_fields))) ∷ []) ≡ []
labels_apart = refl

-- val {a = x, a = y} = 1
labels_of_patterns : broken (val (fields_pat (place 1) (pat_field a (pv word_x) (pat_field a (pv word_y) no_pat_fields)) false) (num 1) ∷ []) ≡ places (1 ∷ [])
labels_of_patterns = refl

-- val _ : {a : int, a : int} = 1
labels_of_types : broken (val (typed_pat at (wild_pat at) (fields (place 1) (ty_field a (tycon word_int) (ty_field a (tycon word_int) no_ty_fields)))) (num 1) ∷ []) ≡ places (1 ∷ [])
labels_of_types = refl

abbrev type_is : List Tyvar → ℕ → Ty → TypeBind
type_is as_ t u = record { place = place 3; tyvars = as_; tycon = t; ty = u }

abbrev con_is : ℕ → ℕ → ConBind
con_is n c = record { place = place n; vid = vid c; of_ty = None }

abbrev data_is : List Tyvar → ℕ → List ConBind → DataBind
data_is as_ t cs = record { place = place 4; tyvars = as_; tycon = t; cons = cs }

-- type t = int and t = int
type_twice : broken (type_dec (place 1) (type_is [] word_t (tycon word_int) ∷ type_is [] word_t (tycon word_int) ∷ []) ∷ []) ≡ places (1 ∷ [])
type_twice = refl

-- datatype t = A and l = A; datatype t = A withtype t = int
constructor_twice : broken (datatype_dec (place 1) (data_is [] word_t (con_is 5 word_A ∷ []) ∷ data_is [] word_l (con_is 6 word_A ∷ []) ∷ []) ∷ []) ≡ places (1 ∷ [])
constructor_twice = refl

withtype_counts : broken (withtype_of (place 1) (data_is [] word_t (con_is 5 word_A ∷ []) ∷ []) (type_is [] word_t (tycon word_int) ∷ []) ∷ []) ≡ places (1 ∷ [])
withtype_counts = refl

-- exception E and E = A
exception_twice : broken (exception_dec (place 1) (new_exn (place 2) (vid word_E) None ∷ same_exn (place 3) (vid word_E) at (short (vid word_A)) ∷ []) ∷ []) ≡ places (1 ∷ [])
exception_twice = refl

abbrev tyvar : ℕ → Tyvar
tyvar s = record { name = s; equality = false }

-- datatype ('a, 'a) t = A; val ('a, 'a) x = 1
variable_twice : broken (datatype_dec (place 1) (data_is (tyvar word_a ∷ tyvar word_a ∷ []) word_t (con_is 5 word_A ∷ []) ∷ []) ∷ []) ≡ places (4 ∷ [])
variable_twice = refl

sequence_twice : broken (val_dec (place 1) (place 2) (tyvar word_a ∷ tyvar word_a ∷ []) (bind at (pv word_x) (num 1) no_binds) no_binds ∷ []) ≡ places (2 ∷ [])
sequence_twice = refl

-- type t = 'b; datatype 'a t = A | B of 'b
other_variable : broken (type_dec (place 1) (type_is (tyvar word_a ∷ []) word_t (var (place 7) (tyvar word_b)) ∷ []) ∷ []) ≡ places (7 ∷ [])
other_variable = refl

other_variable_of : broken (datatype_dec (place 1) (data_is (tyvar word_a ∷ []) word_t (con_is 5 word_A ∷ record { place = place 6; vid = vid word_B; of_ty = Some (var at (tyvar word_b)) } ∷ []) ∷ []) ∷ []) ≡ places (5 ∷ [])
other_variable_of = refl

-- val 'a f = fn x => let val 'a g = x in g end: 'a is scoped already; with 'b for the second one it isn't
abbrev nested : ℕ → Dec
nested s = val_dec (place 1) (place 2) (tyvar word_a ∷ []) (bind at (pv word_f) (fn at (one_rule (pv word_x)
    (let_in at (decs (val_dec (place 3) (place 4) (tyvar s ∷ []) (bind at (pv word_g) (v word_x) no_binds) no_binds ∷ [])) (v word_g)) no_rules)) no_binds) no_binds

scoped_already : broken (nested word_a ∷ []) ≡ places (4 ∷ [])
scoped_already = refl

not_scoped : broken (nested word_b ∷ []) ≡ []
not_scoped = refl

-- val rec f = doubled
not_a_function : broken (val_dec at at [] no_binds (bind at (pv word_f) doubled no_binds) ∷ []) ≡ places (2 ∷ 1 ∷ 1 ∷ [])
not_a_function = refl

-- datatype t = ref | A; exception it; exception E = op =
kept_constructor : broken (datatype_dec (place 1) (data_is [] word_t (con_is 5 word_ref ∷ con_is 6 word_A ∷ []) ∷ []) ∷ []) ≡ places (5 ∷ [])
kept_constructor = refl

kept_exception : broken (exception_dec (place 1) (new_exn (place 2) (vid word_it) None ∷ new_exn (place 3) Equals None ∷ []) ∷ []) ≡ places (2 ∷ 3 ∷ [])
kept_exception = refl
