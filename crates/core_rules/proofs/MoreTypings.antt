-- Further worked typings, and readings of the static rules.
use Rattle.std.proofs.Common.{◌≡◌, Bool, true, false, [], ◌∷◌, refl, Some, subst}
use Rattle.mlc_names.specs.StandardWords.{word_assign, word_nil, word_plus, word_ref}
use Rattle.mlc_names.specs.declared.label.Label.TheVariants.{Number, Word}
use Rattle.ty_basis.specs.of_ty_core.Types.{Typ, var, no_variable, admits}
use Rattle.ty_basis.specs.of_ty_core.declared.mark.Mark.TheVariants.{Any}
use Rattle.ty_basis.specs.of_ty_core.declared.env.Status.TheVariants.{Constructor, Variable}
use Rattle.sml_tree.specs.declared.ident.Tyvar.{Tyvar}
use Rattle.sml_tree.specs.Derived.{list_of, tuple_pat}
use Rattle.sml_tree.specs.BareTree.{Exp, Pat, Ty, var as ty_var, fields as ty_fields, ty_field, no_ty_fields, fn, fields_exp, exp_field, no_exp_fields, let_in, no_rules, Binds, bind, no_binds, Dec, datatype_dec, exception_dec, new_exn, val_dec}
use Rattle.ty_basis.specs.Types.{Row, function_type, row_type, pair_type, unit_type, int_type, list_type, ref_type}
use Rattle.ty_basis.specs.Primitives.{numbers}
use Rattle.core_rules.specs.Objects.{sorted, plus, no_env, values_env, Context, Env, Over, with_env, monomorphic}
use Rattle.core_rules.specs.Scoping.{scoped_at}
use Rattle.core_rules.specs.Elaborated.{type_of}
use Rattle.core_rules.specs.Initial.{for_all}
use Rattle.core_rules.specs.Choices.{Choices, no_choice, both, base, settled}
use Rattle.core_rules.specs.Typing.{HasType, PatHas, DecHas, DecsHave, is_non_expansive, closed, app_has, fn_has, record_has, exp_field_has, no_exp_field_has, constant_exp_has, built_exp_has, rule_has, no_rule_has, variable_has, constructor_has, fields_has, field_has, no_field_has, bind_has, no_bind_has, val_has, dec_has, no_dec_has, con_has, vid_has}
use Rattle.core_rules.proofs.Words.{at, num, v, vid, pv, ap as app, op, one_rule, val, do_, decs, tycon, word_A, word_E, word_a, word_b, word_f, word_t, word_x, pc}
use Rattle.core_rules.proofs.Typings.{start, inst-has, mono-has}
use Rattle.core_rules.proofs.Refused.{fresh, fresh_choices}
use Rattle.mlc_names.specs.StandardWords.{word_int}

abbrev Holds : Bool → Type 0
Holds true = Unit {0}
Holds false = ⊥

-- val x = ref [] val () = x := [1]: x has the type int list ref
abbrev pub assigns : Exp
assigns = op (v word_x) word_assign (list_of at (num 1 ∷ []))

abbrev pub ints : Typ
ints = list_type int_type

abbrev pub x_env : Env
x_env = closed [] ((vid word_x, ref_type ints) ∷ [])

abbrev with_x : Context
with_x = with_env start 0 x_env

pub ints-over : Over start.names ints
ints-over = (refl, ((refl, tt), tt))

pub refs-over : Over start.names (ref_type ints)
refs-over = (refl, (ints-over, tt))

abbrev list_choices : Choices
list_choices = both no_choice (both no_choice (both no_choice no_choice))

abbrev assigned_choices : Choices
assigned_choices = both fresh_choices (both (both (both (both no_choice (both no_choice (both no_choice (both list_choices no_choice)))) no_choice) no_choice) no_choice)

one-of-ints : HasType no_variable with_x (list_of at (num 1 ∷ [])) ints list_choices
one-of-ints = app_has _ (built_exp_has _ (record { types = λ n. int_type; allowed = (tt, tt); over = (tt, ((tt, ((refl, tt), (ints-over, tt))), (ints-over, tt))); is = refl; chosen = refl }))
    (record_has _ (exp_field_has _ (constant_exp_has _ _) (exp_field_has _ (built_exp_has _ (record { types = λ n. int_type; allowed = (tt, tt); over = ints-over; is = refl; chosen = refl })) no_exp_field_has)) refl)

pub assigned_has : DecsHave no_variable start (decs (val (pv word_x) (app (v word_ref) (list_of at [])) ∷ do_ assigns ∷ [])) 0 (plus x_env (plus (closed [] []) no_env)) assigned_choices
assigned_has = dec_has (fresh int_type (refl, tt) refl)
    (dec_has (val_has _ _ [] {vs = [] ∷ []} {us = []} refl refl refl
    (λ r c. bind_has _ (fields_has _ no_field_has refl) refl
    (app_has _ (inst-has _ (for_all Any (function_type (pair_type (ref_type (var 0)) (var 0)) unit_type)) (λ n. ints) refl (tt, tt) (tt, ((tt, (refs-over, (ints-over, tt))), ((tt, tt), tt))) refl)
    (record_has _ (exp_field_has _ (mono-has _ (ref_type ints) refl refs-over) (exp_field_has _ one-of-ints no_exp_field_has)) refl))
    (λ e. refl) no_bind_has)
    (λ r c. no_bind_has)) no_dec_has)

-- {a : int, b : int}
abbrev pub two_ints : Ty
two_ints = ty_fields at (ty_field (Word word_a) (tycon word_int) (ty_field (Word word_b) (tycon word_int) no_ty_fields))

abbrev pub two_row : Row
two_row = (Word word_a, int_type) ∷ (Word word_b, int_type) ∷ []

pub two-over : Over start.names (row_type two_row)
two-over = (tt, ((refl, tt), ((refl, tt), tt)))

-- the fields of a record type are in one order: numbers by value, then words by their numbers
abbrev unordered : Row
unordered = (Word word_b, int_type) ∷ (Number 10, int_type) ∷ (Word word_a, int_type) ∷ (Number 2, int_type) ∷ []

in_order : sorted unordered ≡ (Number 2, int_type) ∷ (Number 10, int_type) ∷ (Word word_a, int_type) ∷ (Word word_b, int_type) ∷ []
in_order = refl

order_of_fields : type_of start (ty_fields at (ty_field (Word word_b) (tycon word_int) (ty_field (Word word_a) (tycon word_int) no_ty_fields))) ≡ Some (row_type two_row)
order_of_fields = refl

-- an overloaded identifier is an occurrence wherever it stands: op + alone, at int
plus_alone : HasType no_variable start (v word_plus) (function_type (pair_type int_type int_type) int_type) (base 0)
plus_alone = inst-has at (for_all numbers (function_type (pair_type (var 0) (var 0)) (var 0))) (λ n. int_type) refl (record { number = 0; is = refl; held = refl }, tt)
    (tt, ((tt, ((refl, tt), ((refl, tt), tt))), ((refl, tt), tt))) (0, refl, refl)

-- an identifier that is matched is bound by nothing, however often it stands there: fn (nil, nil) => 1
abbrev nils : Pat
nils = tuple_pat at (pv word_nil ∷ pv word_nil ∷ [])

nil_twice : PatHas no_variable start nils (pair_type ints ints) [] (both no_choice (both no_choice no_choice))
nil_twice = fields_has _ (field_has _ one (field_has _ one no_field_has)) refl
  where
    one : PatHas no_variable start (pv word_nil) ints [] no_choice
    one = constructor_has at refl refl (record { types = λ n. int_type; allowed = (tt, tt); over = ints-over; is = refl; chosen = refl })

-- a free type variable admits no equality, and may be the type of what isn't generalised: val x = ref []
free_variable : admits no_variable (var 0) ≡ false
free_variable = refl

free_elements : DecHas no_variable start (val (pv word_x) (app (v word_ref) (list_of at []))) 0 (closed [] ((vid word_x, ref_type (list_type (var 5))) ∷ [])) fresh_choices
free_elements = fresh (var 5) tt refl

-- `ref` under another name makes references all the same: A [] with A for `ref`
abbrev renamed_ref : Env
renamed_ref = plus start.env (values_env ((vid word_A, record { scheme = for_all Any (function_type (var 0) (ref_type (var 0))); status = Constructor }) ∷ []))

another_name : is_non_expansive renamed_ref (app (v word_A) (list_of at [])) ≡ false
another_name = refl

-- an exception's type is a place where a type variable is unguarded, and a datatype's isn't: let exception E of 'a in 1 end, let datatype 'a t = A of 'a in 1 end
abbrev a : Tyvar
a = record { name = word_a; equality = false }

abbrev f_of : Dec → Binds
f_of d = bind at (pv word_f) (let_in at (decs (d ∷ [])) (num 1)) no_binds

of_an_exception : scoped_at [] [] (f_of (exception_dec at (new_exn at (vid word_E) (Some (ty_var at a)) ∷ []))) no_binds ≡ a ∷ []
of_an_exception = refl

of_a_datatype : scoped_at [] [] (f_of (datatype_dec at (record { place = at; tyvars = a ∷ []; tycon = word_t; cons = record { place = at; vid = vid word_A; of_ty = Some (ty_var at a) } ∷ [] } ∷ []))) no_binds ≡ []
of_a_datatype = refl

-- Typing doesn't ask the restrictions: {a = 1, a = 1} has a type
abbrev label_twice : Exp
label_twice = fields_exp at (exp_field (Word word_a) (num 1) (exp_field (Word word_a) (num 1) no_exp_fields))

label_twice_has : HasType no_variable start label_twice (row_type ((Word word_a, int_type) ∷ (Word word_a, int_type) ∷ [])) (both no_choice (both no_choice no_choice))
label_twice_has = record_has _ (exp_field_has _ (constant_exp_has _ _) (exp_field_has _ (constant_exp_has _ _) no_exp_field_has)) refl

-- a constructor before its argument gives a type with a name: fn ref x => x matches references to integers
under_ref : PatHas no_variable start (pc word_ref (pv word_x)) (ref_type int_type) ((vid word_x, int_type) ∷ []) no_choice
under_ref = con_has _ _ refl refl (record { types = λ n. int_type; allowed = (tt, tt); over = (tt, ((refl, tt), ((refl, ((refl, tt), tt)), tt))); is = refl; chosen = refl }) (variable_has _ refl refl (refl, tt))

-- val rec A = fn x => x where A is a constructor: in a recursive binding it is a variable
abbrev with_constructor : Context
with_constructor = record { names = start.names; tyvars = []; env = renamed_ref }

rebound_has : DecHas no_variable with_constructor (val_dec at at [] no_binds (bind at (pv word_A) (fn at (one_rule (pv word_x) (v word_x) no_rules)) no_binds)) 0
    (closed [] ((vid word_A, function_type int_type int_type) ∷ [])) (both no_choice (both (settled (both no_choice (both no_choice (both no_choice no_choice)))) no_choice))
rebound_has = val_has _ _ [] {vs = []} {us = ((vid word_A, function_type int_type int_type) ∷ []) ∷ []} refl refl refl
    (λ r c. no_bind_has)
    (λ r c. bind_has _ (variable_has _ refl refl (tt, ((refl, tt), ((refl, tt), tt)))) refl
    (fn_has _ (rule_has _ (variable_has _ refl refl (refl, tt)) refl (vid_has _ {v = record { scheme = monomorphic int_type; status = Variable }} refl (record { types = var; allowed = tt; over = (refl, tt); is = refl; chosen = refl })) no_rule_has))
    (λ e. absurd (subst Holds e tt)) no_bind_has)
