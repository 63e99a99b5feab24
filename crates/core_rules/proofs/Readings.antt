-- Readings of the rules, one example each.
use Rattle.std.proofs.Common.{◌≡◌, ℕ, true, false, List, [], ◌∷◌, codes, refl, Some, None}
use Rattle.mlc_names.specs.declared.label.Label.TheVariants as label
use Rattle.mlc_runs.specs.Outcome.{Outcome, wrong}
use Rattle.ty_basis.specs.of_ty_core.Types.{no_variable}
use Rattle.sml_tree.specs.declared.ident.Tyvar.{Tyvar}
use Rattle.sml_tree.specs.declared.ident.BuiltIn.TheVariants.{True}
use Rattle.sml_tree.specs.Derived.{tuple, list_of, if_of, sequence_of}
use Rattle.sml_tree.specs.BareTree.{Exp, var, built_exp, fields_exp, exp_field, no_exp_fields, fn, no_rules, Dec, val_dec, new_exn, no_binds, bind}
use Rattle.ty_basis.specs.Types.{int_type}
use Rattle.core_rules.specs.Objects.{Context}
use Rattle.core_rules.specs.Elaborated.{exceptions_of, types_bound}
use Rattle.core_rules.specs.Initial.{empty_context, prelude_env}
use Rattle.core_rules.specs.Choices.{no_choice}
use Rattle.core_rules.specs.Typing.{HasType, constant_exp_has, is_non_expansive}
use Rattle.core_rules.specs.Meaning.{meaning_in, begin}
use Rattle.mlc_names.specs.StandardWords.{word_less_than, word_ref, word_Match, word_Bind, word_Overflow, word_Div, word_Subscript, word_Size, word_Chr}
use Rattle.core_rules.proofs.Words.{at, num, str, vid, v, pv, ap as call, op, eq, print, do_, decs, one_rule, word_E, word_a, word_b, word_f, word_t, word_x, word_y}
use Rattle.core_rules.proofs.Typings.{start}

abbrev run : List Dec → ℕ → Outcome
run ds m = meaning_in prelude_env (decs ds) m

abbrev told : Exp → Exp
told e = if_of at e (str (codes "true")) (str (codes "false"))

-- the operator is evaluated before the argument: (print "1"; fn x => x) (print "2")
operator_first : (run (do_ (call (sequence_of at (print (str (codes "1"))) (fn at (one_rule (pv word_x) (v word_x) no_rules) ∷ [])) (print (str (codes "2")))) ∷ []) 3).output ≡ codes "12"
operator_first = refl

-- records are equal whatever the order of their fields: {a = 1, b = 2} = {b = 2, a = 1}
abbrev two_fields : ℕ → ℕ → ℕ → ℕ → Exp
two_fields l m k n = fields_exp at (exp_field (label.Word l) (num m) (exp_field (label.Word k) (num n) no_exp_fields))

fields_in_any_order : (run (do_ (print (told (eq (two_fields word_a 1 word_b 2) (two_fields word_b 2 word_a 1)))) ∷ []) 2).output ≡ codes "true"
fields_in_any_order = refl

-- a function has no equality wherever it stands, whatever stands before it: (1, fn x => x) = (2, fn x => x)
abbrev with_fn : ℕ → Exp
with_fn n = tuple at (num n ∷ fn at (one_rule (pv word_x) (v word_x) no_rules) ∷ [])

functions_are_not_compared : (run (do_ (print (told (eq (with_fn 1) (with_fn 1)))) ∷ []) 2).end ≡ wrong
functions_are_not_compared = refl

nor_behind_a_difference : (run (do_ (print (told (eq (with_fn 1) (with_fn 2)))) ∷ []) 2).end ≡ wrong
nor_behind_a_difference = refl

abbrev fn_first : ℕ → Exp
fn_first n = tuple at (fn at (one_rule (pv word_x) (v word_x) no_rules) ∷ num n ∷ [])

nor_before_one : (run (do_ (print (told (eq (fn_first 1) (fn_first 2)))) ∷ []) 2).end ≡ wrong
nor_before_one = refl

-- parts that all have an answer: (1, 2) = (1, 3)
a_part_differs : (run (do_ (print (told (eq (two_fields word_a 1 word_b 2) (two_fields word_a 1 word_b 3)))) ∷ []) 2).output ≡ codes "false"
a_part_differs = refl

-- a truth value that is made and one that is written are one: (1 < 2) = true
made_is_written : (run (do_ (print (told (eq (op (num 1) word_less_than (num 2)) (built_exp at True)))) ∷ []) 3).output ≡ codes "true"
made_is_written = refl

-- val rec f = 1 goes wrong: a restriction keeps it out
rec_of_no_function : (run (val_dec at at [] no_binds (bind at (pv word_f) (num 1) no_binds) ∷ []) 9).end ≡ wrong
rec_of_no_function = refl

-- constants have their types where nothing is in scope
constant_alone : HasType no_variable empty_context (num 1) int_type no_choice
constant_alone = constant_exp_has at _

abbrev a : Tyvar
a = record { name = word_a; equality = false }

-- exception E of 'a: a type variable that isn't scoped stands for nothing
unscoped_variable : exceptions_of start (new_exn at (vid word_E) (Some (var at a)) ∷ []) ≡ None
unscoped_variable = refl

-- a binding of a type sees the variables of its own sequence alone: type t = 'a where 'a is scoped round it
abbrev scoping_a : Context
scoping_a = record { names = start.names; tyvars = (word_a, int_type) ∷ []; env = start.env }

own_variables : types_bound scoping_a (record { place = at; tyvars = []; tycon = word_t; ty = var at a } ∷ []) ≡ None
own_variables = refl

-- ref [] is expansive, [1] and (x, fn y => y) aren't, x y is
makes_a_reference : is_non_expansive start.env (call (v word_ref) (list_of at [])) ≡ false
makes_a_reference = refl

makes_a_list : is_non_expansive start.env (list_of at (num 1 ∷ [])) ≡ true
makes_a_list = refl

makes_a_pair : is_non_expansive start.env (tuple at (v word_x ∷ fn at (one_rule (pv word_y) (v word_y) no_rules) ∷ [])) ≡ true
makes_a_pair = refl

makes_a_call : is_non_expansive start.env (call (v word_x) (v word_y)) ≡ false
makes_a_call = refl

-- before the first turn the exceptions of the initial basis are made, with the first names
first_exceptions : (begin 0).exceptions ≡ word_Match ∷ word_Bind ∷ word_Overflow ∷ word_Div ∷ word_Subscript ∷ word_Size ∷ word_Chr ∷ []
first_exceptions = refl
