-- Where type variables are scoped, and a run that is cut off inside an expression.
use Rattle.std.proofs.Common.{◌≡◌, ℕ, Bool, true, false, List, [], ◌∷◌, ◌++◌, refl, sym, ap, subst}
use Rattle.mlc_names.specs.declared.label.Label.{Label}
use Rattle.mlc_names.specs.declared.label.Label.TheVariants.{Word}
use Rattle.ty_basis.specs.of_ty_core.Types.{Typ, no_variable}
use Rattle.sml_tree.specs.declared.ident.Tyvar.{Tyvar}
use Rattle.sml_tree.specs.declared.ident.Vid.TheVariants.{Fresh}
use Rattle.sml_tree.specs.Derived.{select}
use Rattle.sml_tree.specs.BareTree.{Exp, Decs, Binds, fn, let_in, typed, no_rules, bind, no_binds, typed_pat, fields_exp, exp_field, no_exp_fields, var as ty_var}
use Rattle.ty_basis.specs.Types.{Row, function_type, int_type, labels_in, row_type, unit_type}
use Rattle.core_rules.specs.Words.{same_label}
use Rattle.core_rules.specs.Objects.{sorted, Env, plus, no_env, values_env, Over}
use Rattle.core_rules.specs.Scoping.{scoped_at}
use Rattle.core_rules.specs.Cuts.{any, after, pat_alone, one_val, decs_cuts}
use Rattle.core_rules.specs.Choices.{Choices, no_choice, both, further, settled}
use Rattle.core_rules.specs.Restrictions.{distinct}
use Rattle.core_rules.specs.Typing.{DecsHave, open_has, field_has, no_field_has, rule_has, no_rule_has, app_has, fn_has, record_has, no_exp_field_has, let_has, variable_has, wild_has, bind_has, no_bind_has, val_has, dec_has, no_dec_has}
use Rattle.core_rules.specs.Principal.{IsPrincipal}
use Rattle.core_rules.proofs.Basics.{put-none}
use Rattle.core_rules.proofs.Words.{at, num, v, vid, pv, ap as app, one_rule, val, decs, word_a, word_b, word_f, word_g, word_x, word_y}
use Rattle.core_rules.proofs.Typings.{start, mono-has}

abbrev a : Tyvar
a = record { name = word_a; equality = false }

-- val g = fn (y : 'a) => y
abbrev typed_id : Exp
typed_id = fn at (one_rule (typed_pat at (pv word_y) (ty_var at a)) (v word_y) no_rules)

abbrev g_binds : Binds
g_binds = bind at (pv word_g) typed_id no_binds

abbrev g_decs : Decs
g_decs = decs (val (pv word_g) typed_id ∷ [])

alone_at_g : scoped_at [] [] g_binds no_binds ≡ a ∷ []
alone_at_g = refl

-- val f = let val g = fn (y : 'a) => y in g end: nothing is scoped at f
none_at_f : scoped_at [] [] (bind at (pv word_f) (let_in at g_decs (v word_g)) no_binds) no_binds ≡ []
none_at_f = refl

-- val f = fn x => let val g = fn (y : 'a) => y in (x : 'a) end: 'a is scoped at f, and then not at g
first_at_f : scoped_at [] [] (bind at (pv word_f) (fn at (one_rule (pv word_x) (let_in at g_decs (typed at (v word_x) (ty_var at a))) no_rules)) no_binds) no_binds ≡ a ∷ []
first_at_f = refl

then_none_at_g : scoped_at (word_a ∷ []) [] g_binds no_binds ≡ []
then_none_at_g = refl

-- val x = let val f = fn y => #a y in f {a = 1} end
abbrev selector : Exp
selector = fn at (one_rule (pv word_y) (app (select at (Word word_a)) (v word_y)) no_rules)

abbrev f_decs : Decs
f_decs = decs (val (pv word_f) selector ∷ [])

abbrev applied : Decs
applied = decs (val (pv word_x) (let_in at f_decs (app (v word_f) (fields_exp at (exp_field (Word word_a) (num 1) no_exp_fields)))) ∷ [])

-- the run up to the inner declaration
abbrev up_to_f : Decs
up_to_f = one_val at [] (after at (pat_alone at (pv word_x)) (let_in at f_decs (any at)))

two_cuts : decs_cuts [] applied ≡ up_to_f ∷ applied ∷ []
two_cuts = refl

abbrev any_choices : Choices
any_choices = both (both (both no_choice (both (settled (both no_choice (both no_choice (both (both no_choice no_choice) no_choice)))) no_choice)) no_choice) (both no_choice no_choice)

abbrev f_choices : List Label → Choices
f_choices ls = both (both (both (settled (both no_choice (both no_choice (both (both (both (both (both no_choice no_choice) (further ls)) (both no_choice no_choice)) no_choice) no_choice)))) no_choice) no_choice) no_choice

abbrev up_choices : List Label → Choices
up_choices ls = both (both (both (both no_choice (both (both no_choice (both (both (f_choices ls) any_choices) no_choice)) (both no_choice (both no_choice no_choice)))) no_choice) no_choice) no_choice

abbrev from_row : Row → Typ
from_row r = function_type (row_type r) int_type

abbrev to_unit : Typ
to_unit = function_type unit_type unit_type

abbrev a_row : Row
a_row = (Word word_a, int_type) ∷ []

abbrev Holds : Bool → Type 0
Holds true = Unit {0}
Holds false = ⊥

up_has : (others r : Row) → row_type r ≡ row_type (sorted (a_row ++ others)) → Over start.names (row_type r) → distinct same_label (labels_in (a_row ++ others)) ≡ true →
    DecsHave no_variable start up_to_f 0 (plus (values_env []) no_env) (up_choices (labels_in (sorted others)))
up_has others r e o d = dec_has (val_has _ _ [] {vs = [] ∷ []} {us = []} refl refl refl
    (λ q c. bind_has _ (wild_has _ {t = unit_type} (tt, tt)) refl
    (app_has _ {t = to_unit}
    (fn_has _ (rule_has _ (wild_has _ (tt, ((tt, tt), ((tt, tt), tt)))) refl
    (let_has _
    (dec_has (val_has _ _ [] {vs = ((vid word_f, from_row r) ∷ []) ∷ []} {us = []} refl refl refl
    (λ f c. bind_has _ (variable_has _ refl refl (tt, (o, ((refl, tt), tt)))) (ap (λ t. (vid word_f, t) ∷ []) (sym (put-none f (from_row r))))
    (fn_has _ (rule_has _ (variable_has _ refl refl o) refl
    (app_has _ (fn_has _ (rule_has _ (open_has _ others (field_has _ (variable_has _ refl refl (refl, tt)) no_field_has) d e o) refl (mono-has _ int_type refl (refl, tt)) no_rule_has))
    (mono-has _ (row_type r) refl o))
    no_rule_has))
    (λ x. absurd (subst Holds x tt)) no_bind_has)
    (λ f c. no_bind_has)) no_dec_has)
    (let_has _
    (dec_has (val_has _ _ [] {vs = []} {us = ((Fresh 0, to_unit) ∷ []) ∷ []} refl refl refl
    (λ f c. no_bind_has)
    (λ f c. bind_has _ (variable_has _ refl refl (tt, ((tt, tt), ((tt, tt), tt)))) refl
    (fn_has _ (rule_has _ (wild_has _ (tt, tt)) refl (app_has _ (mono-has _ to_unit refl (tt, ((tt, tt), ((tt, tt), tt)))) (record_has _ no_exp_field_has refl)) no_rule_has))
    (λ x. absurd (subst Holds x tt)) no_bind_has)) no_dec_has)
    (app_has _ (mono-has _ to_unit refl (tt, ((tt, tt), ((tt, tt), tt)))) (record_has _ no_exp_field_has refl))
    (tt, tt))
    (tt, tt))
    no_rule_has))
    (fn_has _ (rule_has _ (variable_has _ refl refl (tt, tt)) refl (record_has _ no_exp_field_has refl) no_rule_has)))
    (λ x. refl) no_bind_has)
    (λ q c. no_bind_has)) no_dec_has

abbrev Empty : List Label → Type 0
Empty [] = Unit {0}
Empty (l ∷ ls) = ⊥

abbrev b_row : Row
b_row = (Word word_b, int_type) ∷ []

-- the whole run has one typing of its row, and is not principal all the same
rows_unsettled_inside : (made : ℕ) (e : Env) → IsPrincipal start applied made e → ⊥
rows_unsettled_inside made e h =
    let short : DecsHave no_variable start up_to_f 0 (plus (values_env []) no_env) (up_choices []) = up_has [] a_row refl (tt, ((refl, tt), tt)) refl in
    let long : DecsHave no_variable start up_to_f 0 (plus (values_env []) no_env) (up_choices (labels_in b_row)) = up_has b_row (a_row ++ b_row) refl (tt, ((refl, tt), ((refl, tt), tt))) refl in
    let same : [] ≡ labels_in b_row = (h.settled.0 0 0 _ _ (up_choices []) (up_choices (labels_in b_row)) short long).0.0.0.1.0.1.0.0.0.0.0.1.1.0.0.0.1 in
    absurd (subst Empty same tt)
