-- Worked typings.
use Rattle.std.proofs.Common.{◌≡◌, ℕ, Bool, true, false, List, [], ◌∷◌, codes, refl, sym, subst, Some, None, arith}
use Rattle.std.specs.Prelude.{unwrap_or, length}
use Rattle.mlc_names.specs.declared.label.Label.TheVariants.{Number, Word}
use Rattle.ty_basis.specs.of_ty_core.Types.{Typ, var, no_variable}
use Rattle.ty_basis.specs.of_ty_core.declared.mark.Mark.TheVariants.{Any}
use Rattle.ty_basis.specs.of_ty_core.declared.env.Status.{Status}
use Rattle.ty_basis.specs.of_ty_core.declared.env.Status.TheVariants.{Variable}
use Rattle.sml_tree.specs.Derived.{select, tuple}
use Rattle.ty_basis.specs.of_ty_core.declared.name.Equality.TheVariants.{ByArguments}
use Rattle.ty_basis.specs.Types.{Row, function_type, int_type, row_type, string_type}
use Rattle.core_rules.specs.Elaborated.{new_names, datatypes, datatypes_env, respects_equality, AllBelow}
use Rattle.sml_tree.specs.BareTree.{Exp, vid_exp, arrow, fn, let_in, no_rules, DataBind, datatype_dec, fields as ty_fields, ty_field, no_ty_fields, var as ty_var, con as ty_con, ty, no_tys}
use Rattle.mlc_base.specs.declared.place.Place.{Place}
use Rattle.sml_tree.specs.Terminal.{LongVid}
use Rattle.core_rules.specs.Objects.{Scheme, monomorphic, put, AllAllowed, Over, long_value_in, Env, Context}
use Rattle.core_rules.specs.Initial.{initial_context}
use Rattle.core_rules.specs.Choices.{Choices, no_choice, both, further, settled}
use Rattle.core_rules.specs.Typing.{Chosen, closed, HasType, DecHas, variable_has, open_has, no_field_has, field_has, vid_has, app_has, fn_has, no_rule_has, rule_has, val_has, no_bind_has, bind_has, datatype_has, let_has, dec_has, no_dec_has, record_has, constant_exp_has, no_exp_field_has, exp_field_has}
use Rattle.core_rules.proofs.Basics.{put-none}
use Rattle.mlc_names.specs.StandardWords.{word_int}
use Rattle.core_rules.proofs.Words.{at, num, str, vid, v, pv, ap as app, val, clause, fun, one_rule, tycon, decs, word_A, word_B, word_a, word_b, word_id, word_t, word_x}

not-so : {A : Type 0} → true ≡ false → A
not-so e = absurd (subst (λ b. elim b as (λ b. Type 0) [ true ↦ Unit {0} | false ↦ ⊥ ]) e tt)

abbrev pub start : Context
start = initial_context

-- a variable with one type, and an instance of a scheme
pub mono-has : {c : Context} (p : Place) {x : LongVid} (t : Typ) → long_value_in c.env x ≡ Some (record { scheme = monomorphic t; status = Variable }) → Over c.names t → HasType no_variable c (vid_exp p x) t no_choice
mono-has p t e o = vid_has p {v = record { scheme = monomorphic t; status = Variable }} e (record { types = var; allowed = tt; over = o; is = sym (put-none var t); chosen = refl })

pub inst-has : {c : Context} (p : Place) {x : LongVid} (s : Scheme) {i : Status} (r : ℕ → Typ) {k : Choices} → long_value_in c.env x ≡ Some (record { scheme = s; status = i }) → AllAllowed no_variable r 0 s.marks → Over c.names (put (length s.marks) r s.body) → Chosen s.marks r k → HasType no_variable c (vid_exp p x) (put (length s.marks) r s.body) k
inst-has p s {i = i} r e a o ch = vid_has p {v = record { scheme = s; status = i }} e (record { types = r; allowed = a; over = o; is = refl; chosen = ch })

-- fun id x = x: for all 'a, 'a -> 'a
abbrev pub id_env : Env
id_env = closed (Any ∷ []) ((vid word_id, function_type (var 0) (var 0)) ∷ [])

-- the choices of one binding that is settled, and of a match of one rule
abbrev pub one_settled : Choices → Choices
one_settled k = both (settled (both no_choice k)) no_choice

abbrev pub one_match : Choices → Choices
one_match k = both no_choice (both k no_choice)

pub id_has : DecHas no_variable start (fun word_id (clause (pv word_x ∷ []) (v word_x) ∷ [])) 0 id_env (both no_choice (one_settled (one_match (both (one_match no_choice) no_choice))))
id_has = val_has _ _ (Any ∷ []) {vs = []} {us = ((vid word_id, function_type (var 0) (var 0)) ∷ []) ∷ []} refl refl refl
    (λ r h. no_bind_has)
    (λ r h. let o = h.over 0 (omega arith) in bind_has _ (variable_has _ refl refl (tt, (o, (o, tt)))) refl
    (fn_has _ (rule_has _ (variable_has _ refl refl o) refl
    (app_has _ (fn_has _ (rule_has _ (variable_has _ refl refl o) refl (mono-has _ (r 0) refl o) no_rule_has))
    (mono-has _ (r 0) refl o)) no_rule_has))
    (λ e. not-so e) no_bind_has)

-- fn {a = v, ...} => v: from any record with an `a` of a type, here with a string `b`
abbrev any_int : Row
any_int = (Word word_a, int_type) ∷ (Word word_b, string_type) ∷ []

select_has : HasType no_variable start (select at (Word word_a)) (function_type (row_type any_int) int_type) (both (both (both no_choice no_choice) (further (Word word_b ∷ []))) (both no_choice no_choice))
select_has = fn_has _ (rule_has _ (open_has _ ((Word word_b, string_type) ∷ []) (field_has _ (variable_has _ refl refl (refl, tt)) no_field_has) refl refl (tt, ((refl, tt), ((refl, tt), tt)))) refl
    (mono-has _ int_type refl (refl, tt)) no_rule_has)

-- datatype 'a t = A | B of 'a * 'a t: its name admits equality where its argument does
abbrev tyvar : Rattle.sml_tree.specs.declared.ident.Tyvar.Tyvar
tyvar = record { name = word_a; equality = false }

abbrev list_like : List DataBind
list_like = record {
  place = at;
  tyvars = tyvar ∷ [];
  tycon = word_t;
  cons =
      record { place = at; vid = vid word_A; of_ty = None }
      ∷ record {
        place = at;
        vid = vid word_B;
        of_ty = Some (ty_fields at (ty_field (Number 1) (ty_var at tyvar)
            (ty_field (Number 2) (ty_con at (ty (ty_var at tyvar) no_tys) at (record { qualifiers = []; id = word_t })) no_ty_fields)));
      } ∷ [];
} ∷ []

abbrev list_like_names : List Rattle.ty_basis.specs.of_ty_core.declared.name.TyName.TyName
list_like_names = new_names start (true ∷ []) list_like

list_like_equal : list_like_names ≡ record { stamp = 8; arity = 1; equality = ByArguments } ∷ []
list_like_equal = refl

-- one name at most can admit equality
below_one : (qs : List Bool) → length qs ≡ 1 → AllBelow qs (true ∷ [])
below_one [] e = tt
below_one (q ∷ []) e = (λ h. refl, tt)
below_one (q ∷ r ∷ qs) e = (λ h. refl, tt)

list_like_has : (ts : _) → datatypes start (true ∷ []) list_like ≡ Some ts → respects_equality (true ∷ []) ts ≡ true → DecHas no_variable start (datatype_dec at list_like) 1 (datatypes_env ts) no_choice
list_like_has ts e h = datatype_has _ (true ∷ []) refl e h (λ qs ts' l e' h'. below_one qs l)

respects : respects_equality (true ∷ []) (unwrap_or (datatypes start (true ∷ []) list_like) []) ≡ true
respects = refl

-- with a function behind a constructor no name may admit it
abbrev with_function : List DataBind
with_function = record { place = at; tyvars = []; tycon = word_t; cons = record { place = at; vid = vid word_A; of_ty = Some (arrow at (tycon word_int) (tycon word_int)) } ∷ [] } ∷ []

respects_not : respects_equality (true ∷ []) (unwrap_or (datatypes start (true ∷ []) with_function) []) ≡ false
respects_not = refl

abbrev id_scheme : Scheme
id_scheme = record { marks = Any ∷ []; body = function_type (var 0) (var 0) }

-- let val id = fn x => x in {1 = id 1, 2 = id "a"}: a variable of a `let` has many types
abbrev one_id : Exp
one_id = fn at (one_rule (pv word_x) (v word_x) no_rules)

abbrev use_at : Choices
use_at = both no_choice no_choice

let_polymorphic : HasType no_variable start
    (let_in at (decs (val (pv word_id) one_id ∷ [])) (tuple at (app (v word_id) (num 1) ∷ app (v word_id) (str (codes "a")) ∷ [])))
    (row_type ((Number 1, int_type) ∷ (Number 2, string_type) ∷ []))
    (both (both (both (one_settled (one_match no_choice)) no_choice) no_choice) (both use_at (both use_at no_choice)))
let_polymorphic = let_has _
    (dec_has (val_has _ _ (Any ∷ []) {vs = ((vid word_id, function_type (var 0) (var 0)) ∷ []) ∷ []} {us = []} refl refl refl
    (λ r h. let o = h.over 0 (omega arith) in bind_has _ (variable_has _ refl refl (tt, (o, (o, tt)))) refl
    (fn_has _ (rule_has _ (variable_has _ refl refl o) refl (mono-has _ (r 0) refl o) no_rule_has)) (λ e. not-so e) no_bind_has)
    (λ r h. no_bind_has)) no_dec_has)
    (record_has _ (exp_field_has _ (app_has _ (inst-has _ id_scheme (λ n. int_type) refl (tt, tt) (tt, ((refl, tt), ((refl, tt), tt))) refl) (constant_exp_has _ _))
    (exp_field_has _ (app_has _ (inst-has _ id_scheme (λ n. string_type) refl (tt, tt) (tt, ((refl, tt), ((refl, tt), tt))) refl) (constant_exp_has _ _)) no_exp_field_has)) refl)
    (tt, ((refl, tt), ((refl, tt), tt)))
