-- val x = ref [] val () = x := [1] is principal: whatever its typing, x is a reference to lists of integers.
use Rattle.std.proofs.Common.{◌≡◌, ℕ, zero, suc, Bool, true, false, List, [], ◌∷◌, ◌++◌, length, Option, Some, None, refl, sym, ap, ◌∙◌, subst}
use Rattle.std.specs.Prelude.{unwrap_or, ◌&&◌, if◌then◌else◌}
use Rattle.ty_basis.specs.of_ty_core.Types.{Typ, var, con, none, more, no_variable}
use Rattle.ty_basis.specs.of_ty_core.declared.mark.Mark.{Mark}
use Rattle.ty_basis.specs.of_ty_core.declared.mark.Mark.TheVariants.{Any, Equality, Class}
use Rattle.ty_basis.specs.of_ty_core.declared.env.Status.TheVariants.{Variable, Constructor}
use Rattle.sml_tree.specs.declared.ident.Vid.{Vid}
use Rattle.sml_tree.specs.Derived.{list_of, tuple_pat}
use Rattle.sml_tree.specs.BareTree.{Exp, Decs, bind, no_binds}
use Rattle.mlc_names.specs.StandardWords.{word_ref}
use Rattle.ty_basis.specs.Types.{function_type, pair_type, unit_type, int_type, list_type, ref_type}
use Rattle.core_rules.specs.Words.{same_vid}
use Rattle.core_rules.specs.Objects.{Context, Value, Env, put, monomorphic, plus, no_env, values_env, with_env}
use Rattle.core_rules.specs.Initial.{for_all}
use Rattle.core_rules.specs.Choices.{Choices, no_choice, both, base, further, settled, IntsOf, SameRows, SameSettled}
use Rattle.core_rules.specs.Typing.{HasType, IsInstance, BindsHave, DecsHave, Bound, Chosen, put_bound, together, closed, has_none, bound_have_none, all_general, vid_has, app_has, built_exp_has, constant_exp_has, record_has, exp_field_has, no_exp_field_has, variable_has, constructor_has, fields_has, no_field_has, bind_has, no_bind_has, val_has, dec_has, no_dec_has}
use Rattle.core_rules.specs.Principal.{Generalises, HasInstance, IsInstanceOf, IsPrincipal}
use Rattle.core_rules.proofs.Basics.{units-may-stand}
use Rattle.core_rules.proofs.Words.{at, num, v, vid, pv, ap as app, val, do_, decs, word_x}
use Rattle.core_rules.proofs.Typings.{start}
use Rattle.core_rules.proofs.Refused.{fresh_choices, ints-none, ints-both, put-fixed}
use Rattle.core_rules.proofs.MoreTypings.{assigns, ints, x_env, assigned_has}

abbrev x : Vid
x = vid word_x

abbrev empty_ref : Exp
empty_ref = app (v word_ref) (list_of at [])

abbrev run : Decs
run = decs (val (pv word_x) empty_ref ∷ do_ assigns ∷ [])

abbrev refs : Decs
refs = decs (val (pv word_x) empty_ref ∷ [])

abbrev list_choices : Choices
list_choices = both no_choice (both no_choice (both no_choice no_choice))

abbrev assign_choices : Choices
assign_choices = both no_choice (both no_choice (both list_choices no_choice))

abbrev second_choices : Choices
second_choices = both (both (both no_choice assign_choices) no_choice) no_choice

abbrev run_choices : Choices
run_choices = both fresh_choices (both second_choices no_choice)

abbrev Holds : Bool → Type 0
Holds true = Unit {0}
Holds false = ⊥

-- parts of a type
abbrev part : ℕ → Typ → Typ
part n (var u) = var u
part n (con h none) = var 0
part zero (con h (more t ts)) = t
part (suc n) (con h (more t ts)) = part n (con h ts)

value-of : {o : Option Value} {a b : Value} → o ≡ Some a → o ≡ Some b → a ≡ b
value-of {a = a} e d = ap (λ o. unwrap_or o a) (sym e ∙ d)

abbrev Full : Option Value → Type 0
Full None = ⊥
Full (Some w) = Unit {0}

nothing-found : {A : Type 0} {w : Value} → None ≡ Some w → A
nothing-found e = absurd (subst Full (sym e) tt)

chosen-none : (marks : List Mark) (f : ℕ → Typ) (k : Choices) → all_general marks ≡ true → Chosen marks f k → k ≡ no_choice
chosen-none [] f k g c = c
chosen-none (Any ∷ marks) f k g c = c
chosen-none (Equality ∷ marks) f k g c = c
chosen-none (Class s ∷ marks) f k g c = absurd (subst Holds (sym g) tt)

-- [1] is a list of integers
one-list : (c : Context) (t : Typ) (k : Choices) → HasType no_variable c (list_of at (num 1 ∷ [])) t k → (t ≡ ints) × (k ≡ list_choices)
one-list c t k (app_has p {t = b} (built_exp_has q i) (record_has q' (exp_field_has l (constant_exp_has q1 n) (exp_field_has l' (built_exp_has q2 {t = u} i') no_exp_field_has)) is)) =
    let elements : i.types 0 ≡ int_type = sym (ap (λ t. part 0 (part 0 t)) i.is) ∙ ap (part 0) is in
    (ap (part 1) i.is ∙ ap list_type elements, λ j. both (i.chosen j) (both no_choice (both (i'.chosen j) no_choice)))

-- where x has this scheme
abbrev after : List Mark → Typ → Context
after marks body = with_env start 0 (closed marks ((x, body) ∷ []))

abbrev assign_value : Value
assign_value = record { scheme = for_all Any (function_type (pair_type (ref_type (var 0)) (var 0)) unit_type); status = Variable }

abbrev x_value : List Mark → Typ → Value
x_value marks body = record { scheme = record { marks = marks; body = body }; status = Variable }

record IsAssigned (marks : List Mark) (body : Typ) (k : Choices) : Type 0 where
  types : ℕ → Typ
  is : put (length marks) types body ≡ ref_type ints
  choices : k ≡ assign_choices

assign-type : (marks : List Mark) (body : Typ) → all_general marks ≡ true → (t : Typ) (k : Choices) → HasType no_variable (after marks body) assigns t k → IsAssigned marks body k
assign-type marks body g t k (app_has p {t = a} {k = k1} (vid_has q {v = w} e i) (record_has q' (exp_field_has l (vid_has q1 {v = w'} {t = tx} {k = k2} e' i') (exp_field_has l' {t = tl} {k = k3} h no_exp_field_has)) is)) =
    let iw : IsInstance no_variable (after marks body) assign_value.scheme (function_type a t) k1 = subst (λ w. IsInstance no_variable (after marks body) w.scheme (function_type a t) k1) (value-of e refl) i in
    let ix : IsInstance no_variable (after marks body) (x_value marks body).scheme tx k2 = subst (λ w. IsInstance no_variable (after marks body) w.scheme tx k2) (value-of e' refl) i' in
    let list : (tl ≡ ints) × (k3 ≡ list_choices) = one-list (after marks body) tl k3 h in
    let pair : pair_type (ref_type (iw.types 0)) (iw.types 0) ≡ pair_type tx tl = sym (ap (part 0) iw.is) ∙ is in
    record {
      types = ix.types;
      is = sym ix.is ∙ sym (ap (part 0) pair) ∙ ap ref_type (ap (part 1) pair ∙ list.0);
      choices = λ j. both (iw.chosen j) (both (chosen-none marks ix.types k2 g ix.chosen j) (both (list.1 j) no_choice));
    }

-- The bindings

abbrev AtLeastOne : Bound → Type 0
AtLeastOne [] = ⊥
AtLeastOne (b ∷ bs) = Unit {0}

abbrev AtMostOne : Bound → Type 0
AtMostOne [] = Unit {0}
AtMostOne (b ∷ []) = Unit {0}
AtMostOne (b ∷ c ∷ bs) = ⊥

abbrev first_bound : Bound → Vid
first_bound [] = x
first_bound (b ∷ bs) = b.0

record IsFirst (n : ℕ) (vs : List Bound) (k : Choices) : Type 0 where
  body : Typ
  is : vs ≡ ((x, body) ∷ []) ∷ []
  fixed : has_none n body ≡ true
  choices : k ≡ both (both no_choice (both no_choice no_choice)) no_choice

abbrev ref_value : Value
ref_value = record { scheme = for_all Any (function_type (var 0) (ref_type (var 0))); status = Constructor }

ref-choices : (t : Typ) (k : Choices) → HasType no_variable start empty_ref t k → k ≡ both no_choice no_choice
ref-choices t k (app_has p {t = a} {k = k1} (vid_has q {v = w} e i) (built_exp_has q' i')) =
    let iw : IsInstance no_variable start ref_value.scheme (function_type a t) k1 = subst (λ w. IsInstance no_variable start w.scheme (function_type a t) k1) (value-of e refl) i in
    λ j. both (iw.chosen j) (i'.chosen j)

first-group : (n : ℕ) (r : ℕ → Typ) (t : Typ) (g : Bound) (k : Choices) → (x, t) ∷ [] ≡ put_bound n r g → bound_have_none n g ≡ true → k ≡ both no_choice no_choice → IsFirst n (g ∷ []) (both (both no_choice k) no_choice)
first-group n r t [] k e h c = absurd (subst AtLeastOne e tt)
first-group n r t (b ∷ b' ∷ g) k e h c = absurd (subst AtMostOne e tt)
first-group n r t (b ∷ []) k e h c = record { body = b.1; is = ap (λ y. ((y, b.1) ∷ []) ∷ []) (sym (ap first_bound e)); fixed = both-true (has_none n b.1) h; choices = ap (λ k. both (both no_choice k) no_choice) c }
  where
    both-true : (a : Bool) → (a && true) ≡ true → a ≡ true
    both-true true e = refl
    both-true false e = e

first-binding : {n : ℕ} {r : ℕ → Typ} {vs : List Bound} {k : Choices} → BindsHave no_variable start n r (bind at (pv word_x) empty_ref no_binds) vs k → IsFirst n vs k
first-binding {n} {r} (bind_has p {t = t} {vs = g} {j = j} (variable_has q m m' o) e hh h no_bind_has) = first-group n r t g j e (h refl) (ref-choices t j hh)
first-binding (bind_has p (constructor_has q {v = w} l m i) e hh h no_bind_has) = nothing-found l

no-binding : {n : ℕ} {r : ℕ → Typ} {c : Context} {us : List Bound} {k : Choices} → BindsHave no_variable c n r no_binds us k → (us ≡ []) × (k ≡ no_choice)
no-binding no_bind_has = (refl, refl)

record IsSecond (marks : List Mark) (body : Typ) (vs : List Bound) (k : Choices) : Type 0 where
  is : vs ≡ [] ∷ []
  types : ℕ → Typ
  assigned : put (length marks) types body ≡ ref_type ints
  choices : k ≡ both (both no_choice assign_choices) no_choice

second-binding : (marks : List Mark) (body : Typ) → all_general marks ≡ true → {n : ℕ} {r : ℕ → Typ} {vs : List Bound} {k : Choices} → BindsHave no_variable (after marks body) n r (bind at (tuple_pat at []) assigns no_binds) vs k → IsSecond marks body vs k
second-binding marks body g {n} {r} (bind_has p {t = t} {vs = vs} {j = j} (fields_has q no_field_has is) e hh h no_bind_has) =
    let a : IsAssigned marks body j = assign-type marks body g t j hh in
    record { is = ap (λ g. g ∷ []) (empty vs e); types = a.types; assigned = a.is; choices = ap (λ k. both (both no_choice k) no_choice) a.choices }
  where
    empty : (g : Bound) → [] ≡ put_bound n r g → g ≡ []
    empty [] e = refl
    empty (b ∷ g) e = absurd (subst AtLeastOne (sym e) tt)

-- the second declaration
record IsRest (marks : List Mark) (body : Typ) (e : Env) (k : Choices) : Type 0 where
  is : e ≡ plus (values_env []) no_env
  types : ℕ → Typ
  assigned : put (length marks) types body ≡ ref_type ints
  choices : k ≡ both second_choices no_choice

rest : (marks : List Mark) (body : Typ) → all_general marks ≡ true → {made : ℕ} {e : Env} {k : Choices} → DecsHave no_variable (after marks body) (decs (do_ assigns ∷ [])) made e k → IsRest marks body e k
rest marks body g (dec_has (val_has p p' more_marks {vs} {us} {k = k} {j = j} g' fns d plain rec_) no_dec_has) =
    let may = units-may-stand no_variable (after marks body) more_marks g' in
    let b : IsSecond marks body vs k = second-binding marks body g (plain (λ n. unit_type) may) in
    let n : (us ≡ []) × (j ≡ no_choice) = no-binding (rec_ (λ n. unit_type) may) in
    record {
      is = λ i. plus (closed more_marks (together (b.is i) ++ together (n.0 i))) no_env;
      types = b.types;
      assigned = b.assigned;
      choices = λ i. both (both (b.choices i) (n.1 i)) no_choice;
    }

-- what any typing gives: x alone, a reference to lists of integers
record IsRun (e : Env) (k : Choices) : Type 0 where
  marks : List Mark
  body : Typ
  is : e ≡ plus (closed marks ((x, body) ∷ [])) (plus (values_env []) no_env)
  type : (f : ℕ → Typ) → put (length marks) f body ≡ ref_type ints
  choices : k ≡ run_choices

abbrev first_env : List Mark → List Bound → List Bound → Env
first_env marks vs us = closed marks (together vs ++ together us)

all-runs : {made : ℕ} {e : Env} {k : Choices} → DecsHave no_variable start run made e k → IsRun e k
all-runs {made} (dec_has {n' = n'} {e' = e'} {j = j'} (val_has p p' marks {vs} {us} {k = k} {j = j} g fns d plain rec_) h) =
    let may = units-may-stand no_variable start marks g in
    let b : IsFirst (length marks) vs k = first-binding (plain (λ n. unit_type) may) in
    let n : (us ≡ []) × (j ≡ no_choice) = no-binding (rec_ (λ n. unit_type) may) in
    let h' : DecsHave no_variable (after marks b.body) (decs (do_ assigns ∷ [])) n' e' j' =
    subst (λ us. DecsHave no_variable (with_env start 0 (first_env marks (((x, b.body) ∷ []) ∷ []) us)) (decs (do_ assigns ∷ [])) n' e' j') n.0
    (subst (λ vs. DecsHave no_variable (with_env start 0 (first_env marks vs us)) (decs (do_ assigns ∷ [])) n' e' j') b.is h) in
    let s : IsRest marks b.body e' j' = rest marks b.body g h' in
    record {
      marks = marks;
      body = b.body;
      is = λ i. plus (first_env marks (b.is i) (n.0 i)) (s.is i);
      type = λ f. put-fixed (length marks) f s.types b.body b.fixed ∙ s.assigned;
      choices = λ i. both (both (b.choices i) (n.1 i)) (s.choices i);
    }

refs-choices : {made : ℕ} {e : Env} {k : Choices} → DecsHave no_variable start refs made e k → k ≡ both fresh_choices no_choice
refs-choices (dec_has (val_has p p' marks {vs} {us} {k = k} {j = j} g fns d plain rec_) no_dec_has) =
    let may = units-may-stand no_variable start marks g in
    let b : IsFirst (length marks) vs k = first-binding (plain (λ n. unit_type) may) in
    let n : (us ≡ []) × (j ≡ no_choice) = no-binding (rec_ (λ n. unit_type) may) in
    λ i. both (both (b.choices i) (n.1 i)) no_choice

-- any choices are settled as they are
pub same-rows : (k : Choices) → SameRows k k
same-rows no_choice = tt
same-rows (both j k) = (same-rows j, same-rows k)
same-rows (base n) = tt
same-rows (further ls) = refl
same-rows (settled k) = same-rows k

pub same-settled : (k : Choices) → SameSettled k k
same-settled no_choice = tt
same-settled (both j k) = (same-settled j, same-settled k)
same-settled (base n) = tt
same-settled (further ls) = tt
same-settled (settled k) = same-rows k

-- no occurrence is overloaded
no-ints : (j : Choices) → IntsOf j run_choices
no-ints =
    let none = ints-none in
    let list : (j : Choices) → IntsOf j list_choices = ints-both none (ints-both none (ints-both none none)) in
    let assign : (j : Choices) → IntsOf j assign_choices = ints-both none (ints-both none (ints-both list none)) in
    ints-both (ints-both (ints-both (ints-both none (ints-both none none)) none) none) (ints-both (ints-both (ints-both (ints-both none assign) none) none) none)

only-runs : {e : Env} {k : Choices} → IsRun e k → IsInstanceOf (plus x_env (plus (closed [] []) no_env)) e
only-runs r = subst (IsInstanceOf (plus x_env (plus (closed [] []) no_env))) (sym r.is) (record { values = λ y. by (same_vid y x); types = refl; structures = refl })
  where
    instance : (t : Typ) → Generalises (record { marks = r.marks; body = r.body }) t → Generalises (monomorphic (ref_type ints)) t
    instance t g = record { types = var; allowed = tt; is = g.is ∙ r.type g.types }

    by : (b : Bool) → HasInstance (if b then Some (record { scheme = monomorphic (ref_type ints); status = Variable }) else None) (if b then Some (record { scheme = record { marks = r.marks; body = r.body }; status = Variable }) else None)
    by true = (refl, instance)
    by false = tt

assigned_principal : IsPrincipal start run 0 (plus x_env (plus (closed [] []) no_env))
assigned_principal = record {
  choices = run_choices;
  types = assigned_has;
  counts = λ made e j h. no-ints j;
  settled = (
    (λ made made' e e' k k' h h'. subst (λ k. SameSettled k k') (sym (refs-choices h)) (subst (SameSettled (both fresh_choices no_choice)) (sym (refs-choices h')) (same-settled (both fresh_choices no_choice)))),
    ((λ made made' e e' k k' h h'. subst (λ k. SameSettled k k') (sym (all-runs h).choices) (subst (SameSettled run_choices) (sym (all-runs h').choices) (same-settled run_choices))), tt),
  );
  general = λ made' e' k h c. only-runs (all-runs h);
  rows = λ made' e' k h c. subst (SameRows run_choices) (sym (all-runs h).choices) (same-rows run_choices);
}
