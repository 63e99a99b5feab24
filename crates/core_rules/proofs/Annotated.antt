-- val x = fn r : {a : int, b : int} => #a r is principal: its annotation settles the labels of `...`.
use Rattle.std.proofs.Common.{◌≡◌, ℕ, zero, suc, Bool, true, false, not, List, [], ◌∷◌, ◌++◌, length, Option, Some, None, refl, sym, ap, ◌∙◌, subst}
use Rattle.std.specs.Prelude.{unwrap_or, ◌&&◌, ◌-◌, nat_lt, nat_eq, if◌then◌else◌}
use Rattle.mlc_names.specs.declared.label.Label.{Label}
use Rattle.mlc_names.specs.declared.label.Label.TheVariants.{Number, Word}
use Rattle.ty_basis.specs.of_ty_core.Types.{Typ, Typs, Symbol, var, con, none, more, arrow, labels, name as symbol, no_variable}
use Rattle.ty_basis.specs.of_ty_core.Statics.{replace_all}
use Rattle.ty_basis.specs.of_ty_core.declared.mark.Mark.{Mark}
use Rattle.ty_basis.specs.of_ty_core.declared.env.Status.TheVariants.{Variable}
use Rattle.sml_tree.specs.declared.ident.Vid.{Vid}
use Rattle.sml_tree.specs.Derived.{select}
use Rattle.sml_tree.specs.BareTree.{Exp, Decs, fn, no_rules, typed_pat, bind, no_binds}
use Rattle.ty_basis.specs.Types.{Row, labels_in, row_type, function_type, unit_type, int_type}
use Rattle.core_rules.specs.Words.{same_vid, label_before}
use Rattle.core_rules.specs.Objects.{put_field, sorted, put, Context, Value, Env, monomorphic, plus, no_env}
use Rattle.core_rules.specs.Choices.{Choices, no_choice, both, base, further, settled, IntsOf, SameRows, SameSettled}
use Rattle.core_rules.specs.Typing.{HasType, IsInstance, BindsHave, DecsHave, Bound, put_bound, together, closed, vid_has, app_has, fn_has, rule_has, no_rule_has, typed_has, open_has, field_has, no_field_has, variable_has, constructor_has, bind_has, no_bind_has, val_has, dec_has, no_dec_has}
use Rattle.core_rules.specs.Principal.{Generalises, HasInstance, IsInstanceOf, IsPrincipal}
use Rattle.core_rules.proofs.Basics.{put-none, units-may-stand}
use Rattle.core_rules.proofs.Words.{at, v, vid, pv, ap as app, one_rule, val, decs, word_a, word_b, word_r, word_x}
use Rattle.core_rules.proofs.Typings.{start, mono-has}
use Rattle.core_rules.proofs.Refused.{ints-none, ints-both}
use Rattle.core_rules.proofs.MoreTypings.{two_ints, two_row, two-over}
use Rattle.core_rules.proofs.Assigned.{same-rows, same-settled}

abbrev x : Vid
x = vid word_x

abbrev a : Label
a = Word word_a

abbrev b : Label
b = Word word_b

abbrev selector : Exp
selector = fn at (one_rule (typed_pat at (pv word_r) two_ints) (app (select at a) (v word_r)) no_rules)

abbrev run : Decs
run = decs (val (pv word_x) selector ∷ [])

abbrev body_choices : List Label → Choices
body_choices ls = both no_choice (both (both (both (both (both no_choice no_choice) (further ls)) (both no_choice no_choice)) no_choice) no_choice)

abbrev dec_choices : List Label → Choices
dec_choices ls = both (both (settled (both no_choice (body_choices ls))) no_choice) no_choice

abbrev from_two : Typ
from_two = function_type (row_type two_row) int_type

abbrev Holds : Bool → Type 0
Holds true = Unit {0}
Holds false = ⊥

value-of : {o : Option Value} {a b : Value} → o ≡ Some a → o ≡ Some b → a ≡ b
value-of {a = a} e d = ap (λ o. unwrap_or o a) (sym e ∙ d)

abbrev Full : Option Value → Type 0
Full None = ⊥
Full (Some w) = Unit {0}

nothing-found : {A : Type 0} {w : Value} → None ≡ Some w → A
nothing-found e = absurd (subst Full (sym e) tt)

-- Types in parts

abbrev labels_of : Typ → List Label
labels_of (var u) = []
labels_of (con arrow ts) = []
labels_of (con (labels ls) ts) = ls
labels_of (con (symbol n) ts) = []

abbrev parts_of : Typ → List Typ
parts_of (var u) = []
parts_of (con h ts) = listed ts
  where
    listed : Typs → List Typ
    listed none = []
    listed (more t ts) = t ∷ listed ts

-- A row that has just the labels a and b once a field a is put into it

abbrev nth : ℕ → List Label → Label
nth n [] = Number 0
nth zero (l ∷ ls) = l
nth (suc n) (l ∷ ls) = nth n ls

abbrev Two : List Label → Type 0
Two [] = ⊥
Two (l ∷ []) = ⊥
Two (l ∷ k ∷ []) = Unit {0}
Two (l ∷ k ∷ j ∷ ls) = ⊥

abbrev IsB : Label → Type 0
IsB (Number n) = ⊥
IsB (Word w) = Holds (nat_eq w word_b)

put-rest : (t : Typ) (s : Row) → labels_in (put_field (a, t) s) ≡ a ∷ b ∷ [] → (labels_in s ≡ b ∷ []) × (put_field (a, t) s ≡ (a, t) ∷ s)
put-rest t [] e = absurd (subst Two (sym e) tt)
put-rest t (g ∷ []) e = by (label_before g.0 a) refl e
  where
    by : (c : Bool) → label_before g.0 a ≡ c → labels_in (if c then g ∷ (a, t) ∷ [] else (a, t) ∷ g ∷ []) ≡ a ∷ b ∷ [] → (labels_in (g ∷ []) ≡ b ∷ []) × ((if label_before g.0 a then g ∷ (a, t) ∷ [] else (a, t) ∷ g ∷ []) ≡ (a, t) ∷ g ∷ [])
    by true h e = absurd (subst IsB (sym (ap (nth 1) e)) tt)
    by false h e = (ap (λ l. l ∷ []) (ap (nth 1) e), ap (λ c. if c then g ∷ (a, t) ∷ [] else (a, t) ∷ g ∷ []) h)
put-rest t (g ∷ g' ∷ s) e = absurd (by (label_before g.0 a) e)
  where
    last : (s : Row) (c : Bool) → Two (labels_in (g ∷ (if c then g' ∷ put_field (a, t) s else (a, t) ∷ g' ∷ s))) → ⊥
    last s false h = h
    last [] true h = h
    last (k ∷ s) true h = more-left (label_before k.0 a) h
      where
        more-left : (c : Bool) → Two (labels_in (g ∷ g' ∷ (if c then k ∷ put_field (a, t) s else (a, t) ∷ k ∷ s))) → ⊥
        more-left true h = h
        more-left false h = h

    by : (c : Bool) → labels_in (if c then g ∷ put_field (a, t) (g' ∷ s) else (a, t) ∷ g ∷ g' ∷ s) ≡ a ∷ b ∷ [] → ⊥
    by false e = subst Two (sym e) tt
    by true e = last s (label_before g'.0 a) (subst Two (sym e) tt)

-- The selector

record IsFrom (u : Typ) (k : Choices) : Type 0 where
  is : u ≡ from_two
  choices : k ≡ body_choices (b ∷ [])

abbrev variable_at : Typ → Value
variable_at t = record { scheme = monomorphic t; status = Variable }

one-type : (c : Context) (o : Option Value) (t u : Typ) (w : Value) (k : Choices) → o ≡ Some w → o ≡ Some (variable_at t) → IsInstance no_variable c w.scheme u k → (u ≡ t) × (k ≡ no_choice)
one-type c o t u w k e d i =
    let i' : IsInstance no_variable c (monomorphic t) u k = subst (λ w. IsInstance no_variable c w.scheme u k) (value-of e d) i in
    (i'.is ∙ put-none i'.types t, i'.chosen)

abbrev some_typ : Option Typ → Typ
some_typ None = var 0
some_typ (Some t) = t

selector-type : (u : Typ) (k : Choices) → HasType no_variable start selector u k → IsFrom u k
selector-type u k (fn_has p (rule_has q (typed_has q' {t = t} (variable_has q1 m n o) e) d (app_has q2 {t = ta} {u = tu} {j = j}
    (fn_has q3 (rule_has q4 (open_has q5 others (field_has l {t = tv} (variable_has q6 m' n' o') no_field_has) dd is o2) d' (vid_has q7 {v = w} {k = k1} f i) no_rule_has)) (vid_has q8 {v = w'} f' i')) no_rule_has)) =
    let annotation : row_type two_row ≡ t = ap some_typ e in
    let argument : (ta ≡ t) × (j ≡ no_choice) = one-type _ _ t ta w' j f' refl i' in
    let result : (tu ≡ tv) × (k1 ≡ no_choice) = one-type _ _ tv tu w k1 f refl i in
    let row : row_type (put_field (a, tv) (sorted others)) ≡ row_type two_row = sym is ∙ argument.0 ∙ sym annotation in
    let r : (labels_in (sorted others) ≡ b ∷ []) × (put_field (a, tv) (sorted others) ≡ (a, tv) ∷ sorted others) = put-rest tv (sorted others) (ap labels_of row) in
    let value : tv ≡ int_type = ap first_part (sym (ap row_type r.1) ∙ row) in
    record {
      is = λ i. function_type (sym annotation i) ((result.0 ∙ value) i);
      choices = λ i. both no_choice (both (both (both (both (both no_choice no_choice) (further (r.0 i))) (both (result.1 i) no_choice)) (argument.1 i)) no_choice);
    }
  where
    first_part : Typ → Typ
    first_part (var n) = var n
    first_part (con h none) = var 0
    first_part (con h (more t ts)) = t
selector-type u k (fn_has p (rule_has q (typed_has q' (constructor_has q1 {v = w} e m i) e') d h no_rule_has)) = nothing-found e
selector-type u k (fn_has p (rule_has q (typed_has q' (variable_has q1 m n o) e) d (app_has q2 (fn_has q3 (rule_has q4 (open_has q5 others (field_has l (constructor_has q6 {v = w} f m' i) h) dd is o2) d' g h')) y) z)) = nothing-found f

-- A type without variables and without unit is itself, whatever stands for parameters

abbrev is_unit : Symbol → Bool
is_unit arrow = false
is_unit (labels []) = true
is_unit (labels (l ∷ ls)) = false
is_unit (symbol n) = false

abbrev mutual
  is_rigid : Typ → Bool
  is_rigid (var u) = false
  is_rigid (con h ts) = not (is_unit h) && are_rigid ts

  are_rigid : Typs → Bool
  are_rigid none = true
  are_rigid (more t ts) = is_rigid t && are_rigid ts

left : (c d : Bool) → (c && d) ≡ true → c ≡ true
left true d e = refl
left false d e = e

right : (c d : Bool) → (c && d) ≡ true → d ≡ true
right true d e = e
right false d e = absurd (subst Holds (sym e) tt)

abbrev unit_for : ℕ → Typ
unit_for n = unit_type

mutual
  rigid : (n : ℕ) (f : ℕ → Typ) (t : Typ) → is_rigid (put n unit_for t) ≡ true → put n f t ≡ put n unit_for t
  rigid n f (var u) e = by (nat_lt u n) e
    where
      by : (c : Bool) → is_rigid (if c then unit_type else var (u - n)) ≡ true → (if c then f u else var (u - n)) ≡ (if c then unit_type else var (u - n))
      by true e = absurd (subst Holds (sym e) tt)
      by false e = refl
  rigid n f (con h ts) e = ap (con h) (rigids n f ts (right (not (is_unit h)) (are_rigid (replace_all (λ v. if nat_lt v n then unit_for v else var (v - n)) ts)) e))

  rigids : (n : ℕ) (f : ℕ → Typ) (ts : Typs) → are_rigid (replace_all (λ v. if nat_lt v n then unit_for v else var (v - n)) ts) ≡ true →
      replace_all (λ v. if nat_lt v n then f v else var (v - n)) ts ≡ replace_all (λ v. if nat_lt v n then unit_for v else var (v - n)) ts
  rigids n f none e = refl
  rigids n f (more t ts) e = λ i. more (rigid n f t (left (is_rigid (put n unit_for t)) _ e) i) (rigids n f ts (right (is_rigid (put n unit_for t)) _ e) i)

-- The binding

abbrev AtLeastOne : Bound → Type 0
AtLeastOne [] = ⊥
AtLeastOne (b ∷ bs) = Unit {0}

abbrev AtMostOne : Bound → Type 0
AtMostOne [] = Unit {0}
AtMostOne (b ∷ []) = Unit {0}
AtMostOne (b ∷ c ∷ bs) = ⊥

abbrev first_bound : Bound → Vid
first_bound [] = x
first_bound (b ∷ bs) = b.0

abbrev type_bound : Bound → Typ
type_bound [] = unit_type
type_bound (b ∷ bs) = b.1

abbrev bind_choices : Choices
bind_choices = both (settled (both no_choice (body_choices (b ∷ [])))) no_choice

record IsBinding (n : ℕ) (r : ℕ → Typ) (vs : List Bound) (k : Choices) : Type 0 where
  body : Typ
  is : vs ≡ ((x, body) ∷ []) ∷ []
  type : put n r body ≡ from_two
  choices : k ≡ bind_choices

one-group : (n : ℕ) (r : ℕ → Typ) (t : Typ) (g : Bound) (k : Choices) → (x, t) ∷ [] ≡ put_bound n r g → IsFrom t k → IsBinding n r (g ∷ []) (both (settled (both no_choice k)) no_choice)
one-group n r t [] k e h = absurd (subst AtLeastOne e tt)
one-group n r t (c ∷ c' ∷ g) k e h = absurd (subst AtMostOne e tt)
one-group n r t (c ∷ []) k e h = record { body = c.1; is = ap (λ y. ((y, c.1) ∷ []) ∷ []) (sym (ap first_bound e)); type = sym (ap type_bound e) ∙ h.is; choices = ap (λ k. both (settled (both no_choice k)) no_choice) h.choices }

one-binding : {n : ℕ} {r : ℕ → Typ} {vs : List Bound} {k : Choices} → BindsHave no_variable start n r (bind at (pv word_x) selector no_binds) vs k → IsBinding n r vs k
one-binding {n} {r} (bind_has p {t = t} {vs = g} {j = j} (variable_has q m m' o) e hh h no_bind_has) = one-group n r t g j e (selector-type t j hh)
one-binding (bind_has p (constructor_has q {v = w} l m i) e hh h no_bind_has) = nothing-found l

no-binding : {n : ℕ} {r : ℕ → Typ} {c : Context} {us : List Bound} {k : Choices} → BindsHave no_variable c n r no_binds us k → (us ≡ []) × (k ≡ no_choice)
no-binding no_bind_has = (refl, refl)

abbrev run_choices : Choices
run_choices = both (both bind_choices no_choice) no_choice

-- what any typing gives
record IsRun (e : Env) (k : Choices) : Type 0 where
  marks : List Mark
  body : Typ
  is : e ≡ plus (closed marks ((x, body) ∷ [])) no_env
  type : (f : ℕ → Typ) → put (length marks) f body ≡ from_two
  choices : k ≡ run_choices

all-runs : {made : ℕ} {e : Env} {k : Choices} → DecsHave no_variable start run made e k → IsRun e k
all-runs (dec_has (val_has p p' marks {vs} {us} {k = k} {j = j} g fns d plain rec_) no_dec_has) =
    let may = units-may-stand no_variable start marks g in
    let o : IsBinding (length marks) unit_for vs k = one-binding (plain unit_for may) in
    let n : (us ≡ []) × (j ≡ no_choice) = no-binding (rec_ unit_for may) in
    record {
      marks = marks;
      body = o.body;
      is = λ i. plus (closed marks (together (o.is i) ++ together (n.0 i))) no_env;
      type = λ f. rigid (length marks) f o.body (ap is_rigid o.type) ∙ o.type;
      choices = λ i. both (both (o.choices i) (n.1 i)) no_choice;
    }

selector_has : HasType no_variable start selector from_two (body_choices (b ∷ []))
selector_has = fn_has _ (rule_has _ (typed_has _ (variable_has _ refl refl two-over) refl) refl
    (app_has _ (fn_has _ (rule_has _ (open_has _ ((b, int_type) ∷ []) (field_has _ (variable_has _ refl refl (refl, tt)) no_field_has) refl refl two-over) refl (mono-has _ int_type refl (refl, tt)) no_rule_has))
    (mono-has _ (row_type two_row) refl two-over)) no_rule_has)

run_has : DecsHave no_variable start run 0 (plus (closed [] ((x, from_two) ∷ [])) no_env) run_choices
run_has = dec_has (val_has _ _ [] {vs = ((x, from_two) ∷ []) ∷ []} {us = []} refl refl refl
    (λ r c. bind_has _ (variable_has _ refl refl (tt, (two-over, ((refl, tt), tt)))) refl selector_has (λ e. absurd (subst Holds e tt)) no_bind_has)
    (λ r c. no_bind_has)) no_dec_has

ints-settled : {k : Choices} → ((j : Choices) → IntsOf j k) → (j : Choices) → IntsOf j (settled k)
ints-settled h no_choice = tt
ints-settled h (both j k) = tt
ints-settled h (base n) = tt
ints-settled h (further ls) = tt
ints-settled h (settled j) = h j

ints-further : (ls : List Label) (j : Choices) → IntsOf j (further ls)
ints-further ls no_choice = tt
ints-further ls (both j k) = tt
ints-further ls (base n) = tt
ints-further ls (further ks) = tt
ints-further ls (settled j) = tt

no-ints : (j : Choices) → IntsOf j run_choices
no-ints =
    let none = ints-none in
    let body : (j : Choices) → IntsOf j (body_choices (b ∷ [])) =
    ints-both none (ints-both (ints-both (ints-both (ints-both (ints-both none none) (ints-further (b ∷ []))) (ints-both none none)) none) none) in
    ints-both (ints-both (ints-both (ints-settled (ints-both none body)) none) none) none

only-runs : {e : Env} {k : Choices} → IsRun e k → IsInstanceOf (plus (closed [] ((x, from_two) ∷ [])) no_env) e
only-runs r = subst (IsInstanceOf (plus (closed [] ((x, from_two) ∷ [])) no_env)) (sym r.is) (record { values = λ y. by (same_vid y x); types = refl; structures = refl })
  where
    instance : (t : Typ) → Generalises (record { marks = r.marks; body = r.body }) t → Generalises (monomorphic from_two) t
    instance t g = record { types = var; allowed = tt; is = g.is ∙ r.type g.types }

    by : (c : Bool) → HasInstance (if c then Some (record { scheme = monomorphic from_two; status = Variable }) else None) (if c then Some (record { scheme = record { marks = r.marks; body = r.body }; status = Variable }) else None)
    by true = (refl, instance)
    by false = tt

annotated_principal : IsPrincipal start run 0 (plus (closed [] ((x, from_two) ∷ [])) no_env)
annotated_principal = record {
  choices = run_choices;
  types = run_has;
  counts = λ made e j h. no-ints j;
  settled = ((λ made made' e e' k k' h h'. subst (λ k. SameSettled k k') (sym (all-runs h).choices) (subst (SameSettled run_choices) (sym (all-runs h').choices) (same-settled run_choices))), tt);
  general = λ made' e' k h c. only-runs (all-runs h);
  rows = λ made' e' k h c. subst (SameRows run_choices) (sym (all-runs h).choices) (same-rows run_choices);
}
