-- What has no typing, or no principal one; and a run that has one.
use Rattle.std.proofs.Common.{◌≡◌, ℕ, Bool, true, false, not, List, [], ◌∷◌, ◌++◌, refl, sym, ap, ◌∙◌, subst, Some, None, Option}
use Rattle.std.specs.Prelude.{unwrap_or, length, nat_eq, if◌then◌else◌, nat_lt, ◌-◌, ◌&&◌, ◌<◌}
use Rattle.ty_basis.specs.of_ty_core.Types.{Typ, var, con, none, more, Typs, Symbol, arrow, labels, name as symbol, no_variable, admits}
use Rattle.mlc_names.specs.declared.label.Label.{Label}
use Rattle.mlc_names.specs.declared.label.Label.TheVariants.{Word}
use Rattle.ty_basis.specs.of_ty_core.Marks.{Allows, overloaded}
use Rattle.ty_basis.specs.Types.{Row, bool_type, function_type, int_type, labels_in, list_type, pair_type, ref_type, row_type, string_type, unit_type, word_type}
use Rattle.ty_basis.specs.Primitives.{numbers}
use Rattle.core_rules.specs.Restrictions.{distinct}
use Rattle.ty_basis.specs.of_ty_core.Statics.{replace_all}
use Rattle.ty_basis.specs.of_ty_core.declared.mark.Mark.{Mark}
use Rattle.ty_basis.specs.of_ty_core.declared.mark.Mark.TheVariants.{Any, Equality}
use Rattle.ty_basis.specs.of_ty_core.declared.env.Status.TheVariants.{Variable}
use Rattle.sml_tree.specs.declared.ident.Vid.{Vid}
use Rattle.sml_tree.specs.Derived.{list_of, select}
use Rattle.sml_tree.specs.BareTree.{Exp, Decs, fn, no_rules, bind, no_binds}
use Rattle.core_rules.specs.Words.{same_vid, same_label}
use Rattle.core_rules.specs.Objects.{sorted, Context, Value, Env, put, monomorphic, plus, no_env, value_in, Over}
use Rattle.core_rules.specs.Initial.{for_all}
use Rattle.core_rules.specs.Choices.{Choices, no_choice, both, base, further, settled, IntsOf, SameRows, SameSettled}
use Rattle.core_rules.specs.Typing.{open_has, field_has, no_field_has, rule_has, no_rule_has, HasType, IsInstance, IsChoiceOf, BindsHave, DecHas, DecsHave, Bound, put_bound, together, closed, has_none, have_none, bound_have_none, is_non_expansive, all_general, vid_has, app_has, fn_has, record_has, exp_field_has, no_exp_field_has, constant_exp_has, built_exp_has, variable_has, constructor_has, bind_has, no_bind_has, val_has, dec_has, no_dec_has}
use Rattle.core_rules.specs.Principal.{Generalises, HasInstance, IsInstanceOf, IsPrincipal, Counts}
use Rattle.mlc_names.specs.StandardWords.{word_plus, word_ref}
use Rattle.core_rules.proofs.Words.{op, at, num, v, vid, pv, ap as app, eq, one_rule, val, decs, word_a, word_b, word_x, word_y}
use Rattle.core_rules.proofs.Typings.{start, inst-has, mono-has}
use Rattle.core_rules.proofs.Basics.{put-none, units-may-stand}

abbrev same_fn : Exp
same_fn = fn at (one_rule (pv word_x) (v word_x) no_rules)

-- parts of a type
abbrev first_of : Typs → Typ
first_of none = var 0
first_of (more t ts) = t

abbrev part : Typ → Typ
part (var n) = var n
part (con h ts) = first_of ts

abbrev admitted : Typ → Bool
admitted t = admits no_variable t

value-of : {o : Option Value} {a b : Value} → o ≡ Some a → o ≡ Some b → a ≡ b
value-of {a = a} e d = ap (λ o. unwrap_or o a) (sym e ∙ d)

abbrev Holds : Bool → Type 0
Holds true = Unit {0}
Holds false = ⊥

abbrev equality : Value
equality = record { scheme = for_all Equality (function_type (pair_type (var 0) (var 0)) bool_type); status = Variable }

-- functions are never compared: (fn x => x) = (fn x => x)
functions_not_compared : (t : Typ) (k : Choices) → HasType no_variable start (eq same_fn same_fn) t k → ⊥
functions_not_compared t k (app_has p {t = u} {k = j} (vid_has q {v = w} e i) (record_has p' (exp_field_has l (fn_has p1 {t = a} {u = b} rs) (exp_field_has l' (fn_has p2 rs') no_exp_field_has)) is)) =
    let i' : IsInstance no_variable start equality.scheme (function_type u t) j = subst (λ w. IsInstance no_variable start w.scheme (function_type u t) j) (value-of e refl) i in
    let same : i'.types 0 ≡ function_type a b = sym (ap (λ t. part (part t)) i'.is) ∙ ap part is in
    subst Holds (sym i'.allowed.0 ∙ ap admitted same) tt

-- val x = ref []: any type of elements will do, and none is generalised
abbrev empty_ref : Exp
empty_ref = app (v word_ref) (list_of at [])

abbrev refs : Decs
refs = decs (val (pv word_x) empty_ref ∷ [])

abbrev refs_at : Typ → Env
refs_at t = plus (closed [] ((vid word_x, ref_type (list_type t)) ∷ [])) no_env

abbrev pub fresh_choices : Choices
fresh_choices = both (both (both no_choice (both no_choice no_choice)) no_choice) no_choice

abbrev no_base : Choices
no_base = both fresh_choices no_choice

abbrev pub fresh : (t : Typ) → Over start.names t → has_none 0 t ≡ true → DecHas no_variable start (val (pv word_x) empty_ref) 0 (closed [] ((vid word_x, ref_type (list_type t)) ∷ [])) fresh_choices
fresh t o h = val_has _ _ [] {vs = ((vid word_x, ref_type (list_type t)) ∷ []) ∷ []} {us = []} refl refl refl
    (λ r c. bind_has _ (variable_has _ refl refl (refl, ((refl, (o, tt)), tt))) (ap (λ u. (vid word_x, ref_type (list_type u)) ∷ []) (sym (put-none r t)))
    (app_has _ (inst-has _ (for_all Any (function_type (var 0) (ref_type (var 0)))) (λ n. list_type t) refl (tt, tt) (tt, ((refl, (o, tt)), ((refl, ((refl, (o, tt)), tt)), tt))) refl)
    (built_exp_has _ (record { types = λ n. t; allowed = (tt, tt); over = (refl, (o, tt)); is = refl; chosen = refl })))
    (λ e. ap (λ b. ((b && true) && true) && true) h) no_bind_has)
    (λ r c. no_bind_has)

abbrev fresh_refs : (t : Typ) → Over start.names t → has_none 0 t ≡ true → DecsHave no_variable start refs 0 (refs_at t) no_base
fresh_refs t o h = dec_has (fresh t o h) no_dec_has

pub ints-none : (j : Choices) → IntsOf j no_choice
ints-none no_choice = tt
ints-none (both j j') = tt
ints-none (base n) = tt
ints-none (further ls) = tt
ints-none (settled j) = tt

pub ints-both : {a b : Choices} → ((j : Choices) → IntsOf j a) → ((j : Choices) → IntsOf j b) → (j : Choices) → IntsOf j (both a b)
ints-both h g no_choice = tt
ints-both h g (both j j') = (h j, g j')
ints-both h g (base n) = tt
ints-both h g (further ls) = tt
ints-both h g (settled j) = tt

no-ints : (j : Choices) → IntsOf j no_base
no-ints = ints-both (ints-both (ints-both (ints-both ints-none (ints-both ints-none ints-none)) ints-none) ints-none) ints-none

refs-count : Counts start refs no_base
refs-count made e j h = no-ints j

-- a type without parameters stays itself
mutual
  pub put-fixed : (n : ℕ) (f g : ℕ → Typ) (t : Typ) → has_none n t ≡ true → put n f t ≡ put n g t
  put-fixed n f g (var u) e = by (nat_lt u n) e
    where
      by : (b : Bool) → not b ≡ true → (if b then f u else var (u - n)) ≡ (if b then g u else var (u - n))
      by true e = absurd (subst Holds (sym e) tt)
      by false e = refl
  put-fixed n f g (con h ts) e = ap (con h) (puts-fixed n f g ts e)

  puts-fixed : (n : ℕ) (f g : ℕ → Typ) (ts : Typs) → have_none n ts ≡ true → replace_all (λ v. if nat_lt v n then f v else var (v - n)) ts ≡ replace_all (λ v. if nat_lt v n then g v else var (v - n)) ts
  puts-fixed n f g none e = refl
  puts-fixed n f g (more t ts) e = λ i. more (put-fixed n f g t (left (has_none n t) (have_none n ts) e) i) (puts-fixed n f g ts (right (has_none n t) (have_none n ts) e) i)
    where
      left : (a b : Bool) → (a && b) ≡ true → a ≡ true
      left true b e = refl
      left false b e = e

      right : (a b : Bool) → (a && b) ≡ true → b ≡ true
      right true b e = e
      right false b e = absurd (subst Holds (sym e) tt)

-- x has a scheme in whose type no parameter stands
record IsFixed (e : Env) : Type 0 where
  marks : List Mark
  body : Typ
  found : value_in e (vid word_x) ≡ Some (record { scheme = record { marks = marks; body = body }; status = Variable })
  fixed : has_none (length marks) body ≡ true

abbrev env_of : List Mark → List Bound → List Bound → Env
env_of marks vs us = plus (closed marks (together vs ++ together us)) no_env

nothing-found : {v : Value} → None ≡ Some v → {A : Type 0} → A
nothing-found e = absurd (subst (λ o. Holds (Rattle.std.specs.Prelude.is_none o)) e tt)

abbrev AtLeastOne : Bound → Type 0
AtLeastOne [] = ⊥
AtLeastOne (b ∷ bs) = Unit {0}

abbrev AtMostOne : Bound → Type 0
AtMostOne [] = Unit {0}
AtMostOne (b ∷ []) = Unit {0}
AtMostOne (b ∷ c ∷ bs) = ⊥

abbrev first_bound : Bound → Vid
first_bound [] = vid word_x
first_bound (b ∷ bs) = b.0

-- what the one pattern binds
one-bound : (marks : List Mark) (n : ℕ) (r : ℕ → Typ) (t : Typ) (g : Bound) → (vid word_x, t) ∷ [] ≡ put_bound n r g → n ≡ length marks → bound_have_none n g ≡ true → IsFixed (env_of marks (g ∷ []) [])
one-bound marks n r t [] e l h = let bad : AtLeastOne [] = subst AtLeastOne e tt in absurd bad
one-bound marks n r t (b ∷ c ∷ g) e l h = let bad : AtMostOne (put_bound n r (b ∷ c ∷ g)) = subst AtMostOne e tt in absurd bad
one-bound marks n r t (b ∷ []) e l h = subst (λ y. IsFixed (env_of marks (((y, b.1) ∷ []) ∷ []) [])) (ap first_bound e)
    (record { marks = marks; body = b.1; found = refl; fixed = subst (λ n. has_none n b.1 ≡ true) l (both-true (has_none n b.1) h) })
  where
    both-true : (a : Bool) → (a && true) ≡ true → a ≡ true
    both-true true e = refl
    both-true false e = e

by-binds : (marks : List Mark) {r : ℕ → Typ} {c c' : Context} {vs us : List Bound} {k j : Choices} → value_in c.env (vid word_x) ≡ None → (is_non_expansive c.env empty_ref ≡ false) →
    BindsHave no_variable c (length marks) r (bind at (pv word_x) empty_ref no_binds) vs k → BindsHave no_variable c' (length marks) r no_binds us j → IsFixed (env_of marks vs us)
by-binds marks {r = r} f x (bind_has p {vs = g} (variable_has q {t = t} m m' o) e et h no_bind_has) no_bind_has = one-bound marks (length marks) r t g e refl (h x)
by-binds marks f x (bind_has p (constructor_has q l m i) e et h no_bind_has) no_bind_has = nothing-found (sym f ∙ l)

unit-choice : (marks : List Mark) → all_general marks ≡ true → IsChoiceOf no_variable start marks (λ n. unit_type)
unit-choice marks e = units-may-stand no_variable start marks e

all-fixed : {made : ℕ} {e : Env} {k : Choices} → DecsHave no_variable start refs made e k → IsFixed e
all-fixed (dec_has (val_has p p' marks g fns d plain rec_) no_dec_has) = by-binds marks refl refl (plain (λ n. unit_type) (unit-choice marks g)) (rec_ (λ n. unit_type) (unit-choice marks g))

-- the number of the type of elements
abbrev number_of : Typ → ℕ
number_of (var n) = 9
number_of (con arrow ts) = 9
number_of (con (labels ls) ts) = 9
number_of (con (symbol n) ts) = n.stamp

abbrev elements : Typ → ℕ
elements t = number_of (part (part t))

no_principal : (made : ℕ) (e : Env) → IsPrincipal start refs made e → ⊥
no_principal made e h =
    let x : IsFixed e = all-fixed h.types in
    let ints : Generalises (record { marks = x.marks; body = x.body }) (ref_type (list_type int_type)) = instance-at int_type (h.general 0 (refs_at int_type) no_base (fresh_refs int_type (refl, tt) refl) refs-count) x in
    let strings : Generalises (record { marks = x.marks; body = x.body }) (ref_type (list_type string_type)) = instance-at string_type (h.general 0 (refs_at string_type) no_base (fresh_refs string_type (refl, tt) refl) refs-count) x in
    let same : put (length x.marks) ints.types x.body ≡ put (length x.marks) strings.types x.body = put-fixed (length x.marks) ints.types strings.types x.body x.fixed in
    absurd (subst (λ t. Holds (nat_eq (elements t) 0)) (ints.is ∙ same ∙ sym strings.is) tt)
  where
    instance-at : {e : Env} (t : Typ) → IsInstanceOf e (refs_at t) → (x : IsFixed e) → Generalises (record { marks = x.marks; body = x.body }) (ref_type (list_type t))
    instance-at t i x =
        (subst (λ o. HasInstance o (Some (record { scheme = monomorphic (ref_type (list_type t)); status = Variable }))) x.found (i.values (vid word_x))).1
        (ref_type (list_type t)) (record { types = var; allowed = tt; is = sym (put-none var (ref_type (list_type t))) })

-- val x = 1: int is principal
abbrev one : Decs
one = decs (val (pv word_x) (num 1) ∷ [])

abbrev one_env : Env
one_env = plus (closed [] ((vid word_x, int_type) ∷ [])) no_env

abbrev one_choices : Choices
one_choices = both (both (both (settled (both no_choice no_choice)) no_choice) no_choice) no_choice

one_has : DecsHave no_variable start one 0 one_env one_choices
one_has = dec_has (val_has _ _ [] {vs = ((vid word_x, int_type) ∷ []) ∷ []} {us = []} refl refl refl
    (λ r c. bind_has _ (variable_has _ refl refl (refl, tt)) refl (constant_exp_has _ _) (λ e. absurd (subst Holds e tt)) no_bind_has)
    (λ r c. no_bind_has)) no_dec_has

one-ints : (j : Choices) → IntsOf j one_choices
one-ints = ints-both (ints-both (ints-both ints-settled ints-none) ints-none) ints-none
  where
    ints-settled : (j : Choices) → IntsOf j (settled (both no_choice no_choice))
    ints-settled no_choice = tt
    ints-settled (both j j') = tt
    ints-settled (base n) = tt
    ints-settled (further ls) = tt
    ints-settled (settled j) = ints-both ints-none ints-none j

-- the type that a binding of x has, where it is alone
record IsBinding (n : ℕ) (r : ℕ → Typ) (vs : List Bound) : Type 0 where
  body : Typ
  is : vs ≡ ((vid word_x, body) ∷ []) ∷ []
  int : put n r body ≡ int_type

abbrev type_bound : Bound → Typ
type_bound [] = unit_type
type_bound (b ∷ bs) = b.1

abbrev first_group : List Bound → Bound
first_group [] = []
first_group (g ∷ gs) = g

binding-of : (n : ℕ) (r : ℕ → Typ) (g : Bound) → (vid word_x, int_type) ∷ [] ≡ put_bound n r g → IsBinding n r (g ∷ [])
binding-of n r [] e = let bad : AtLeastOne [] = subst AtLeastOne e tt in absurd bad
binding-of n r (b ∷ c ∷ g) e = let bad : AtMostOne (put_bound n r (b ∷ c ∷ g)) = subst AtMostOne e tt in absurd bad
binding-of n r (b ∷ []) e = record { body = b.1; is = ap (λ y. ((y, b.1) ∷ []) ∷ []) (sym (ap first_bound e)); int = sym (ap type_bound e) }

one-binding : {n : ℕ} {r : ℕ → Typ} {c : Context} {vs : List Bound} {k : Choices} → value_in c.env (vid word_x) ≡ None → BindsHave no_variable c n r (bind at (pv word_x) (num 1) no_binds) vs k → IsBinding n r vs
one-binding {n = n} {r = r} f (bind_has p {vs = g} (variable_has q m m' o) e (constant_exp_has q' k) h no_bind_has) = binding-of n r g e
one-binding f (bind_has p (constructor_has q l m i) e t h no_bind_has) = nothing-found (sym f ∙ l)

no-binding : {n : ℕ} {r : ℕ → Typ} {c : Context} {us : List Bound} {k : Choices} → BindsHave no_variable c n r no_binds us k → us ≡ []
no-binding no_bind_has = refl

-- a type that is int whatever its parameters are is int
abbrev NoMore : Typ → Type 0
NoMore (var v) = ⊥
NoMore (con h none) = Unit {0}
NoMore (con h (more t ts)) = ⊥

abbrev head : Typ → Symbol
head (var v) = arrow
head (con h ts) = h

rigid : (n : ℕ) (f : ℕ → Typ) (t : Typ) → put n (λ v. unit_type) t ≡ int_type → put n f t ≡ int_type
rigid n f (var u) e = by (nat_lt u n) e
  where
    by : (b : Bool) → (if b then unit_type else var (u - n)) ≡ int_type → (if b then f u else var (u - n)) ≡ int_type
    by true e = absurd (subst (λ t. Holds (nat_eq (number_of t) 9)) e tt)
    by false e = absurd (subst (λ t. Holds (nat_eq (number_of t) 9)) e tt)
rigid n f (con h none) e = ap (λ h. con h none) (ap head e)
rigid n f (con h (more t ts)) e = absurd (subst NoMore (sym e) tt)

-- what any typing of it gives: x alone, with a type that is int for all parameters
record IsInt (e : Env) : Type 0 where
  marks : List Mark
  body : Typ
  is : e ≡ plus (closed marks ((vid word_x, body) ∷ [])) no_env
  int : (f : ℕ → Typ) → put (length marks) f body ≡ int_type

all-int : {made : ℕ} {e : Env} {k : Choices} → DecsHave no_variable start one made e k → IsInt e
all-int (dec_has (val_has p p' marks {vs} {us} g fns d plain rec_) no_dec_has) =
    let x : IsBinding (length marks) (λ n. unit_type) vs = one-binding refl (plain (λ n. unit_type) (unit-choice marks g)) in
    let none_rec : us ≡ [] = no-binding (rec_ (λ n. unit_type) (unit-choice marks g)) in
    record { marks = marks; body = x.body; is = λ i. env_of marks (x.is i) (none_rec i); int = λ f. rigid (length marks) f x.body x.int }

one-choice : {made : ℕ} {e : Env} {k : Choices} → DecsHave no_variable start one made e k → k ≡ one_choices
one-choice (dec_has (val_has p p' marks g fns d plain rec_) no_dec_has) = λ i. both (both (plain-choice (plain (λ n. unit_type) (unit-choice marks g)) i) (rec-choice (rec_ (λ n. unit_type) (unit-choice marks g)) i)) no_choice
  where
    plain-choice : {n : ℕ} {r : ℕ → Typ} {c : Context} {vs : List Bound} {k : Choices} → BindsHave no_variable c n r (bind at (pv word_x) (num 1) no_binds) vs k → k ≡ both (settled (both no_choice no_choice)) no_choice
    plain-choice (bind_has p (variable_has q m m' o) e (constant_exp_has q' k) h no_bind_has) = refl
    plain-choice (bind_has p (constructor_has q l m i) e (constant_exp_has q' k) h no_bind_has) = refl

    rec-choice : {n : ℕ} {r : ℕ → Typ} {c : Context} {us : List Bound} {k : Choices} → BindsHave no_variable c n r no_binds us k → k ≡ no_choice
    rec-choice no_bind_has = refl

only-ints : {e : Env} → IsInt e → IsInstanceOf one_env e
only-ints x = subst (IsInstanceOf one_env) (sym x.is) (record { values = λ y. by (same_vid y (vid word_x)); types = refl; structures = refl })
  where
    instance-int : (t : Typ) → Generalises (record { marks = x.marks; body = x.body }) t → Generalises (monomorphic int_type) t
    instance-int t g = record { types = var; allowed = tt; is = g.is ∙ x.int g.types }

    by : (b : Bool) → HasInstance (if b then Some (record { scheme = monomorphic int_type; status = Variable }) else None) (if b then Some (record { scheme = record { marks = x.marks; body = x.body }; status = Variable }) else None)
    by true = (refl, instance-int)
    by false = tt

one_principal : IsPrincipal start one 0 one_env
one_principal = record {
  choices = one_choices;
  types = one_has;
  counts = λ made e j h. one-ints j;
  settled = ((λ made made' e e' k k' h h'. subst (λ k. SameSettled k k') (sym (one-choice h)) (subst (SameSettled one_choices) (sym (one-choice h')) ((((tt, tt), tt), tt), tt))), tt);
  general = λ made' e' k h c. only-ints (all-int h);
  rows = λ made' e' k h c. subst (SameRows one_choices) (sym (one-choice h)) ((((tt, tt), tt), tt), tt);
}

-- val x = fn y => y + y: int or word, and int counts
abbrev doubles : Decs
doubles = decs (val (pv word_x) (fn at (one_rule (pv word_y) (op (v word_y) word_plus (v word_y)) no_rules)) ∷ [])

abbrev doubles_choices : ℕ → Choices
doubles_choices n = both (both (both (settled (both no_choice (both no_choice (both (both (base n) (both no_choice (both no_choice no_choice))) no_choice)))) no_choice) no_choice) no_choice

abbrev doubles_env : Typ → Env
doubles_env t = plus (closed [] ((vid word_x, function_type t t) ∷ [])) no_env

abbrev pair_of : Typ → Typ
pair_of t = pair_type t t

doubles_has : (n : ℕ) (t : Typ) → Over start.names t → Allows numbers no_variable t → t ≡ con (symbol (overloaded n)) none → DecsHave no_variable start doubles 0 (doubles_env t) (doubles_choices n)
doubles_has n t o a e = dec_has (val_has _ _ [] {vs = ((vid word_x, function_type t t) ∷ []) ∷ []} {us = []} refl refl refl
    (λ r c. bind_has _ (variable_has _ refl refl (tt, (o, (o, tt)))) (ap (λ u. (vid word_x, function_type u u) ∷ []) (sym (put-none r t)))
    (fn_has _ (rule_has _ (variable_has _ refl refl o) refl
    (app_has _ (inst-has _ (for_all numbers (function_type (pair_type (var 0) (var 0)) (var 0))) (λ i. t) refl (a, tt) (tt, ((tt, (o, (o, tt))), (o, tt))) (n, e, refl))
    (record_has _ (exp_field_has _ (mono-has _ t refl o) (exp_field_has _ (mono-has _ t refl o) no_exp_field_has)) refl))
    no_rule_has))
    (λ x. absurd (subst Holds x tt)) no_bind_has)
    (λ r c. no_bind_has)) no_dec_has

ints_double : DecsHave no_variable start doubles 0 (doubles_env int_type) (doubles_choices 0)
ints_double = doubles_has 0 int_type (refl, tt) (record { number = 0; is = refl; held = refl }) refl

words_double : DecsHave no_variable start doubles 0 (doubles_env word_type) (doubles_choices 1)
words_double = doubles_has 1 word_type (refl, tt) (record { number = 1; is = refl; held = refl }) refl

words_not_counted : Counts start doubles (doubles_choices 1) → ⊥
words_not_counted h =
    let e : 1 ≡ 0 = ((h 0 (doubles_env int_type) (doubles_choices 0) ints_double).0.0.0.1.1.0.0) refl in
    absurd (subst (λ n. Holds (nat_eq n 1)) e tt)

-- val x = fn y => #a y: the further labels of y stay open at its end
abbrev selects : Decs
selects = decs (val (pv word_x) (fn at (one_rule (pv word_y) (app (select at (Word word_a)) (v word_y)) no_rules)) ∷ [])

abbrev selects_choices : List Label → Choices
selects_choices ls = both (both (both (settled (both no_choice (both no_choice (both (both (both (both (both no_choice no_choice) (further ls)) (both no_choice no_choice)) no_choice) no_choice)))) no_choice) no_choice) no_choice

abbrev from_row : Row → Typ
from_row r = function_type (row_type r) int_type

abbrev alone : Row
alone = (Word word_a, int_type) ∷ []

abbrev with_b : Row
with_b = (Word word_a, int_type) ∷ (Word word_b, int_type) ∷ []

selects_has : (others r : Row) → row_type r ≡ row_type (sorted (alone ++ others)) → Over start.names (row_type r) → distinct same_label (labels_in (alone ++ others)) ≡ true → put 0 var (from_row r) ≡ from_row r →
    DecsHave no_variable start selects 0 (plus (closed [] ((vid word_x, from_row r) ∷ [])) no_env) (selects_choices (labels_in (sorted others)))
selects_has others r e o d p = dec_has (val_has _ _ [] {vs = ((vid word_x, from_row r) ∷ []) ∷ []} {us = []} refl refl refl
    (λ f c. bind_has _ (variable_has _ refl refl (tt, (o, ((refl, tt), tt)))) (ap (λ t. (vid word_x, t) ∷ []) (sym (put-none f (from_row r))))
    (fn_has _ (rule_has _ (variable_has _ refl refl o) refl
    (app_has _ (fn_has _ (rule_has _ (open_has _ others (field_has _ (variable_has _ refl refl (refl, tt)) no_field_has) d e o) refl (mono-has _ int_type refl (refl, tt)) no_rule_has))
    (mono-has _ (row_type r) refl o))
    no_rule_has))
    (λ x. absurd (subst Holds x tt)) no_bind_has)
    (λ f c. no_bind_has)) no_dec_has

abbrev Empty : List Label → Type 0
Empty [] = Unit {0}
Empty (l ∷ ls) = ⊥

rows_unsettled : (made : ℕ) (e : Env) → IsPrincipal start selects made e → ⊥
rows_unsettled made e h =
    let short : DecsHave no_variable start selects 0 (plus (closed [] ((vid word_x, from_row alone) ∷ [])) no_env) (selects_choices []) = selects_has [] alone refl (tt, ((refl, tt), tt)) refl refl in
    let long : DecsHave no_variable start selects 0 (plus (closed [] ((vid word_x, from_row with_b) ∷ [])) no_env) (selects_choices (Word word_b ∷ [])) =
    selects_has ((Word word_b, int_type) ∷ []) with_b refl (tt, ((refl, tt), ((refl, tt), tt))) refl refl in
    let same : [] ≡ Word word_b ∷ [] = (h.settled.0 0 0 _ _ (selects_choices []) (selects_choices (Word word_b ∷ [])) short long).0.0.0.1.1.0.0.0.1 in
    absurd (subst Empty same tt)
