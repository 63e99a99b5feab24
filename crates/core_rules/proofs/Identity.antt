-- fun id x = x is principal at 'a -> 'a.
use Rattle.std.proofs.Common.{◌≡◌, ℕ, Bool, true, false, if◌then◌else◌, nat_lt, List, [], ◌∷◌, ◌++◌, length, Option, Some, None, refl, sym, ap, ◌∙◌, subst}
use Rattle.std.specs.Prelude.{unwrap_or, ◌-◌}
use Rattle.ty_basis.specs.of_ty_core.Types.{Typ, var, con, none, more, arrow, labels, name as symbol, no_variable}
use Rattle.ty_basis.specs.of_ty_core.declared.mark.Mark.{Mark}
use Rattle.ty_basis.specs.of_ty_core.declared.mark.Mark.TheVariants.{Any}
use Rattle.ty_basis.specs.of_ty_core.declared.env.Status.TheVariants.{Variable}
use Rattle.sml_tree.specs.declared.ident.Vid.{Vid}
use Rattle.sml_tree.specs.Derived.{fresh_pat, fresh_exp}
use Rattle.sml_tree.specs.BareTree.{Exp, Decs, Binds, fn, no_rules, bind, no_binds}
use Rattle.ty_basis.specs.Types.{function_type, unit_type}
use Rattle.core_rules.specs.Words.{same_vid}
use Rattle.core_rules.specs.Objects.{Context, Value, Env, put, monomorphic, plus, no_env, values_env}
use Rattle.core_rules.specs.Choices.{Choices, no_choice, both, base, further, settled, IntsOf, SameRows, SameSettled}
use Rattle.core_rules.specs.Typing.{with_bound, scoping, HasType, IsInstance, IsChoiceOf, BindsHave, DecsHave, Bound, put_bound, together, closed, all_general, vid_has, app_has, fn_has, rule_has, no_rule_has, variable_has, constructor_has, bind_has, no_bind_has, val_has, dec_has, no_dec_has}
use Rattle.core_rules.specs.Principal.{Generalises, HasInstance, IsInstanceOf, IsPrincipal}
use Rattle.core_rules.proofs.Basics.{put-none, units-may-stand}
use Rattle.core_rules.proofs.Generic.{parameters-are-generic}
use Rattle.core_rules.proofs.Words.{at, v, vid, pv, ap as app, one_rule, clause, fun, decs, word_id, word_x}
use Rattle.core_rules.proofs.Typings.{start, id_env, id_has, one_settled, one_match}

abbrev id : Vid
id = vid word_id

-- what stands for `fun id x = x`
abbrev id_fn : Exp
id_fn = fn at (one_rule (fresh_pat at 1) (app (fn at (one_rule (pv word_x) (v word_x) no_rules)) (fresh_exp at 1)) no_rules)

abbrev id_binds : Binds
id_binds = bind at (pv word_id) id_fn no_binds

abbrev id_run : Decs
id_run = decs (fun word_id (clause (pv word_x ∷ []) (v word_x) ∷ []) ∷ [])

abbrev fn_choices : Choices
fn_choices = one_match (both (one_match no_choice) no_choice)

abbrev id_choices : Choices
id_choices = both (both no_choice (one_settled fn_choices)) no_choice

-- where id has the type t
abbrev under : Typ → Context
under t = record { names = start.names; tyvars = []; env = plus start.env (values_env ((id, record { scheme = monomorphic t; status = Variable }) ∷ [])) }

abbrev Missing : Option Value → Type 0
Missing None = Unit {0}
Missing (Some w) = ⊥

nothing-found : {w : Value} → None ≡ Some w → {A : Type 0} → A
nothing-found {w = w} e = let bad : Missing (Some w) = subst Missing e tt in absurd bad

value-of : {o : Option Value} {a b : Value} → o ≡ Some a → o ≡ Some b → a ≡ b
value-of {a = a} e d = ap (λ o. unwrap_or o a) (sym e ∙ d)

abbrev variable_at : Typ → Value
variable_at t = record { scheme = monomorphic t; status = Variable }

-- a variable with one type has it, and makes no choice
one-type : (c : Context) (o : Option Value) (t u : Typ) (w : Value) (k : Choices) → o ≡ Some w → o ≡ Some (variable_at t) → IsInstance no_variable c w.scheme u k → (u ≡ t) × (k ≡ no_choice)
one-type c o t u w k e d i =
    let i' : IsInstance no_variable c (monomorphic t) u k = subst (λ w. IsInstance no_variable c w.scheme u k) (value-of e d) i in
    (i'.is ∙ put-none i'.types t, i'.chosen)

-- from one type to the same
record IsIdentity (u : Typ) (k : Choices) : Type 0 where
  at_type : Typ
  is : u ≡ function_type at_type at_type
  choices : k ≡ fn_choices

fn-type : (t u : Typ) (k : Choices) → HasType no_variable (under t) id_fn u k → IsIdentity u k
fn-type t u k (fn_has p (rule_has q (variable_has q1 {t = a} m n o) d (app_has q2 {t = b} {u = c} (fn_has q3 (rule_has q4 (variable_has q5 m' n' o') d' (vid_has q6 {v = w} {k = j} e i) no_rule_has)) (vid_has q7 {v = w'} {k = j'} e' i')) no_rule_has)) =
    let x : (c ≡ b) × (j ≡ no_choice) = one-type _ _ b c w j e refl i in
    let y : (b ≡ a) × (j' ≡ no_choice) = one-type _ _ a b w' j' e' refl i' in
    record { at_type = a; is = ap (function_type a) (x.0 ∙ y.0); choices = λ l. one_match (both (one_match (x.1 l)) (y.1 l)) }
fn-type t u k (fn_has p (rule_has q (variable_has q1 m n o) d (app_has q2 (fn_has q3 (rule_has q4 (constructor_has q5 e m' i') d' b l)) a) r)) = nothing-found e
fn-type t u k (fn_has p (rule_has q (constructor_has q1 e m i) d b r)) = nothing-found e

abbrev type_bound : Bound → Typ
type_bound [] = unit_type
type_bound (b ∷ bs) = b.1

abbrev first_bound : Bound → Vid
first_bound [] = id
first_bound (b ∷ bs) = b.0

abbrev AtLeastOne : Bound → Type 0
AtLeastOne [] = ⊥
AtLeastOne (b ∷ bs) = Unit {0}

abbrev AtMostOne : Bound → Type 0
AtMostOne [] = Unit {0}
AtMostOne (b ∷ []) = Unit {0}
AtMostOne (b ∷ c ∷ bs) = ⊥

-- the one binding binds id alone
record BindsOne (us : List Bound) : Type 0 where
  body : Typ
  is : us ≡ ((id, body) ∷ []) ∷ []

one-group : (n : ℕ) (r : ℕ → Typ) (t : Typ) (g : Bound) → (id, t) ∷ [] ≡ put_bound n r g → BindsOne (g ∷ [])
one-group n r t [] e = let bad : AtLeastOne [] = subst AtLeastOne e tt in absurd bad
one-group n r t (b ∷ c ∷ g) e = let bad : AtMostOne (put_bound n r (b ∷ c ∷ g)) = subst AtMostOne e tt in absurd bad
one-group n r t (b ∷ []) e = record { body = b.1; is = ap (λ y. ((y, b.1) ∷ []) ∷ []) (sym (ap first_bound e)) }

binds-one : {c : Context} {n : ℕ} {r : ℕ → Typ} {us : List Bound} {k : Choices} → BindsHave no_variable c n r id_binds us k → BindsOne us
binds-one {n = n} {r = r} (bind_has p {vs = g} (variable_has q {t = t} m m' o) e h s no_bind_has) = one-group n r t g e
binds-one (bind_has p (constructor_has q l m i) e h s b) = elim h [ ]

no-binding : {n : ℕ} {r : ℕ → Typ} {c : Context} {us : List Bound} {k : Choices} → BindsHave no_variable c n r no_binds us k → (us ≡ []) × (k ≡ no_choice)
no-binding no_bind_has = (refl, refl)

-- what a binding of id to it says, where id has the type t
record IsBound (n : ℕ) (r : ℕ → Typ) (body : Typ) (k : Choices) : Type 0 where
  at_type : Typ
  is : put n r body ≡ function_type at_type at_type
  choices : k ≡ one_settled fn_choices

bound-at : (n : ℕ) (r : ℕ → Typ) (t body : Typ) {k : Choices} → BindsHave no_variable (under t) n r id_binds (((id, body) ∷ []) ∷ []) k → IsBound n r body k
bound-at n r t body (bind_has p {j = j} (variable_has q {t = u} m m' o) e h s no_bind_has) =
    let x : IsIdentity u j = fn-type t u j h in
    record { at_type = x.at_type; is = sym (ap type_bound e) ∙ x.is; choices = ap one_settled x.choices }
bound-at n r t body (bind_has p (constructor_has q l m i) e h s b) = elim h [ ]

-- a type that is a function whatever its parameters are is one
abbrev IsArrow : Typ → Type 0
IsArrow (var v) = ⊥
IsArrow (con arrow ts) = Unit {0}
IsArrow (con (labels ls) ts) = ⊥
IsArrow (con (symbol n) ts) = ⊥

abbrev HasTwo : Typ → Type 0
HasTwo (var v) = ⊥
HasTwo (con h none) = ⊥
HasTwo (con h (more t none)) = ⊥
HasTwo (con h (more t (more u none))) = Unit {0}
HasTwo (con h (more t (more u (more w ts)))) = ⊥

record IsFunction (body : Typ) : Type 0 where
  from : Typ
  to : Typ
  is : body ≡ function_type from to

function-of : (n : ℕ) (body t : Typ) → put n (λ v. unit_type) body ≡ function_type t t → IsFunction body
function-of n (var u) t e = by (nat_lt u n) e
  where
    by : (b : Bool) → (if b then unit_type else var (u - n)) ≡ function_type t t → IsFunction (var u)
    by true e = let bad : IsArrow unit_type = subst IsArrow (sym e) tt in absurd bad
    by false e = let bad : IsArrow (var (u - n)) = subst IsArrow (sym e) tt in absurd bad
function-of n (con (labels ls) ts) t e = let bad : IsArrow (put n (λ v. unit_type) (con (labels ls) ts)) = subst IsArrow (sym e) tt in absurd bad
function-of n (con (symbol m) ts) t e = let bad : IsArrow (put n (λ v. unit_type) (con (symbol m) ts)) = subst IsArrow (sym e) tt in absurd bad
function-of n (con arrow (more a (more b none))) t e = record { from = a; to = b; is = refl }
function-of n (con arrow none) t e = let bad : HasTwo (con arrow none) = subst HasTwo (sym e) tt in absurd bad
function-of n (con arrow (more a none)) t e = let bad : HasTwo (put n (λ v. unit_type) (con arrow (more a none))) = subst HasTwo (sym e) tt in absurd bad
function-of n (con arrow (more a (more b (more c ts)))) t e = let bad : HasTwo (put n (λ v. unit_type) (con arrow (more a (more b (more c ts))))) = subst HasTwo (sym e) tt in absurd bad

abbrev first_part : Typ → Typ
first_part (var v) = var v
first_part (con h none) = var 0
first_part (con h (more t ts)) = t

abbrev second_part : Typ → Typ
second_part (var v) = var v
second_part (con h none) = var 0
second_part (con h (more t none)) = var 0
second_part (con h (more t (more u ts))) = u

-- what any typing gives: id alone, from one type to the same
record IsIdentityEnv (e : Env) (k : Choices) : Type 0 where
  marks : List Mark
  from : Typ
  is : e ≡ plus (closed marks ((id, function_type from from) ∷ [])) no_env
  choices : k ≡ id_choices

-- the same of a group that binds id alone
of-body : (marks : List Mark) (body : Typ) {k : Choices} → all_general marks ≡ true →
    ((r : ℕ → Typ) → IsChoiceOf no_variable start marks r → BindsHave no_variable (under (put (length marks) r body)) (length marks) r id_binds (((id, body) ∷ []) ∷ []) k) →
    IsIdentityEnv (plus (closed marks ((id, body) ∷ [])) no_env) (both (both no_choice k) no_choice)
of-body marks body {k = k} g rec_ =
    let units : IsBound (length marks) (λ v. unit_type) body k = bound-at (length marks) (λ v. unit_type) (put (length marks) (λ v. unit_type) body) body (rec_ (λ v. unit_type) (units-may-stand no_variable start marks g)) in
    let f : IsFunction body = function-of (length marks) body units.at_type units.is in
    let same : f.from ≡ f.to = parameters-are-generic no_variable start marks f.from f.to g
    (λ r c. let x : IsBound (length marks) r body k = bound-at (length marks) r (put (length marks) r body) body (rec_ r c) in
    let y : put (length marks) r (function_type f.from f.to) ≡ function_type x.at_type x.at_type = ap (put (length marks) r) (sym f.is) ∙ x.is in
    ap first_part y ∙ sym (ap second_part y)) in
    record { marks = marks; from = f.from; is = ap (λ t. plus (closed marks ((id, t) ∷ [])) no_env) (f.is ∙ ap (function_type f.from) (sym same)); choices = ap (λ k. both (both no_choice k) no_choice) units.choices }

all-identities : {made : ℕ} {e : Env} {k : Choices} → DecsHave no_variable start id_run made e k → IsIdentityEnv e k
all-identities (dec_has (val_has p p' marks {vs} {us} {k = k} {j = j} g fns d plain rec_) no_dec_has) =
    let x : BindsOne us = binds-one (rec_ (λ v. unit_type) (units-may-stand no_variable start marks g)) in
    let y : (vs ≡ []) × (k ≡ no_choice) = no-binding (plain (λ v. unit_type) (units-may-stand no_variable start marks g)) in
    subst (λ k. IsIdentityEnv (plus (closed marks (together vs ++ together us)) no_env) (both (both k j) no_choice)) (sym y.1)
    (subst (λ vs. IsIdentityEnv (plus (closed marks (together vs ++ together us)) no_env) (both (both no_choice j) no_choice)) (sym y.0)
    (subst (λ us. IsIdentityEnv (plus (closed marks (together us)) no_env) (both (both no_choice j) no_choice)) (sym x.is)
    (of-body marks x.body g (λ r c. subst (λ us. BindsHave no_variable (with_bound (scoping start [] no_binds id_binds r) (put_bound (length marks) r (together us))) (length marks) r id_binds us j) x.is (rec_ r c)))))

only-identities : {e : Env} {k : Choices} → IsIdentityEnv e k → IsInstanceOf (plus id_env no_env) e
only-identities x = subst (IsInstanceOf (plus id_env no_env)) (sym x.is) (record { values = λ y. by (same_vid y id); types = refl; structures = refl })
  where
    instance : (t : Typ) → Generalises (record { marks = x.marks; body = function_type x.from x.from }) t → Generalises (record { marks = Any ∷ []; body = function_type (var 0) (var 0) }) t
    instance t g = record { types = λ v. put (length x.marks) g.types x.from; allowed = (tt, tt); is = g.is }

    by : (b : Bool) → HasInstance (if b then Some (record { scheme = record { marks = Any ∷ []; body = function_type (var 0) (var 0) }; status = Variable }) else None)
        (if b then Some (record { scheme = record { marks = x.marks; body = function_type x.from x.from }; status = Variable }) else None)
    by true = (refl, instance)
    by false = tt

ints-none : (j : Choices) → IntsOf j no_choice
ints-none no_choice = tt
ints-none (both j j') = tt
ints-none (base n) = tt
ints-none (further ls) = tt
ints-none (settled j) = tt

id-ints : {made : ℕ} {e : Env} (j : Choices) → DecsHave no_variable start id_run made e j → IntsOf j id_choices
id-ints j h = subst (λ j. IntsOf j id_choices) (sym (all-identities h).choices) ((tt, ((tt, (tt, (((tt, (tt, tt)), tt), tt))), tt)), tt)

id_principal : IsPrincipal start id_run 0 (plus id_env no_env)
id_principal = record {
  choices = id_choices;
  types = dec_has id_has no_dec_has;
  counts = λ made e j h. id-ints j h;
  settled = ((λ made made' e e' k k' h h'. subst (λ k. SameSettled k k') (sym (all-identities h).choices) (subst (SameSettled id_choices) (sym (all-identities h').choices) ((tt, ((tt, (tt, (((tt, (tt, tt)), tt), tt))), tt)), tt))), tt);
  general = λ made' e' k h c. only-identities (all-identities h);
  rows = λ made' e' k h c. subst (SameRows id_choices) (sym (all-identities h).choices) ((tt, ((tt, (tt, (((tt, (tt, tt)), tt), tt))), tt)), tt);
}
