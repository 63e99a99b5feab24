-- A `val` declaration at types for its parameters.
use Rattle.std.proofs.Common.{◌≡◌, ℕ, zero, suc, ◌+◌, ◌<◌, Bool, true, false, not, ◌&&◌, ◌||◌, List, [], ◌∷◌, ◌++◌, map, length, Option, Some, None, nat_eq, nat_lt, if◌then◌else◌, refl, sym, ap, subst, ◌∙◌, arith, eqb-true, eq-eqb}
use Rattle.std.specs.Prelude.{unwrap_or, option_map}
use Rattle.std.specs.List.{list_all}
use Rattle.std.proofs.lemmas.Bool.{le-ltb}
use Rattle.std.proofs.lemmas.List.{length-map, map-append}
use Rattle.core_elab.specs.of_sml_tree.declared.ident.Tyvar.{Tyvar}
use Rattle.core_elab.specs.of_sml_tree.BareTree as bare
use Rattle.ty_core.specs.Types.{Typ, var, con, Typs, none, more, no_variable, admits}
use Rattle.ty_core.specs.Marks.{Allows}
use Rattle.ty_core.specs.Statics.{replace, replace_all}
use Rattle.ty_core.specs.declared.mark.Mark.{Mark}
use Rattle.ty_core.specs.declared.scheme.Quantified.{Quantified}
use Rattle.ty_core.specs.declared.env.Status.TheVariants.{Variable}
use Rattle.core_elab.specs.of_core_rules.Objects.{put, AllAllowed, Map, Context, Over}
use Rattle.core_elab.specs.of_core_rules.Closing.{place_in, behind, scheme_under}
use Rattle.core_elab.specs.of_core_rules.Elaborated.{scope}
use Rattle.core_elab.specs.of_core_rules.Typing.{Bound, bound_in, mark_of, scoped_in, scoping, marks_of, put_bound, together, has_none, have_none, bound_have_none, closed, IsChoiceOf}
use Rattle.core_elab.proofs.of_core_rules.Closing.{instances-are-solutions}
use Rattle.core_elab.specs.of_ir_poly.Types.{in_scope, is_declarable, is_equality, admits_in, over, all_over, are_new, changed, AreAllowed}
use Rattle.core_elab.proofs.of_ir_poly.ReplaceLemmas as lemmas
use Rattle.core_elab.proofs.of_ir_poly.ReplaceLemmas.{left-true, right-true}
use Rattle.elab_typed.specs.Contexts.{Around, context_under, generic, IsOver, env_under, values_under, kept_values, generals}
use Rattle.elab_typed.specs.Elaborates.{scoped_as, inner, without}
use Rattle.elab_typed.specs.Laws.{Fits}
use Rattle.elab_typed.proofs.Under.{bound_under, bound-append}
use Rattle.elab_typed.proofs.Instancing.{eq-turned, replace-by, shifted}

-- r's first n types
abbrev pub firsts : (ℕ → Typ) → ℕ → List Typ
firsts r zero = []
firsts r (suc n) = r 0 ∷ firsts (λ i. r (suc i)) n

-- s with r's types for the parameters
abbrev pub at_types : (ℕ → Typ) → List Quantified → (ℕ → Typ) → ℕ → Typ
at_types r qs s = changed qs (firsts r (length qs)) s

pub at-placed : (qs : List Quantified) (r s : ℕ → Typ) (v : ℕ) → at_types r qs s v ≡ unwrap_or (option_map r (place_in qs v)) (s v)
at-placed [] r s v = refl
at-placed (q ∷ qs) r s v =
    ap (λ b. if b then r 0 else at_types (λ i. r (suc i)) qs s v) (eq-turned q.variable v) ∙ go (nat_eq v q.variable) (at-placed qs (λ i. r (suc i)) s v)
  where
    go : (b : Bool) → at_types (λ i. r (suc i)) qs s v ≡ unwrap_or (option_map (λ i. r (suc i)) (place_in qs v)) (s v)
        → (if b then r 0 else at_types (λ i. r (suc i)) qs s v) ≡ unwrap_or (option_map r (if b then Some zero else option_map suc (place_in qs v))) (s v)
    go true h = refl
    go false h = h ∙ shifted r (place_in qs v) (s v)

later-allowed : (m : ℕ → Bool) (r : ℕ → Typ) (k : ℕ) (marks : List Mark) → AllAllowed m r (suc k) marks → AllAllowed m (λ i. r (suc i)) k marks
later-allowed m r k [] a = tt
later-allowed m r k (q ∷ marks) a = (a.0, later-allowed m r (suc k) marks a.1)

pub firsts-allowed : (m : ℕ → Bool) (qs : List Quantified) (r : ℕ → Typ) → AllAllowed m r 0 (map (λ q. q.mark) qs) → AreAllowed m qs (firsts r (length qs))
firsts-allowed m [] r a = tt
firsts-allowed m (q ∷ qs) r a = (a.0, firsts-allowed m qs (λ i. r (suc i)) (later-allowed m r 0 (map (λ q. q.mark) qs) a.1))

at-over : (n : ℕ) (qs : List Quantified) (r s : ℕ → Typ) → ((v : ℕ) → v < length qs → Over n (r v)) → ((v : ℕ) → Over n (s v)) → (v : ℕ)
    → Over n (at_types r qs s v)
at-over n [] r s h k v = k v
at-over n (q ∷ qs) r s h k v = go (nat_eq q.variable v) (at-over n qs (λ i. r (suc i)) s (λ i l. h (suc i) (omega arith)) k v)
  where
    go : (b : Bool) → Over n (at_types (λ i. r (suc i)) qs s v) → Over n (if b then r 0 else at_types (λ i. r (suc i)) qs s v)
    go true o = h 0 (omega arith)
    go false o = o

-- Parameters in scope admit equality, or not

admits-in-scope : (D : List Quantified) (v : ℕ) → admits_in D v ≡ true → in_scope D v ≡ true
admits-in-scope [] v h = absurd (cc)
admits-in-scope (q ∷ D) v h = go (nat_eq q.variable v) (admits-in-scope D v) h
  where
    go : (b : Bool) → (admits_in D v ≡ true → in_scope D v ≡ true) → (if b then is_equality q.mark else admits_in D v) ≡ true → (b || in_scope D v) ≡ true
    go true k e = refl
    go false k e = k e

module _ (A : Around) (s : ℕ → Typ) (f : Fits A s) (qs : List Quantified) (new : are_new qs A.parameters ≡ true) (r : ℕ → Typ) where
  -- outside nothing changes
  pub outside : (v : ℕ) → in_scope A.parameters v ≡ true → s v ≡ at_types r qs s v
  outside v h = lemmas.changed-outside A.parameters s qs (firsts r (length qs)) new v h

  module _ (allowed : AllAllowed no_variable r 0 (map (λ q. q.mark) qs)) (few : (v : ℕ) → v < length qs → Over A.names (r v)) where
    pub inner-fits : (as_ : List Tyvar) (bs rs : bare.Binds) → Fits (inner A as_ bs rs qs) (at_types r qs s)
    inner-fits as_ bs rs = record {
      admits = lemmas.changed-fits A.parameters s f.admits qs (firsts r (length qs)) (firsts-allowed no_variable qs r allowed);
      over = at-over A.names qs r s few f.over;
    }

    pub without-fits : (as_ : List Tyvar) (bs rs : bare.Binds) → Fits (without (inner A as_ bs rs qs) A.parameters) (at_types r qs s)
    without-fits as_ bs rs = record {
      admits = λ v h. subst (λ t. admits no_variable t ≡ true) (outside v (admits-in-scope A.parameters v h)) (f.admits v h);
      over = at-over A.names qs r s few f.over;
    }

-- Scoped type variables

later-scope : (k : ℕ) (r : ℕ → Typ) (as_ : List Tyvar) → scope (suc k) r as_ ≡ scope k (λ i. r (suc i)) as_
later-scope k r [] = refl
later-scope k r (a ∷ as_) = ap (λ m. (a.name, r (suc k)) ∷ m) (later-scope (suc k) r as_)

no-truth : (b : Bool) → not b ≡ true → b ≡ true → ⊥
no-truth true h e = cc
no-truth false h e = cc

abbrev are_distinct : List Quantified → Bool
are_distinct [] = true
are_distinct (q ∷ qs) = not (in_scope qs q.variable) && are_distinct qs

distinct-new : (qs D : List Quantified) → are_new qs D ≡ true → are_distinct qs ≡ true
distinct-new [] D n = refl
distinct-new (q ∷ qs) D n =
    let m = right-true (is_declarable q.mark) _ n in
    let k = right-true (not (in_scope D q.variable)) _ m in
    lemmas.both-true (left-true (not (in_scope qs q.variable)) _ k) (distinct-new qs D (right-true (not (in_scope qs q.variable)) _ k))

tail-is : {a b : Mark} {as_ bs : List Mark} → (a ∷ as_) ≡ (b ∷ bs) → as_ ≡ bs
tail-is {as_ = as_} e = ap (λ l. elim l [ [] ↦ as_ | x ∷ xs ↦ xs ]) e

not-nothing : {A : Type 0} {a : Mark} {as_ : List Mark} → [] ≡ (a ∷ as_) → A
not-nothing e = absurd (cc)

scope-as : (r s g : ℕ → Typ) (as_ : List Tyvar) (extra : List Mark) (qs : List Quantified) → are_distinct qs ≡ true → map (λ q. q.mark) qs ≡ map mark_of as_ ++ extra
    → ((v : ℕ) → in_scope qs v ≡ true → g v ≡ at_types r qs s v) → scope 0 r as_ ≡ map (λ a. (a.0, replace g a.1)) (scoped_as as_ qs)
scope-as r s g [] extra [] d e h = refl
scope-as r s g [] extra (q ∷ qs) d e h = refl
scope-as r s g (a ∷ as_) extra [] d e h = not-nothing e
scope-as r s g (a ∷ as_) extra (q ∷ qs) d e h =
    (λ i. (a.name, sym (h q.variable (or-left (nat_eq q.variable q.variable) (in_scope qs q.variable) (eq-eqb q.variable q.variable refl)) ∙ here) i) ∷ later-scope 0 r as_ i)
    ∙ ap (λ m. (a.name, g q.variable) ∷ m)
    (scope-as (λ i. r (suc i)) s g as_ extra qs (right-true (not (in_scope qs q.variable)) _ d) (tail-is e) (λ v k. h v (or-right (nat_eq q.variable v) (in_scope qs v) k) ∙ past v k))
  where
    or-left : (x y : Bool) → x ≡ true → (x || y) ≡ true
    or-left true y p = refl
    or-left false y p = absurd (cc)

    or-right : (x y : Bool) → y ≡ true → (x || y) ≡ true
    or-right true y p = refl
    or-right false y p = p

    here : (if nat_eq q.variable q.variable then r 0 else at_types (λ i. r (suc i)) qs s q.variable) ≡ r 0
    here = ap (λ b. if b then r 0 else at_types (λ i. r (suc i)) qs s q.variable) (eq-eqb q.variable q.variable refl)

    past : (v : ℕ) → in_scope qs v ≡ true → (if nat_eq q.variable v then r 0 else at_types (λ i. r (suc i)) qs s v) ≡ at_types (λ i. r (suc i)) qs s v
    past v k = go (nat_eq q.variable v) refl
      where
        go : (b : Bool) → nat_eq q.variable v ≡ b → (if b then r 0 else at_types (λ i. r (suc i)) qs s v) ≡ at_types (λ i. r (suc i)) qs s v
        go true p = absurd (no-truth (in_scope qs q.variable) (left-true (not (in_scope qs q.variable)) _ d)
            (subst (λ x. in_scope qs x ≡ true) (sym (eqb-true q.variable v p)) k))
        go false p = refl

tyvar-names : (s : ℕ → Typ) (m : Map ℕ Typ) → map (λ (a : ℕ × Typ). a.0) (map (λ (a : ℕ × Typ). (a.0, replace s a.1)) m) ≡ map (λ (a : ℕ × Typ). a.0) m
tyvar-names s [] = refl
tyvar-names s (a ∷ m) = ap (λ ns. a.0 ∷ ns) (tyvar-names s m)

pub scoped-same : (s : ℕ → Typ) (A : Around) (as_ : List Tyvar) (bs rs : bare.Binds) → scoped_in (context_under s A) as_ bs rs ≡ scoped_in (generic A) as_ bs rs
scoped-same s A as_ bs rs =
    ap (λ ns. Rattle.core_elab.specs.of_core_rules.Scoping.scoped_at ns as_ bs rs) (tyvar-names s A.tyvars ∙ sym (tyvar-names var A.tyvars))

pub marks-same : (s : ℕ → Typ) (A : Around) (as_ : List Tyvar) (bs rs : bare.Binds) (extra : List Mark)
    → marks_of (context_under s A) as_ bs rs extra ≡ marks_of (generic A) as_ bs rs extra
marks-same s A as_ bs rs extra = ap (λ as'. map mark_of as' ++ extra) (scoped-same s A as_ bs rs)

-- the context inside the declaration
pub scoping-under : (A : Around) (s : ℕ → Typ) → Fits A s → (as_ : List Tyvar) (bs rs : bare.Binds) (extra : List Mark) (qs : List Quantified)
    → are_new qs A.parameters ≡ true → IsOver A → map (λ q. q.mark) qs ≡ marks_of (generic A) as_ bs rs extra → (r : ℕ → Typ)
    → scoping (context_under s A) as_ bs rs r ≡ context_under (at_types r qs s) (inner A as_ bs rs qs)
scoping-under A s f as_ bs rs extra qs new over e r =
    let g : ℕ → Typ = at_types r qs s in
    let o : context_under s A ≡ context_under g A = over s g (outside A s f qs new r) in
    let vars : scope 0 r (scoped_in (context_under g A) as_ bs rs) ≡ map (λ a. (a.0, replace g a.1)) (scoped_as (scoped_in (generic A) as_ bs rs) qs) =
    ap (scope 0 r) (scoped-same g A as_ bs rs)
    ∙ scope-as r s g (scoped_in (generic A) as_ bs rs) extra qs (distinct-new qs A.parameters new) e (λ v h. refl) in
    (λ i. scoping (o i) as_ bs rs r)
    ∙ (λ i. record {
      names = A.names;
      tyvars = (ap (λ m. m ++ map (λ a. (a.0, replace g a.1)) A.tyvars) vars
          ∙ sym (map-append (λ a. (a.0, replace g a.1)) (scoped_as (scoped_in (generic A) as_ bs rs) qs) A.tyvars)) i;
      env = env_under g A.env;
    })

-- What is bound, over the parameters

abbrev pub closing : (ℕ → Typ) → List Quantified → Bound → Bound
closing s qs vs = map (λ b. (b.0, (scheme_under s qs b.1).body)) vs

pub put-closing : (s r : ℕ → Typ) (qs : List Quantified) (vs : Bound) → put_bound (length qs) r (closing s qs vs) ≡ bound_under (at_types r qs s) vs
put-closing s r qs [] = refl
put-closing s r qs (v ∷ vs) = λ i. (v.0, (instances-are-solutions s r qs v.1 ∙ sym (replace-by _ _ (at-placed qs r s) v.1)) i) ∷ put-closing s r qs vs i

pub closing-in : (s : ℕ → Typ) (qs : List Quantified) (vs : Bound) → bound_in (closing s qs vs) ≡ bound_in vs
closing-in s qs [] = refl
closing-in s qs (v ∷ vs) = ap (λ xs. v.0 ∷ xs) (closing-in s qs vs)

pub closing-append : (s : ℕ → Typ) (qs : List Quantified) (vs us : Bound) → closing s qs vs ++ closing s qs us ≡ closing s qs (vs ++ us)
closing-append s qs [] us = refl
closing-append s qs (v ∷ vs) us = ap (λ r. (v.0, (scheme_under s qs v.1).body) ∷ r) (closing-append s qs vs us)

pub closing-together : (s : ℕ → Typ) (qs : List Quantified) (vs : List Bound) → together (map (closing s qs) vs) ≡ closing s qs (together vs)
closing-together s qs [] = refl
closing-together s qs (v ∷ vs) = ap (λ r. closing s qs v ++ r) (closing-together s qs vs) ∙ closing-append s qs v (together vs)

pub closed-under : (s : ℕ → Typ) (qs : List Quantified) (marks : List Mark) (vs : Bound) → map (λ q. q.mark) qs ≡ marks
    → closed marks (closing s qs vs) ≡ env_under s (kept_values (generals qs vs))
closed-under s qs marks vs e = subst (λ m. closed m (closing s qs vs) ≡ env_under s (kept_values (generals qs vs))) e
    (ap Rattle.core_elab.specs.of_core_rules.Objects.values_env (go vs))
  where
    go : (vs : Bound) → map (λ b. (b.0, record { scheme = record { marks = map (λ q. q.mark) qs; body = b.1 }; status = Variable })) (closing s qs vs)
        ≡ values_under s (generals qs vs)
    go [] = refl
    go (v ∷ vs) = ap (λ r. (v.0, record { scheme = scheme_under s qs v.1; status = Variable }) ∷ r) (go vs)

-- Without the parameters

behind-bool : (n w : ℕ) → not (nat_lt (n + w) n) ≡ true
behind-bool n w = ap not (le-ltb (n + w) n (omega arith))

mutual
  behind-none : (n : ℕ) (t : Typ) → has_none n (behind n t) ≡ true
  behind-none n (var w) = behind-bool n w
  behind-none n (con h ts) = behinds-none n ts

  behinds-none : (n : ℕ) (ts : Typs) → have_none n (replace_all (λ v. var (n + v)) ts) ≡ true
  behinds-none n none = refl
  behinds-none n (more t ts) = lemmas.both-true (behind-none n t) (behinds-none n ts)

-- variables outside have no place
unplaced : (qs D : List Quantified) → are_new qs D ≡ true → (v : ℕ) → in_scope D v ≡ true → place_in qs v ≡ None
unplaced [] D n v h = refl
unplaced (q ∷ qs) D n v h =
    let m : (not (in_scope D q.variable) && (not (in_scope qs q.variable) && are_new qs D)) ≡ true = right-true (is_declarable q.mark) _ n in
    go (left-true (not (in_scope D q.variable)) _ m)
    (unplaced qs D (right-true (not (in_scope qs q.variable)) _ (right-true (not (in_scope D q.variable)) _ m)) v h) (nat_eq v q.variable) refl
  where
    go : not (in_scope D q.variable) ≡ true → place_in qs v ≡ None → (b : Bool) → nat_eq v q.variable ≡ b
        → (if b then Some zero else option_map suc (place_in qs v)) ≡ None
    go m k true e = absurd (no-truth (in_scope D q.variable) m (subst (λ x. in_scope D x ≡ true) (eqb-true v q.variable e) h))
    go m k false e = ap (option_map suc) k

module _ (qs D : List Quantified) (new : are_new qs D ≡ true) (s : ℕ → Typ) where
  mutual
    none-in : (t : Typ) → over D t ≡ true → has_none (length qs) (scheme_under s qs t).body ≡ true
    none-in (var v) h =
        ap (λ o. has_none (length qs) (unwrap_or (option_map var o) (behind (length qs) (s v)))) (unplaced qs D new v h) ∙ behind-none (length qs) (s v)
    none-in (con a ts) h = none-in-all ts h

    none-in-all : (ts : Typs) → all_over D ts ≡ true
        → have_none (length qs) (replace_all (λ v. unwrap_or (option_map var (place_in qs v)) (behind (length qs) (s v))) ts) ≡ true
    none-in-all none h = refl
    none-in-all (more t ts) h = lemmas.both-true (none-in t (left-true (over D t) _ h)) (none-in-all ts (right-true (over D t) _ h))

  pub bound-none : (vs : Bound) → list_all (λ b. over D b.1) vs ≡ true → bound_have_none (length qs) (closing s qs vs) ≡ true
  bound-none [] h = refl
  bound-none (v ∷ vs) h = lemmas.both-true (none-in v.1 (left-true (over D v.1) _ h)) (bound-none vs (right-true (over D v.1) _ h))
