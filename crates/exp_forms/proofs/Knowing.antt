-- What is known of the variables of a pattern that elaborates.
use Rattle.std.proofs.Common.{◌≡◌, ◌⊎◌, inl, inr, ◌<◌, ◌≤◌, ℕ, suc, Bool, true, false, not, ◌&&◌, ◌||◌, cond, List, [], ◌∷◌, ◌++◌, Option, Some, None, nat_eq, refl, sym, ap, ap₂, subst, ◌∙◌, arith}
use Rattle.std.specs.Option.{option_or}
use Rattle.std.specs.Map.{lookup}
use Rattle.std.proofs.lemmas.Bool.{and_parts, eqb-true, eq-eqb}
use Rattle.ty_core.specs.Types.{Typ}
use Rattle.ty_basis.specs.Types.{Row}
use Rattle.sml_tree.specs.BareTree as bare
use Rattle.sml_tree.specs.declared.ident.Vid.{Vid}
use Rattle.core_rules.specs.Words.{same_vid, is_in}
use Rattle.core_rules.specs.Choices.{Choices}
use Rattle.core_rules.specs.Restrictions.{distinct}
use Rattle.core_rules.specs.Typing.{Bound, bound_in}
use Rattle.core_rules.proofs.LookUps.{vid-tells, at-append}
use Rattle.ir_poly.specs.Prog as prog
use Rattle.ir_poly.specs.ProgChecked.{pat_onto, pats_onto}
use Rattle.ir_poly.specs.TestsChecked.{Knowns, at, of_type}
use Rattle.ir_poly.specs.Types.{Constructor}
use Rattle.core_elab.specs.Scopes.{Denotes, variable, constructor, reference, exception, primitive, Scope, empty, scoped, typed_by, inside, plus_scope, denotes_in}
use Rattle.elab_typed.specs.Contexts.{Around}
use Rattle.elab_typed.specs.Elaborates.{PatElab, PatsElab, wild_elab, constant_elab, variable_elab, alone_elab, built_elab, fields_elab, open_elab, con_elab, built_con_elab, typed_elab, as_elab, no_pats_elab, a_pat_elab}
use Rattle.elab_typed.specs.Instances.{as_typed, alone_constructor, alone_exception, alone_given_exception, before_constructor, before_reference, before_exception}
use Rattle.exp_forms.specs.Binding.{IsKnown, Binding}

-- scopes one behind the other
denotes-plus : (s r : Scope) (x : Vid) → denotes_in (plus_scope s r) x ≡ option_or (denotes_in r x) (denotes_in s x)
denotes-plus s empty x = refl
denotes-plus s (scoped y d r) x = by (same_vid x y) (denotes-plus s r x)
  where
    by : (b : Bool) → denotes_in (plus_scope s r) x ≡ option_or (denotes_in r x) (denotes_in s x)
        → cond b (Some d) (denotes_in (plus_scope s r) x) ≡ option_or (cond b (Some d) (denotes_in r x)) (denotes_in s x)
    by true h = refl
    by false h = h
denotes-plus s (typed_by y c r) x = denotes-plus s r x
denotes-plus s (inside y c r) x = denotes-plus s r x

-- identifiers once

not-in-left : (v : Vid) (vs us : List Vid) → not (is_in same_vid v (vs ++ us)) ≡ true → not (is_in same_vid v vs) ≡ true
not-in-left v [] us h = refl
not-in-left v (w ∷ vs) us h = by (same_vid v w) h (not-in-left v vs us)
  where
    by : (b : Bool) → not (b || is_in same_vid v (vs ++ us)) ≡ true → (not (is_in same_vid v (vs ++ us)) ≡ true → not (is_in same_vid v vs) ≡ true)
        → not (b || is_in same_vid v vs) ≡ true
    by true h k = cc
    by false h k = k h

distinct-left : (vs us : List Vid) → distinct same_vid (vs ++ us) ≡ true → distinct same_vid vs ≡ true
distinct-left [] us h = refl
distinct-left (v ∷ vs) us h =
    let p = and_parts (not (is_in same_vid v (vs ++ us))) (distinct same_vid (vs ++ us)) h in
    ap₂ (λ a b. a && b) (not-in-left v vs us p.0) (distinct-left vs us p.1)

distinct-right : (vs us : List Vid) → distinct same_vid (vs ++ us) ≡ true → distinct same_vid us ≡ true
distinct-right [] us h = h
distinct-right (v ∷ vs) us h = distinct-right vs us (and_parts (not (is_in same_vid v (vs ++ us))) (distinct same_vid (vs ++ us)) h).1

names-append : (vs us : Bound) → bound_in (vs ++ us) ≡ bound_in vs ++ bound_in us
names-append [] us = refl
names-append (v ∷ vs) us = ap (λ l. v.0 ∷ l) (names-append vs us)

in-behind : (x : Vid) (vs us : List Vid) → is_in same_vid x us ≡ true → is_in same_vid x (vs ++ us) ≡ true
in-behind x [] us h = h
in-behind x (v ∷ vs) us h = by (same_vid x v) (in-behind x vs us h)
  where
    by : (b : Bool) → is_in same_vid x (vs ++ us) ≡ true → (b || is_in same_vid x (vs ++ us)) ≡ true
    by true h = refl
    by false h = h

found-in : (x : Vid) (vs : Bound) (t : Typ) → lookup (same_vid x) vs ≡ Some t → is_in same_vid x (bound_in vs) ≡ true
found-in x [] t h = cc
found-in x (v ∷ vs) t h = by (same_vid x v.0) h (found-in x vs t)
  where
    by : (b : Bool) → cond b (Some v.1) (lookup (same_vid x) vs) ≡ Some t → (lookup (same_vid x) vs ≡ Some t → is_in same_vid x (bound_in vs) ≡ true) → (b || is_in same_vid x (bound_in vs)) ≡ true
    by true h k = refl
    by false h k = k h

apart : (vs us : Bound) (x : Vid) (t u : Typ) → distinct same_vid (bound_in vs ++ bound_in us) ≡ true → lookup (same_vid x) vs ≡ Some t → lookup (same_vid x) us ≡ Some u → ⊥
apart [] us x t u d h k = cc
apart (v ∷ vs) us x t u d h k =
    let p = and_parts (not (is_in same_vid v.0 (bound_in vs ++ bound_in us))) (distinct same_vid (bound_in vs ++ bound_in us)) d in
    by (vid-tells x v.0) h p.0 (λ h. apart vs us x t u p.1 h k) (in-behind x (bound_in vs) (bound_in us) (found-in x us u k))
  where
    by : ((same_vid x v.0 ≡ true) × (x ≡ v.0)) ⊎ (same_vid x v.0 ≡ false) → cond (same_vid x v.0) (Some v.1) (lookup (same_vid x) vs) ≡ Some t
        → not (is_in same_vid v.0 (bound_in vs ++ bound_in us)) ≡ true → (lookup (same_vid x) vs ≡ Some t → ⊥) → is_in same_vid x (bound_in vs ++ bound_in us) ≡ true → ⊥
    by (inl q) h n k i =
        let same : is_in same_vid v.0 (bound_in vs ++ bound_in us) ≡ true = ap (λ y. is_in same_vid y (bound_in vs ++ bound_in us)) (sym q.1) ∙ i in
        let no : false ≡ true = sym (ap not same) ∙ n in
        absurd (cc)
    by (inr q) h n k i = k (sym (ap (λ b. cond b (Some v.1) (lookup (same_vid x) vs)) q) ∙ h)

-- nothing bound, one variable, and one behind the other

pub none-bound : (A : Around) (k : ℕ) (G : Knowns) → Binding A k k G G [] empty
none-bound A k G = record { most = omega arith; older = λ n lt. refl; known = λ d x. tt }

differ : (m n : ℕ) → m < n → nat_eq m n ≡ false
differ m n lt = by (nat_eq m n) refl
  where
    by : (b : Bool) → nat_eq m n ≡ b → b ≡ false
    by true e = let q = eqb-true m n e in absurd (omega (arith, q, lt))
    by false e = refl

itself : (n : ℕ) → nat_eq n n ≡ true
itself n = eq-eqb n n refl

one-bound : (A : Around) (k n : ℕ) (G : Knowns) (x : Vid) (t : Typ) → k ≤ n
    → Binding A k (suc n) G ((n, of_type (as_typed A t)) ∷ G) ((x, t) ∷ []) (scoped x (variable n) empty)
one-bound A k n G x t le = record {
  most = omega (arith, le);
  older = λ m lt. ap (λ b. cond b (Some (of_type (as_typed A t))) (at G m)) (differ m n (omega (arith, lt, le)));
  known = λ d y. by y (same_vid y x);
}
  where
    by : (y : Vid) (b : Bool) → IsKnown A k (suc n) ((n, of_type (as_typed A t)) ∷ G) (cond b (Some (variable n)) None) (cond b (Some t) None)
    by y true = (le, (omega arith, ap (λ b. cond b (Some (of_type (as_typed A t))) (at G n)) (itself n)))
    by y false = tt

widened : (A : Around) (k j i h : ℕ) (G new : Knowns) (d : Option Denotes) (o : Option Typ) → h ≤ k → j ≤ i → ((n : ℕ) → n < j → at new n ≡ at G n) → IsKnown A k j G d o
    → IsKnown A h i new d o
widened A k j i h G new None None lo hi s m = tt
widened A k j i h G new None (Some t) lo hi s m = absurd m
widened A k j i h G new (Some (variable n)) None lo hi s m = absurd m
widened A k j i h G new (Some (variable n)) (Some t) lo hi s m = let a = m.0 in let b = m.1.0 in (omega (arith, lo, a), (omega (arith, hi, b), s n b ∙ m.1.1))
widened A k j i h G new (Some (constructor c)) None lo hi s m = absurd m
widened A k j i h G new (Some (constructor c)) (Some t) lo hi s m = absurd m
widened A k j i h G new (Some reference) None lo hi s m = absurd m
widened A k j i h G new (Some reference) (Some t) lo hi s m = absurd m
widened A k j i h G new (Some (exception e)) None lo hi s m = absurd m
widened A k j i h G new (Some (exception e)) (Some t) lo hi s m = absurd m
widened A k j i h G new (Some (primitive p)) None lo hi s m = absurd m
widened A k j i h G new (Some (primitive p)) (Some t) lo hi s m = absurd m

-- what isn't known by one is by the other
either : (A : Around) (k i : ℕ) (G : Knowns) (d e : Option Denotes) (o p : Option Typ) → ((t u : Typ) → o ≡ Some t → p ≡ Some u → ⊥) → IsKnown A k i G d o → IsKnown A k i G e p
    → IsKnown A k i G (option_or e d) (option_or o p)
either A k i G None e None p never a b = over-none e b
  where
    over-none : (e : Option Denotes) → IsKnown A k i G e p → IsKnown A k i G (option_or e None) p
    over-none None b = b
    over-none (Some e) b = b
either A k i G None e (Some t) p never a b = absurd a
either A k i G (Some d) e None p never a b = absurd (nothing d a)
  where
    nothing : (d : Denotes) → IsKnown A k i G (Some d) None → ⊥
    nothing (variable n) a = a
    nothing (constructor c) a = a
    nothing reference a = a
    nothing (exception x) a = a
    nothing (primitive q) a = a
either A k i G (Some d) None (Some t) None never a b = a
either A k i G (Some d) None (Some t) (Some u) never a b = absurd b
either A k i G (Some d) (Some e) (Some t) None never a b = absurd (nothing e b)
  where
    nothing : (d : Denotes) → IsKnown A k i G (Some d) None → ⊥
    nothing (variable n) a = a
    nothing (constructor c) a = a
    nothing reference a = a
    nothing (exception x) a = a
    nothing (primitive q) a = a
either A k i G (Some d) (Some e) (Some t) (Some u) never a b = absurd (never t u refl refl)

pub both-bound : (A : Around) (k j i : ℕ) (G H I : Knowns) (vs us : Bound) (q o : Scope) → Binding A k j G H vs q → Binding A j i H I us o → Binding A k i G I (vs ++ us) (plus_scope q o)
both-bound A k j i G H I vs us q o a b = record {
  most = let l = a.most in let m = b.most in omega (arith, l, m);
  older = λ n lt. let l = a.most in b.older n (omega (arith, l, lt)) ∙ a.older n lt;
  known = λ d x.
      let e : distinct same_vid (bound_in vs ++ bound_in us) ≡ true = subst (λ l. distinct same_vid l ≡ true) (names-append vs us) d in
      subst (λ z. IsKnown A k i I z (lookup (same_vid x) (vs ++ us))) (sym (denotes-plus q o x))
      (subst (IsKnown A k i I (option_or (denotes_in o x) (denotes_in q x))) (sym (at-append same_vid vid-tells vs us x))
      (either A k i I (denotes_in q x) (denotes_in o x) (lookup (same_vid x) vs) (lookup (same_vid x) us) (λ t u. apart vs us x t u e)
      (widened A k j i k H I (denotes_in q x) (lookup (same_vid x) vs) (omega arith) b.most b.older (a.known (distinct-left (bound_in vs) (bound_in us) e) x))
      (widened A j i i k I I (denotes_in o x) (lookup (same_vid x) us) a.most (omega arith) (λ n lt. refl) (b.known (distinct-right (bound_in vs) (bound_in us) e) x))));
}

-- whatever the pattern is
module _ (table : List Constructor) (A : Around) where
  mutual
    pub pattern-binds : {k j : ℕ} {a : bare.Pat} {p : prog.Pat} {t : Typ} {vs : Bound} {c : Choices} {r : Scope} → PatElab table A k a p t vs c r j → (G : Knowns)
        → Binding A k j G (pat_onto of_type p (as_typed A t) G) vs r
    pattern-binds {k = k} (wild_elab p o) G = none-bound A k G
    pattern-binds {k = k} (constant_elab p c) G = none-bound A k G
    pattern-binds {k = k} (variable_elab p x n {t = t} le b) G = one-bound A k n G x t le
    pattern-binds {k = k} (alone_elab p e d (alone_constructor c ts n us m g h)) G = none-bound A k G
    pattern-binds {k = k} (alone_elab p e d (alone_exception x f o)) G = none-bound A k G
    pattern-binds {k = k} (alone_elab p e d (alone_given_exception x ts m g f)) G = none-bound A k G
    pattern-binds {k = k} (built_elab p b ts g h) G = none-bound A k G
    pattern-binds (fields_elab p fs n) G = fields-bind fs G
    pattern-binds (open_elab p others fs d o) G = fields-bind fs G
    pattern-binds (con_elab p q e d (before_constructor c ts n us m g h o) b) G = pattern-binds b G
    pattern-binds (con_elab p q e d (before_reference ts m g o) b) G = pattern-binds b G
    pattern-binds (con_elab p q e d (before_exception x f o v) b) G = pattern-binds b G
    pattern-binds (built_con_elab p b ts g h o a) G = pattern-binds a G
    pattern-binds (typed_elab p a s) G = pattern-binds a G
    pattern-binds {k = k} {j = j} (as_elab p x n {a' = a'} {t = t} {vs = vs} {r = r} le b s a) G =
        both-bound A k (suc n) j G ((n, of_type (as_typed A t)) ∷ G) (pat_onto of_type a' (as_typed A t) ((n, of_type (as_typed A t)) ∷ G)) ((x, t) ∷ []) vs (scoped x (variable n) empty) r
        (one-bound A k n G x t le) (pattern-binds a ((n, of_type (as_typed A t)) ∷ G))

    pub fields-bind : {whole : Row} {k j : ℕ} {fs : bare.PatFields} {gs : prog.PatFields} {w : Row} {vs : Bound} {c : Choices} {r : Scope} → PatsElab table A whole k fs gs w vs c r j
        → (G : Knowns) → Binding A k j G (pats_onto of_type gs G) vs r
    fields-bind {k = k} no_pats_elab G = none-bound A k G
    fields-bind {k = k} {j = i} (a_pat_elab l {a' = a'} {gs = gs} {t = t} {vs = vs} {us = us} {q = q} {o = o} {j = j} f v a fs) G =
        both-bound A k j i G (pat_onto of_type a' (as_typed A t) G) (pats_onto of_type gs (pat_onto of_type a' (as_typed A t) G)) vs us q o
        (pattern-binds a G) (fields-bind fs (pat_onto of_type a' (as_typed A t) G))
