-- Loops along rules.
use Rattle.std.proofs.Common.{◌≡◌, ◌<◌, ◌≤◌, ◌+◌, ℕ, List, [], ◌∷◌, ◌++◌, map, take, length, get_or, drop, Vec, Box, Global, refl, sym, ap, ap₂, subst, ◌∙◌, arith}
use Rattle.mlc_base.specs.declared.place.Place.{Place}
use Rattle.ty_basis.specs.Types.{exn_type}
use Rattle.sml_tree.specs.BareTree as bare
use Rattle.sml_tree.specs.Derived.{app_of, one_or_tuple_pat}
use Rattle.sml_tree.specs.TreeOf.{RuleOf, exp_of, pat_of, rule_of, rules_of}
use Rattle.sml_tree.specs.declared.tree.Clause.{Clause}
use Rattle.sml_tree.specs.declared.tree.Exp.{Exp}
use Rattle.sml_tree.specs.declared.tree.Exp.TheVariants as node
use Rattle.sml_tree.specs.declared.tree.Pat.{Pat}
use Rattle.sml_tree.specs.declared.tree.Rule.{Rule}
use Rattle.elab_types.proofs.Lists.{all-map, next-map-at}
use Rattle.elab_state.specs.declared.state.State.{State}
use Rattle.elab_steps.specs.Growing.{Always, Grows}
use Rattle.elab_steps.specs.World.{type_of}
use Rattle.elab_steps.proofs.Growing.{grows_on, grows_same}
use Rattle.elab_context.specs.Telling.{IsContext}
use Rattle.elab_context.specs.declared.context.Context.{Context}
use Rattle.elab_context.proofs.Reading.{context_later}
use Rattle.use_elab.specs.Elaborated.{IsExp}
use Rattle.use_elab.specs.declared.typed.TypedExp.{TypedExp}
use Rattle.core_elab.specs.Resolves.{IsCalled, called_app}
use Rattle.scope_decs.specs.of_exp_forms.Calls.{IsCall}
use Rattle.scope_decs.specs.of_exp_forms.declared.made.Called.{Called}
use Rattle.scope_decs.specs.of_exp_forms.Begun.{IsBegun}
use Rattle.scope_decs.specs.of_exp_forms.Rules.{AreRules}
use Rattle.scope_decs.specs.of_exp_forms.declared.begun.RuleBegun.{RuleBegun}
use Rattle.scope_decs.specs.of_exp_forms.declared.rules_made.RulesMade.{RulesMade}
use Rattle.scope_decs.proofs.of_exp_forms.Nodes.{rule-is, source-Apply, source-Fn, source-Handle}
use Rattle.elab_exps.specs.Decs.{StandsIn}
use Rattle.elab_exps.specs.Groups.{clause_rule}
use Rattle.elab_exps.proofs.Loops.{exp_in, same-at}
use Rattle.elab_exps.proofs.Sources.{clause-is-rule}

pub record RulesSoFar (S : State) (C : Context) (m : RulesMade) (rs : List RuleOf) (T : State) (D : Context) (n : RulesMade) : Type 0 where
  pub same : D ≡ C
  pub grows : Grows S T
  pub domain : n.domain ≡ m.domain
  pub range : n.range ≡ m.range
  pub rules : (R : State) → AreRules R C [] S m → AreRules R C rs T n

pub rules_begin : (S : State) (C : Context) (m : RulesMade) → RulesSoFar S C m [] S C m
rules_begin S C m = record { same = refl; grows = grows_same S; domain = refl; range = refl; rules = λ R h. h }

pub begun_grows : (S T : State) (C D : Context) (a : bare.Pat) (k : ℕ) (r : RuleBegun) → IsBegun S C a k T D r → Grows S T
begun_grows S T C D a k r h = grows_on S h.middle T h.pat.grows h.entered.grows

pub stands_begun : (S T : State) (C D : Context) (a : bare.Pat) (k : ℕ) (r : RuleBegun) → StandsIn S C → IsBegun S C a k T D r → StandsIn T D
stands_begun S T C D a k r h b =
    record { context = b.context; level = (begun_grows S T C D a k r b).level ∙ h.level ∙ ap (λ (z : Context). z.level) (sym b.within) }

pub rule-at : (rs : List Rule) (i : ℕ) (d e f : Rule) (place : Place) → i < length rs → place ≡ (get_or rs i d).place
    → rule_of (get_or rs i d) ≡ record { place = place; pat = pat_of (get_or rs i e).pat; exp = exp_of (get_or rs i f).exp }
rule-at rs i d e f place lt at =
    rule-is (get_or rs i d)
    ∙ ap₂ (λ p (r : Rule). record { place = p; pat = pat_of r.pat; exp = exp_of (get_or rs i d).exp }) (sym at) (same-at rs i d e lt)
    ∙ ap (λ (r : Rule). record { place = place; pat = pat_of (get_or rs i e).pat; exp = exp_of r.exp }) (same-at rs i d f lt)

pub each_more : {A : Type 0} (f : A → RuleOf) (S M P N T : State) (C D E F G : Context) (xs : List A) (i : ℕ) (d : A) (place : Place) (pat : bare.Pat) (body : bare.Exp) (begun : RuleBegun)
    (exp : TypedExp) (first old new : RulesMade) → IsContext S C → i < length xs → f (get_or xs i d) ≡ record { place = place; pat = pat; exp = body }
    → RulesSoFar S C first (map f (take i xs)) M D old → IsBegun M D pat old.domain P E begun → F ≡ E → IsExp P E body N exp → Grows N T → new.domain ≡ old.domain → new.range ≡ old.range
    → ((S T : State) (C : Context) (a : bare.Pat) (k : ℕ) → IsBegun S C a k T F begun → G ≡ C)
    → ((S M Q : State) (C : Context) (rs : List RuleOf) (p : Place) (a : bare.Pat) (e : bare.Exp) → AreRules S C rs M old → IsContext M C → IsBegun M C a old.domain Q F begun
    → IsExp Q F e N exp → AreRules S C (rs ++ record { place = p; pat = a; exp = e } ∷ []) T new)
    → RulesSoFar S C first (map f (take (i + 1) xs)) T G new
each_more f S M P N T C D E F G xs i d place pat body begun exp first old new ctx lt at h b q x g ed er left add =
    let inside = subst (λ H. IsBegun M D pat old.domain P H begun) (sym q) b in
    let within = subst (λ H. IsBegun M H pat old.domain P F begun) h.same inside in
    record {
      same = left M P C pat old.domain within;
      grows = grows_on S M T h.grows (grows_on M P T (begun_grows M P D E pat old.domain begun b) (grows_on P N T x.grows g));
      domain = ed ∙ h.domain;
      range = er ∙ h.range;
      rules = λ R k.
          let whole = add R M P C (map f (take i xs)) place pat body (h.rules R k) (context_later S M C h.grows ctx) within (subst (λ H. IsExp P H body N exp) (sym q) x) in
          subst (λ l. AreRules R C l T new) (sym (next-map-at f xs i d lt ∙ ap (λ r. map f (take i xs) ++ r ∷ []) at)) whole;
    }

pub rules_end : {A : Type 0} (f : A → RuleOf) (S T : State) (C D : Context) (xs : List A) (i : ℕ) (first m : RulesMade) → length xs ≤ i → RulesSoFar S C first (map f (take i xs)) T D m
    → (R : State) → AreRules R C [] S first → AreRules R C (map f xs) T m
rules_end f S T C D xs i first m le h R k = subst (λ l. AreRules R C l T m) (all-map f xs i le) (h.rules R k)

-- clauses

pub clause-at : (cs : List Clause) (i : ℕ) (d e f : Clause) (place : Place) (as_ : List Pat) → i < length cs → place ≡ (get_or cs i d).place → as_ ≡ (get_or cs i e).pats.items
    → clause_rule (get_or cs i d) ≡ record { place = place; pat = one_or_tuple_pat place (map pat_of as_); exp = exp_of (get_or cs i f).exp }
clause-at cs i d e f place as_ lt at ea =
    clause-is-rule (get_or cs i d)
    ∙ ap₂ (λ (p : Place) (as_ : List Pat). record { place = p; pat = one_or_tuple_pat p (map pat_of as_); exp = exp_of (get_or cs i d).exp }) (sym at)
    (ap (λ (c : Clause). c.pats.items) (same-at cs i d e lt) ∙ sym ea)
    ∙ ap (λ (c : Clause). record { place = place; pat = one_or_tuple_pat place (map pat_of as_); exp = exp_of c.exp }) (same-at cs i d f lt)

-- the whole

pub function_is : (S T U : State) (C D : Context) (place : Place) (rs : List RuleOf) (m : RulesMade) (r : TypedExp) → D ≡ C → AreRules S C rs T m
    → ((S : State) (p : Place) (rs : List RuleOf) → AreRules S D rs T m → IsExp S D (bare.fn p (rules_of rs)) U r) → IsExp S C (bare.fn place (rules_of rs)) U r
function_is S T U C D place rs m r q h made =
    exp_in S U C D (bare.fn place (rules_of rs)) r q (made S place rs (subst (λ E. AreRules S E rs T m) (sym q) h))

pub case_is : (S M N T : State) (C D : Context) (p q : Place) (e : bare.Exp) (rs : List RuleOf) (taken : TypedExp) (m : RulesMade) (r : TypedExp) → D ≡ C → IsExp S C e M taken
    → AreRules M C rs N m → m.domain ≡ taken.ty
    → ((S M : State) (p q : Place) (e : bare.Exp) (rs : List RuleOf) → IsExp S D e M taken → AreRules M D rs N m → m.domain ≡ taken.ty → IsExp S D (bare.app p (bare.fn q (rules_of rs)) e) T r)
    → IsExp S C (bare.app p (bare.fn q (rules_of rs)) e) T r
case_is S M N T C D p q e rs taken m r s h k d made =
    exp_in S T C D (bare.app p (bare.fn q (rules_of rs)) e) r s (made S M p q e rs (exp_in S M D C e taken (sym s) h) (subst (λ E. AreRules M E rs N m) (sym s) k) d)

pub handle_is : (S M N T : State) (C D E : Context) (w : Exp) (place : Place) (a : Box Exp Global) (vs : Vec Rule Global) (x : Exp) (rs : List Rule) (body : TypedExp) (m : RulesMade) (r : TypedExp)
    → w ≡ node.Handle place a vs → x ≡ a.value → rs ≡ vs.items → D ≡ C → E ≡ D → IsExp S C (exp_of x) M body → AreRules M D (map rule_of rs) N m → Always N (λ W. type_of W m.domain ≡ exn_type)
    → m.range ≡ body.ty
    → ((S M : State) (p : Place) (e : bare.Exp) (rs : List RuleOf) → IsExp S E e M body → AreRules M E rs N m → Always N (λ W. type_of W m.domain ≡ exn_type) → m.range ≡ body.ty
    → IsExp S E (bare.handle p e (rules_of rs)) T r) → IsExp S C (exp_of w) T r
handle_is S M N T C D E w place a vs x rs body m r is ex ers q s h k d g made =
    let whole = bare.handle place (exp_of x) (rules_of (map rule_of rs)) in
    let node-is : exp_of w ≡ whole =
    ap exp_of is ∙ source-Handle place a vs ∙ ap₂ (λ (y : Exp) (l : List Rule). bare.handle place (exp_of y) (rules_of (map rule_of l))) (sym ex) (sym ers) in
    subst (λ z. IsExp S C z T r) (sym node-is)
    (exp_in S T C E whole r (s ∙ q)
    (made S M place (exp_of x) (map rule_of rs) (exp_in S M E C (exp_of x) body (sym (s ∙ q)) h) (subst (λ F. AreRules M F (map rule_of rs) N m) (sym s) k) d g))

-- `fn` applied

first-of : (xs : List Exp) (x : Exp) → 0 < length xs → x ≡ get_or xs 0 x → xs ≡ x ∷ drop 1 xs
first-of [] x n is = absurd (omega (arith, n))
first-of (y ∷ ys) x n is = ap (λ z. z ∷ ys) (sym is)

pub applied_is : (S M N T : State) (C D F : Context) (e : Exp) (place : Place) (a : Box Exp Global) (es : Vec Exp Global) (f : Exp) (q : Place) (vs : Vec Rule Global) (rs : List Rule)
    (xs ys : List Exp) (x : Exp) (taken one : TypedExp) (begun made : Called) (r : TypedExp) → e ≡ node.Apply place a es → f ≡ a.value → xs ≡ es.items → f ≡ node.Fn q vs → rs ≡ vs.items
    → 0 < length xs → x ≡ get_or xs 0 x → ys ≡ drop 1 xs → D ≡ C → F ≡ D → IsExp S C (exp_of x) M taken
    → ((S : State) (p q : Place) (e : bare.Exp) → IsExp S D e M taken → IsExp S D (bare.app p (bare.fn q (rules_of (map rule_of rs))) e) N one)
    → ((S T : State) (C : Context) (place : Place) (e : bare.Exp) → IsExp S C e T one → IsCall S C place e T begun)
    → ((R : State) (f : bare.Exp) → IsCalled f → IsCall R F place f N begun → IsCall R F place (app_of place f (map exp_of ys)) T made)
    → ((S T : State) (C : Context) (e : bare.Exp) → IsCall S C place e T made → IsExp S C e T r) → IsExp S C (exp_of e) T r
applied_is S M N T C D F e place a es f q vs rs xs ys x taken one begun made r is ef exs isf ers n isx rest s t h cased start calls finish =
    let function = bare.fn q (rules_of (map rule_of rs)) in
    let function-is : exp_of f ≡ function = ap exp_of isf ∙ source-Fn q vs ∙ ap (λ (l : List Rule). bare.fn q (rules_of (map rule_of l))) (sym ers) in
    let first = bare.app place function (exp_of x) in
    let whole = app_of place first (map exp_of ys) in
    let node-is : exp_of e ≡ whole =
    ap exp_of is ∙ source-Apply place a es ∙ ap₂ (λ (y : Exp) (zs : List Exp). app_of place (exp_of y) (map exp_of zs)) (sym ef) (sym exs)
    ∙ ap₂ (λ (g : bare.Exp) (zs : List Exp). app_of place g (map exp_of zs)) function-is (first-of xs x n isx ∙ ap (λ zs. x ∷ zs) (sym rest)) in
    let k = cased S place q (exp_of x) (exp_in S M D C (exp_of x) taken (sym s) h) in
    let b = start S N F place first (exp_in S N F D first one (sym t) k) in
    subst (λ z. IsExp S C z T r) (sym node-is) (exp_in S T C F whole r (t ∙ s) (finish S T F whole (calls S first (called_app place function (exp_of x)) b)))
