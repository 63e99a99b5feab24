-- The type variables that are scoped at a declaration stand for its first parameters.
use Rattle.std.proofs.Common.{◌≡◌, ◌⊎◌, inl, inr, ◌&&◌, ◌||◌, not, ℕ, suc, Bool, true, false, cond, List, [], ◌∷◌, ◌++◌, map, Option, Some, None, nat_eq, refl, sym, ap, ap₂, ◌∙◌}
use Rattle.std.specs.Prelude.{option_map, is_some}
use Rattle.std.specs.Option.{option_or}
use Rattle.std.specs.Map.{lookup}
use Rattle.std.proofs.lemmas.Bool.{and_parts, eq-eqb}
use Rattle.ty_core.specs.Types.{Typ, var}
use Rattle.ty_core.specs.Statics.{replace}
use Rattle.ty_core.specs.declared.mark.Mark.{Mark}
use Rattle.ty_core.specs.declared.scheme.Quantified.{Quantified}
use Rattle.sml_tree.specs.BareTree as bare
use Rattle.sml_tree.specs.declared.ident.Tyvar.{Tyvar}
use Rattle.core_rules.specs.Objects.{Map, at}
use Rattle.core_rules.specs.Scoping.{new_vars, scoped_at, tyvar_names, unguarded_in}
use Rattle.core_rules.specs.Typing.{all_general, is_general, mark_of, scoped_in}
use Rattle.core_rules.specs.Words.{is_in}
use Rattle.core_rules.proofs.LookUps.{at-append, nat-tells}
use Rattle.ir_poly.specs.Types.{are_new, in_scope, is_declarable}
use Rattle.elab_typed.specs.Contexts.{Around, generic}
use Rattle.elab_typed.specs.Elaborates.{scoped_as}
use Rattle.elab_steps.specs.World.{World, type_of}
use Rattle.elab_context.specs.Telling.{Tells}
use Rattle.elab_context.specs.declared.context.Context.{Context}
use Rattle.general_decs.specs.Inside.{Keeps}
use Rattle.general_decs.specs.Scoped.{CameIntoScope, ScopesThese, tyvar_parameters}

-- what they stand for

-- one that was in scope isn't among them
apart : (W : World) (v : ℕ) (as_ : List Tyvar) (old new : List (ℕ × ℕ)) (qs : List Quantified) (n j : ℕ) → CameIntoScope W v as_ old new → lookup (nat_eq n) old ≡ Some j
    → at nat_eq (scoped_as as_ qs) n ≡ None
apart W v [] old new qs n j h e = refl
apart W v (a ∷ as_) old new [] n j h e = refl
apart W v (a ∷ as_) old new (q ∷ qs) n j h e =
    by (nat-tells n a.name) (λ s. apart W (suc v) as_ ((a.name, h.0) ∷ old) new qs n j h.3 (ap (λ b. cond b (Some h.0) (lookup (nat_eq n) old)) s ∙ e))
  where
    by : ((nat_eq n a.name ≡ true) × (n ≡ a.name)) ⊎ (nat_eq n a.name ≡ false) → (nat_eq n a.name ≡ false → at nat_eq (scoped_as as_ qs) n ≡ None)
        → cond (nat_eq n a.name) (Some (var q.variable)) (at nat_eq (scoped_as as_ qs) n) ≡ None
    by (inl s) k =
        let none : lookup (nat_eq n) old ≡ None = ap (λ m. lookup (nat_eq m) old) s.1 ∙ h.2 in absurd (let no : Some j ≡ None = sym e ∙ none in cc)
    by (inr s) k = ap (λ b. cond b (Some (var q.variable)) (at nat_eq (scoped_as as_ qs) n)) s ∙ k s

-- a name may stand behind others
moved : (us m : Map ℕ Typ) (n : ℕ) (t : Typ) → at nat_eq us n ≡ None → (a : ℕ) → at nat_eq ((n, t) ∷ (us ++ m)) a ≡ at nat_eq (us ++ (n, t) ∷ m) a
moved us m n t none a =
    ap (cond (nat_eq a n) (Some t)) (at-append nat_eq nat-tells us m a) ∙ by (nat-tells a n) ∙ sym (at-append nat_eq nat-tells us ((n, t) ∷ m) a)
  where
    by : ((nat_eq a n ≡ true) × (a ≡ n)) ⊎ (nat_eq a n ≡ false)
        → cond (nat_eq a n) (Some t) (option_or (at nat_eq us a) (at nat_eq m a)) ≡ option_or (at nat_eq us a) (cond (nat_eq a n) (Some t) (at nat_eq m a))
    by (inl s) =
        ap (λ b. cond b (Some t) (option_or (at nat_eq us a) (at nat_eq m a))) s.0
        ∙ sym (ap₂ (λ o b. option_or o (cond b (Some t) (at nat_eq m a))) (ap (at nat_eq us) s.1 ∙ none) s.0)
    by (inr s) =
        ap (λ b. cond b (Some t) (option_or (at nat_eq us a) (at nat_eq m a))) s ∙ sym (ap (λ b. option_or (at nat_eq us a) (cond b (Some t) (at nat_eq m a))) s)

scope-next : (q : Quantified) (qs : List Quantified) (v : ℕ) → in_scope qs v ≡ true → in_scope (q ∷ qs) v ≡ true
scope-next q qs v i = by (nat_eq q.variable v) i
  where
    by : (b : Bool) → in_scope qs v ≡ true → (b || in_scope qs v) ≡ true
    by true i = refl
    by false i = i

pub tyvars-tell : (W : World) (v : ℕ) (as_ : List Tyvar) (old new : List (ℕ × ℕ)) (rest : List Quantified) (m : Map ℕ Typ) → CameIntoScope W v as_ old new
    → ((x : ℕ) → in_scope (tyvar_parameters v as_) x ≡ true → W.value x ≡ var x) → ((a : ℕ) → at nat_eq m a ≡ option_map (type_of W) (lookup (nat_eq a) old))
    → (a : ℕ) → at nat_eq (scoped_as as_ (tyvar_parameters v as_ ++ rest) ++ m) a ≡ option_map (type_of W) (lookup (nat_eq a) new)
tyvars-tell W v [] old new rest m h g t a = t a ∙ ap (λ l. option_map (type_of W) (lookup (nat_eq a) l)) (sym h)
tyvars-tell W v (b ∷ as_) old new rest m h g t a =
    let us = scoped_as as_ (tyvar_parameters (suc v) as_ ++ rest) in
    let q : Quantified = record { variable = v; mark = mark_of b } in
    let here : type_of W h.0 ≡ var v =
    ap (Rattle.ty_solve.specs.Substitution.sub W.value) h.1 ∙ g v (ap (λ c. c || in_scope (tyvar_parameters (suc v) as_) v) (eq-eqb v v refl)) in
    let none = apart W (suc v) as_ ((b.name, h.0) ∷ old) new (tyvar_parameters (suc v) as_ ++ rest) b.name h.0 h.3
    (ap (λ c. cond c (Some h.0) (lookup (nat_eq b.name) old)) (eq-eqb b.name b.name refl)) in
    moved us m b.name (var v) none a
    ∙ tyvars-tell W (suc v) as_ ((b.name, h.0) ∷ old) new rest ((b.name, var v) ∷ m) h.3 (λ x i. g x (scope-next q (tyvar_parameters (suc v) as_) x i)) (λ c. by c here (nat_eq c b.name)) a
  where
    by : (c : ℕ) → type_of W h.0 ≡ var v → (s : Bool)
        → cond s (Some (var v)) (at nat_eq m c) ≡ option_map (type_of W) (cond s (Some h.0) (lookup (nat_eq c) old))
    by c e true = ap Some (sym e)
    by c e false = t c

pub tyvars-keep : (W : World) (v : ℕ) (as_ : List Tyvar) (old new : List (ℕ × ℕ)) (qs : List Quantified) (m : Map ℕ Typ) → CameIntoScope W v as_ old new
    → ((a : ℕ) → at nat_eq m a ≡ option_map (type_of W) (lookup (nat_eq a) old)) → Keeps m (scoped_as as_ qs ++ m)
tyvars-keep W v as_ old new qs m h t a u e = by (lookup (nat_eq a) old) refl
  where
    by : (o : Option ℕ) → lookup (nat_eq a) old ≡ o → at nat_eq (scoped_as as_ qs ++ m) a ≡ Some u
    by None q = absurd (let no : Some u ≡ None = sym e ∙ t a ∙ ap (option_map (type_of W)) q in cc)
    by (Some j) q =
        at-append nat_eq nat-tells (scoped_as as_ qs) m a ∙ ap (λ o. option_or o (at nat_eq m a)) (apart W v as_ old new qs a j h q) ∙ e

-- what is asked of the parameters

pub marks-tell : (v : ℕ) (as_ : List Tyvar) (rest : List Quantified)
    → map (λ (q : Quantified). q.mark) (tyvar_parameters v as_ ++ rest) ≡ map mark_of as_ ++ map (λ (q : Quantified). q.mark) rest
marks-tell v [] rest = refl
marks-tell v (a ∷ as_) rest = ap (λ l. mark_of a ∷ l) (marks-tell (suc v) as_ rest)

general-mark : (m : Mark) → is_declarable m ≡ true → is_general m ≡ true
general-mark Mark.Any h = refl
general-mark Mark.Equality h = refl
general-mark (Mark.Class c) h = cc

marks-general : (qs ps : List Quantified) → are_new qs ps ≡ true → all_general (map (λ (q : Quantified). q.mark) qs) ≡ true
marks-general [] ps h = refl
marks-general (q ∷ qs) ps h =
    let a = and_parts (is_declarable q.mark) (not (in_scope ps q.variable) && (not (in_scope qs q.variable) && are_new qs ps)) h in
    let b = and_parts (not (in_scope ps q.variable)) (not (in_scope qs q.variable) && are_new qs ps) a.1 in
    let c = and_parts (not (in_scope qs q.variable)) (are_new qs ps) b.1 in
    ap₂ (λ x y. x && y) (general-mark q.mark a.0) (marks-general qs ps c.1)

behind-general : (ms ns : List Mark) → all_general (ms ++ ns) ≡ true → all_general ns ≡ true
behind-general [] ns h = h
behind-general (m ∷ ms) ns h = behind-general ms ns (and_parts (is_general m) (all_general (ms ++ ns)) h).1

pub rest-general : (v : ℕ) (as_ : List Tyvar) (rest ps : List Quantified) → are_new (tyvar_parameters v as_ ++ rest) ps ≡ true
    → all_general (map (λ (q : Quantified). q.mark) rest) ≡ true
rest-general v as_ rest ps h =
    behind-general (map mark_of as_) (map (λ (q : Quantified). q.mark) rest)
    (ap all_general (sym (marks-tell v as_ rest)) ∙ marks-general (tyvar_parameters v as_ ++ rest) ps h)

-- which are scoped

in-names : {A : Type 0} (m : List (ℕ × A)) (x : ℕ) → is_in nat_eq x (map (λ (a : ℕ × A). a.0) m) ≡ is_some (lookup (nat_eq x) m)
in-names [] x = refl
in-names (e ∷ m) x = by (nat_eq x e.0) (in-names m x)
  where
    by : (b : Bool) → is_in nat_eq x (map (λ (a : ℕ × _). a.0) m) ≡ is_some (lookup (nat_eq x) m)
        → (b || is_in nat_eq x (map (λ (a : ℕ × _). a.0) m)) ≡ is_some (cond b (Some e.1) (lookup (nat_eq x) m))
    by true h = refl
    by false h = h

in-append : (xs ys : List ℕ) (x : ℕ) → is_in nat_eq x (xs ++ ys) ≡ (is_in nat_eq x xs || is_in nat_eq x ys)
in-append [] ys x = refl
in-append (y ∷ xs) ys x = by (nat_eq x y) (in-append xs ys x)
  where
    by : (b : Bool) → is_in nat_eq x (xs ++ ys) ≡ (is_in nat_eq x xs || is_in nat_eq x ys) → (b || is_in nat_eq x (xs ++ ys)) ≡ ((b || is_in nat_eq x xs) || is_in nat_eq x ys)
    by true h = refl
    by false h = h

new-same : (ns ms : List ℕ) (as_ : List Tyvar) → ((x : ℕ) → is_in nat_eq x ns ≡ is_in nat_eq x ms) → new_vars ns as_ ≡ new_vars ms as_
new-same ns ms [] h = refl
new-same ns ms (a ∷ as_) h =
    ap (λ b. cond b (new_vars ns as_) (a ∷ new_vars (a.name ∷ ns) as_)) (h a.name)
    ∙ ap₂ (λ xs ys. cond (is_in nat_eq a.name ms) xs (a ∷ ys)) (new-same ns ms as_ h) (new-same (a.name ∷ ns) (a.name ∷ ms) as_ (λ x. ap (λ b. nat_eq x a.name || b) (h x)))

scoped-same : (ns ms : List ℕ) (as_ : List Tyvar) (bs rs : bare.Binds) → ((x : ℕ) → is_in nat_eq x ns ≡ is_in nat_eq x ms) → scoped_at ns as_ bs rs ≡ scoped_at ms as_ bs rs
scoped-same ns ms as_ bs rs h =
    ap (λ l. as_ ++ l)
    (new-same (ns ++ tyvar_names as_) (ms ++ tyvar_names as_) (unguarded_in bs ++ unguarded_in rs)
    (λ x. in-append ns (tyvar_names as_) x ∙ ap (λ b. b || is_in nat_eq x (tyvar_names as_)) (h x) ∙ sym (in-append ms (tyvar_names as_) x)))

names-same : (s : ℕ → Typ) (m : Map ℕ Typ) → map (λ (a : ℕ × Typ). a.0) (map (λ (a : ℕ × Typ). (a.0, replace s a.1)) m) ≡ map (λ (a : ℕ × Typ). a.0) m
names-same s [] = refl
names-same s (a ∷ m) = ap (λ l. a.0 ∷ l) (names-same s m)

some-same : {A B : Type 0} (f : A → B) (o : Option A) → is_some (option_map f o) ≡ is_some o
some-same f None = refl
some-same f (Some a) = refl

pub scopes-tell : (C : Context) (W : World) (A : Around) (as_ : List Tyvar) (bs rs : bare.Binds) (scoped : List Tyvar) → Tells C W A → ScopesThese C as_ bs rs scoped
    → scoped_in (generic A) as_ bs rs ≡ scoped
scopes-tell C W A as_ bs rs scoped t h =
    ap (λ ns. scoped_at ns as_ bs rs) (names-same var A.tyvars)
    ∙ scoped-same (map (λ (a : ℕ × Typ). a.0) A.tyvars) (map (λ (a : ℕ × ℕ). a.0) C.types.tyvars) as_ bs rs
    (λ x. in-names A.tyvars x ∙ ap is_some (t.tyvars x) ∙ some-same (type_of W) (lookup (nat_eq x) C.types.tyvars) ∙ sym (in-names C.types.tyvars x))
    ∙ h
