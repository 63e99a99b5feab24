-- The variables of an annotation are alive where those of the scope's types are: what it stands for is the same whatever the others stand for.
use Rattle.std.proofs.Common.{◌≡◌, inl, inr, ℕ, Bool, true, false, List, [], ◌∷◌, map, cond, nat_eq, Option, Some, None, refl, sym, ap, ap₂, ◌∙◌, subst}
use Rattle.std.specs.Prelude.{option_map}
use Rattle.std.specs.List.{AllByRecursion}
use Rattle.std.specs.Map.{lookup}
use Rattle.std.proofs.lemmas.Bool.{eqb-true, eq-eqb}
use Rattle.ty_core.specs.Types.{Typ, var, con, Typs, none, more, arrow}
use Rattle.ty_core.specs.Statics.{replace, replace_all}
use Rattle.ty_table.specs.TypeAt.{type_at}
use Rattle.elab_types.specs.of_ty_solve.Substitution.{are_in, is_in}
use Rattle.sml_tree.specs.BareTree.{Ty}
use Rattle.elab_types.specs.of_core_rules.Objects.{Context, TypeStructure, env, no_structures}
use Rattle.elab_types.specs.of_core_rules.Elaborated.{type_in, type_of}
use Rattle.elab_types.specs.Reading.{entry_of, function_in, Reads}
use Rattle.elab_types.specs.Annotations.{IsTypeOf}
use Rattle.elab_types.specs.declared.scope.TypeEntry.{TypeEntry}
use Rattle.elab_types.specs.declared.scope.TypeScope.{TypeScope}
use Rattle.elab_state.proofs.Typed.{either}
use Rattle.elab_steps.proofs.Keeping.{or-left, or-right}

-- a context that the scope tells of

abbrev tyvar-under : List Typ → (ℕ → Typ) → ℕ × ℕ → ℕ × Typ
tyvar-under ts f b = (b.0, replace f (type_at ts b.1))

abbrev structure-of : List Typ → TypeEntry → TypeStructure
structure-of ts n = record { function = function_in ts n; constructors = [] }

abbrev context-with : List Typ → TypeScope → List (ℕ × Typ) → Context
context-with ts s us = record { names = 0; tyvars = us; env = env [] (map (λ b. (b.0, structure-of ts b.1)) s.types) no_structures }

abbrev context-under : List Typ → TypeScope → (ℕ → Typ) → Context
context-under ts s f = context-with ts s (map (tyvar-under ts f) s.tyvars)

found-map : {A B : Type 0} (g : A → B) (xs : List (ℕ × A)) (a : ℕ) → lookup (nat_eq a) (map (λ b. (b.0, g b.1)) xs) ≡ option_map g (lookup (nat_eq a) xs)
found-map g [] a = refl
found-map g (x ∷ xs) a = by (nat_eq a x.0) (found-map g xs a)
  where
    by : (b : Bool) → lookup (nat_eq a) (map (λ b. (b.0, g b.1)) xs) ≡ option_map g (lookup (nat_eq a) xs)
        → cond b (Some (g x.1)) (lookup (nat_eq a) (map (λ b. (b.0, g b.1)) xs)) ≡ option_map g (cond b (Some x.1) (lookup (nat_eq a) xs))
    by true h = refl
    by false h = h

twice : {A B C : Type 0} (g : B → C) (h : A → B) (o : Option A) → option_map g (option_map h o) ≡ option_map (λ a. g (h a)) o
twice g h None = refl
twice g h (Some a) = refl

reads-under : (ts : List Typ) (s : TypeScope) (f : ℕ → Typ) → Reads ts s f (context-under ts s f)
reads-under ts s f = record { tyvars = λ a. found-map (λ k. replace f (type_at ts k)) s.tyvars a; types = type }
  where
    type : (qs : List ℕ) (x : ℕ) → option_map (λ y. y.function) (type_in (context-under ts s f).env qs x) ≡ option_map (function_in ts) (entry_of s qs x)
    type [] x = ap (option_map (λ y. y.function)) (found-map (structure-of ts) s.types x) ∙ twice (λ y. y.function) (structure-of ts) (lookup (nat_eq x) s.types)
    type (q ∷ qs) x = refl

-- which variables stand in a type
module _ (keep : ℕ → Bool) where
  abbrev kept : ℕ → Typ
  kept v = cond (keep v) (var v) (con arrow none)

  is-kept : (v : ℕ) → keep v ≡ true → var v ≡ kept v
  is-kept v e = ap (λ b. cond b (var v) (con arrow none)) (sym e)

  mutual
    agrees : (t : Typ) → ((v : ℕ) → is_in v t ≡ true → keep v ≡ true) → replace var t ≡ replace kept t
    agrees (var v) h = is-kept v (h v (eq-eqb v v refl))
    agrees (con y ts) h = ap (con y) (all-agree ts h)

    all-agree : (ts : Typs) → ((v : ℕ) → are_in v ts ≡ true → keep v ≡ true) → replace_all var ts ≡ replace_all kept ts
    all-agree none h = refl
    all-agree (more t ts) h =
        ap₂ more (agrees t (λ v i. h v (or-left (is_in v t) (are_in v ts) i))) (all-agree ts (λ v i. h v (or-right (is_in v t) (are_in v ts) i)))

  kept-var : (v : ℕ) → var v ≡ kept v → keep v ≡ true
  kept-var v = by (keep v)
    where
      by : (b : Bool) → var v ≡ cond b (var v) (con arrow none) → b ≡ true
      by true e = refl
      by false e = cc

  parts-equal : (t u : Typ) (ts us : Typs) → more t ts ≡ more u us → (t ≡ u) × (ts ≡ us)
  parts-equal t u ts us e = (cc, cc)

  args-equal : (y : _) (ts us : Typs) → con y ts ≡ con y us → ts ≡ us
  args-equal y ts us e = cc

  mutual
    same-kept : (t : Typ) → replace var t ≡ replace kept t → (v : ℕ) → is_in v t ≡ true → keep v ≡ true
    same-kept (var x) e v i = subst (λ y. keep y ≡ true) (eqb-true x v i) (kept-var x e)
    same-kept (con y ts) e v i = all-same-kept ts (args-equal y (replace_all var ts) (replace_all kept ts) e) v i

    all-same-kept : (ts : Typs) → replace_all var ts ≡ replace_all kept ts → (v : ℕ) → are_in v ts ≡ true → keep v ≡ true
    all-same-kept none e v i = cc
    all-same-kept (more t ts) e v i =
        let q = parts-equal (replace var t) (replace kept t) (replace_all var ts) (replace_all kept ts) e in
        elim (either (is_in v t) (are_in v ts) i) [ inl j ↦ same-kept t q.0 v j | inr j ↦ all-same-kept ts q.1 v j ]

  same-tyvars : (ts : List Typ) (xs : List (ℕ × ℕ)) → AllByRecursion (λ b. (v : ℕ) → is_in v (type_at ts b.1) ≡ true → keep v ≡ true) xs
      → map (tyvar-under ts var) xs ≡ map (tyvar-under ts kept) xs
  same-tyvars ts [] h = refl
  same-tyvars ts (x ∷ xs) h = ap₂ (λ t l. (x.0, t) ∷ l) (agrees (type_at ts x.1) h.0) (same-tyvars ts xs h.1)

  some-equal : {A : Type 0} (a b : A) → Some a ≡ Some b → a ≡ b
  some-equal a b e = cc

  pub annotation-in : (old new : List Typ) (s : TypeScope) (ty : Ty) (r : ℕ) → IsTypeOf old new s ty r
      → AllByRecursion (λ b. (v : ℕ) → is_in v (type_at old b.1) ≡ true → keep v ≡ true) s.tyvars → (v : ℕ) → is_in v (type_at new r) ≡ true → keep v ≡ true
  annotation-in old new s ty r h k =
      let c = context-under old s var in
      let d = context-under old s kept in
      let e : c ≡ d = ap (context-with old s) (same-tyvars old s.tyvars k) in
      same-kept (type_at new r) (some-equal _ _ (sym (h.is var c (reads-under old s var)) ∙ ap (λ c. type_of c ty) e ∙ h.is kept d (reads-under old s kept)))
