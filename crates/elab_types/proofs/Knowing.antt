-- The variables of an annotation are below n where those of the scope's types are: what it stands for is the same whatever the variables from n on stand for.
use Rattle.std.proofs.Common.{◌≡◌, ◌<◌, ℕ, Bool, true, false, List, [], ◌∷◌, map, cond, nat_eq, nat_lt, Option, Some, None, refl, sym, ap, ap₂, ◌∙◌, subst}
use Rattle.std.specs.Prelude.{option_map, ◌&&◌}
use Rattle.std.specs.List.{AllByRecursion}
use Rattle.std.specs.Map.{lookup}
use Rattle.ty_core.specs.Types.{Typ, var, con, Typs, none, more, arrow}
use Rattle.ty_core.specs.Statics.{replace, replace_all}
use Rattle.ty_table.specs.TypeAt.{type_at}
use Rattle.ty_instance.specs.of_ty_solve.Substitution.{is_below, are_below}
use Rattle.sml_tree.specs.BareTree.{Ty}
use Rattle.core_rules.specs.Objects.{Context, TypeStructure, env, no_structures}
use Rattle.core_rules.specs.Elaborated.{type_of}
use Rattle.elab_types.specs.Reading.{entry_of, function_in, Reads, AreKnown}
use Rattle.elab_types.specs.Annotations.{IsTypeOf}
use Rattle.elab_types.specs.declared.scope.TypeEntry.{TypeEntry}
use Rattle.elab_types.specs.declared.scope.TypeScope.{TypeScope}

-- a context that the scope tells of

abbrev tyvar-under : List Typ → (ℕ → Typ) → ℕ × ℕ → ℕ × Typ
tyvar-under ts f b = (b.0, replace f (type_at ts b.1))

abbrev structure-of : List Typ → TypeEntry → TypeStructure
structure-of ts n = record { function = function_in ts n; constructors = [] }

abbrev context-under : List Typ → TypeScope → (ℕ → Typ) → Context
context-under ts s f = record {
  names = 0;
  tyvars = map (tyvar-under ts f) s.tyvars;
  env = env [] (map (λ b. (b.0, structure-of ts b.1)) s.types) no_structures;
}

found-map : {A B : Type 0} (g : A → B) (xs : List (ℕ × A)) (a : ℕ) → lookup (nat_eq a) (map (λ b. (b.0, g b.1)) xs) ≡ option_map g (lookup (nat_eq a) xs)
found-map g [] a = refl
found-map g (x ∷ xs) a = by (nat_eq a x.0) (found-map g xs a)
  where
    by : (b : Bool) → lookup (nat_eq a) (map (λ b. (b.0, g b.1)) xs) ≡ option_map g (lookup (nat_eq a) xs)
        → cond b (Some (g x.1)) (lookup (nat_eq a) (map (λ b. (b.0, g b.1)) xs)) ≡ option_map g (cond b (Some x.1) (lookup (nat_eq a) xs))
    by true h = refl
    by false h = h

twice : {A B C : Type 0} (g : B → C) (h : A → B) (o : Option A) → option_map g (option_map h o) ≡ option_map (λ a. g (h a)) o
twice g h None = refl
twice g h (Some a) = refl

reads-under : (ts : List Typ) (s : TypeScope) (f : ℕ → Typ) → Reads ts s f (context-under ts s f)
reads-under ts s f = record { tyvars = λ a. found-map (λ k. replace f (type_at ts k)) s.tyvars a; types = type }
  where
    type : (qs : List ℕ) (x : ℕ) → option_map (λ y. y.function) (Rattle.core_rules.specs.Elaborated.type_in (context-under ts s f).env qs x) ≡ option_map (function_in ts) (entry_of s qs x)
    type [] x = ap (option_map (λ y. y.function)) (found-map (structure-of ts) s.types x) ∙ twice (λ y. y.function) (structure-of ts) (lookup (nat_eq x) s.types)
    type (q ∷ qs) x = refl

-- which variables stand in a type

abbrev marked : ℕ → ℕ → Typ
marked n v = cond (nat_lt v n) (var v) (con arrow none)

left : (a b : Bool) → (a && b) ≡ true → a ≡ true
left true b e = refl
left false b e = e

right : (a b : Bool) → (a && b) ≡ true → b ≡ true
right true b e = e
right false b e = cc

both : (a b : Bool) → a ≡ true → b ≡ true → (a && b) ≡ true
both a b e q = ap₂ (λ a b. a && b) e q

mutual
  below-agrees : (f g : ℕ → Typ) (n : ℕ) → ((v : ℕ) → nat_lt v n ≡ true → f v ≡ g v) → (t : Typ) → is_below n t ≡ true → replace f t ≡ replace g t
  below-agrees f g n h (var v) e = h v e
  below-agrees f g n h (con y ts) e = ap (con y) (belows-agree f g n h ts e)

  belows-agree : (f g : ℕ → Typ) (n : ℕ) → ((v : ℕ) → nat_lt v n ≡ true → f v ≡ g v) → (ts : Typs) → are_below n ts ≡ true → replace_all f ts ≡ replace_all g ts
  belows-agree f g n h none e = refl
  belows-agree f g n h (more t ts) e = ap₂ more (below-agrees f g n h t (left (is_below n t) (are_below n ts) e)) (belows-agree f g n h ts (right (is_below n t) (are_below n ts) e))

is-marked : (n v : ℕ) → nat_lt v n ≡ true → var v ≡ marked n v
is-marked n v e = ap (λ b. cond b (var v) (con arrow none)) (sym e)

below-var : (n v : ℕ) → var v ≡ marked n v → nat_lt v n ≡ true
below-var n v = by (nat_lt v n)
  where
    by : (b : Bool) → var v ≡ cond b (var v) (con arrow none) → b ≡ true
    by true e = refl
    by false e = cc

parts-equal : (t u : Typ) (ts us : Typs) → more t ts ≡ more u us → (t ≡ u) × (ts ≡ us)
parts-equal t u ts us e = (cc, cc)

args-equal : (y : _) (ts us : Typs) → con y ts ≡ con y us → ts ≡ us
args-equal y ts us e = cc

mutual
  same-below : (n : ℕ) (t : Typ) → replace var t ≡ replace (marked n) t → is_below n t ≡ true
  same-below n (var v) e = below-var n v e
  same-below n (con y ts) e = sames-below n ts (args-equal y (replace_all var ts) (replace_all (marked n) ts) e)

  sames-below : (n : ℕ) (ts : Typs) → replace_all var ts ≡ replace_all (marked n) ts → are_below n ts ≡ true
  sames-below n none e = refl
  sames-below n (more t ts) e =
      let q = parts-equal (replace var t) (replace (marked n) t) (replace_all var ts) (replace_all (marked n) ts) e in
      both (is_below n t) (are_below n ts) (same-below n t q.0) (sames-below n ts q.1)

-- both contexts are one

same-tyvars : (ts : List Typ) (n : ℕ) (xs : List (ℕ × ℕ)) → AllByRecursion (λ b. is_below n (type_at ts b.1) ≡ true) xs
    → map (tyvar-under ts var) xs ≡ map (tyvar-under ts (marked n)) xs
same-tyvars ts n [] h = refl
same-tyvars ts n (x ∷ xs) h = ap₂ (λ t l. (x.0, t) ∷ l) (below-agrees var (marked n) n (is-marked n) (type_at ts x.1) h.0) (same-tyvars ts n xs h.1)

some-equal : {A : Type 0} (a b : A) → Some a ≡ Some b → a ≡ b
some-equal a b e = cc

pub known_where : (old new : List Typ) (s : TypeScope) (ty : Ty) (r : ℕ) → IsTypeOf old new s ty r → (n : ℕ) → AreKnown n old s → is_below n (type_at new r) ≡ true
known_where old new s ty r h n k =
    let c = context-under old s var in let d = context-under old s (marked n) in
    let e : c ≡ d = ap (λ l. record { names = 0; tyvars = l; env = env [] (map (λ b. (b.0, structure-of old b.1)) s.types) no_structures }) (same-tyvars old n s.tyvars k) in
    same-below n (type_at new r) (some-equal _ _ (sym (h.is var c (reads-under old s var)) ∙ ap (λ c. type_of c ty) e ∙ h.is (marked n) d (reads-under old s (marked n))))
