-- What a table has of a scope: by look-ups, and while bindings come and go.
use Rattle.std.proofs.Common.{◌≡◌, ◌<◌, ◌≤◌, ◌-◌, ℕ, zero, suc, Bool, true, false, List, [], ◌∷◌, length, drop, cond, nat_eq, Option, Some, refl, sym, ap, ap₂, ◌∙◌, subst}
use Rattle.std.specs.List.{AllByRecursion}
use Rattle.std.specs.Map.{lookup}
use Rattle.ty_core.specs.Types.{Typ}
use Rattle.ty_table.specs.TypeAt.{type_at, top}
use Rattle.elab_types.specs.Reading.{left_at, Holds}
use Rattle.elab_types.specs.declared.scope.TypeEntry.{TypeEntry}
use Rattle.elab_types.specs.declared.scope.TypeScope.{TypeScope}

all-drop : {A : Type 0} (P : A → Type 0) (n : ℕ) (xs : List A) → AllByRecursion P xs → AllByRecursion P (drop n xs)
all-drop P zero xs h = h
all-drop P (suc n) [] h = h
all-drop P (suc n) (x ∷ xs) h = all-drop P n xs h.1

-- what all entries have, the one that is found has
pub found : {V : Type 0} (P : V → Type 0) (xs : List (ℕ × V)) (a : ℕ) (v : V) → AllByRecursion (λ b. P b.1) xs → lookup (nat_eq a) xs ≡ Some v → P v
found P [] a v h e = cc
found P (x ∷ xs) a v h e = by (nat_eq a x.0) e (found P xs a v h.1)
  where
    by : (b : Bool) → cond b (Some x.1) (lookup (nat_eq a) xs) ≡ Some v → (lookup (nat_eq a) xs ≡ Some v → P v) → P v
    by true q k = let s : x.1 ≡ v = cc in subst P s h.0
    by false q k = k q

module _ (ts : List Typ) (s : TypeScope) (h : Holds ts s) where
  pub tyvar-held : (a k : ℕ) → lookup (nat_eq a) s.tyvars ≡ Some k → k < length ts
  tyvar-held a k e = found (λ k. k < length ts) s.tyvars a k h.tyvars e

  pub body-held : (x : ℕ) (n : TypeEntry) → lookup (nat_eq x) s.types ≡ Some n → n.body < length ts
  body-held x n e = found (λ n. n.body < length ts) s.types x n h.bodies e

  pub body-closed : (x : ℕ) (n : TypeEntry) → lookup (nat_eq x) s.types ≡ Some n → top (type_at ts n.body) ≤ n.arity
  body-closed x n e = found (λ n. top (type_at ts n.body) ≤ n.arity) s.types x n h.closed e

pub holds_nothing : (ts : List Typ) (s : TypeScope) → s.tyvars ≡ [] → s.types ≡ [] → Holds ts s
holds_nothing ts s a b = record {
  tyvars = subst (AllByRecursion (λ b. b.1 < length ts)) (sym a) tt;
  bodies = subst (AllByRecursion (λ b. b.1.body < length ts)) (sym b) tt;
  closed = subst (AllByRecursion (λ b. top (type_at ts b.1.body) ≤ b.1.arity)) (sym b) tt;
}

pub holds_with_tyvar : (ts : List Typ) (s t : TypeScope) (x k : ℕ) → t.tyvars ≡ (x, k) ∷ s.tyvars → t.types ≡ s.types → Holds ts s → k < length ts → Holds ts t
holds_with_tyvar ts s t x k a b h lt = record {
  tyvars = subst (AllByRecursion (λ b. b.1 < length ts)) (sym a) (lt, h.tyvars);
  bodies = subst (AllByRecursion (λ b. b.1.body < length ts)) (sym b) h.bodies;
  closed = subst (AllByRecursion (λ b. top (type_at ts b.1.body) ≤ b.1.arity)) (sym b) h.closed;
}

pub holds_with_type : (ts : List Typ) (s t : TypeScope) (x : ℕ) (n : TypeEntry) → t.types ≡ (x, n) ∷ s.types → t.tyvars ≡ s.tyvars → Holds ts s
    → n.body < length ts → top (type_at ts n.body) ≤ n.arity → Holds ts t
holds_with_type ts s t x n a b h lt le = record {
  tyvars = subst (AllByRecursion (λ b. b.1 < length ts)) (sym b) h.tyvars;
  bodies = subst (AllByRecursion (λ b. b.1.body < length ts)) (sym a) (lt, h.bodies);
  closed = subst (AllByRecursion (λ b. top (type_at ts b.1.body) ≤ b.1.arity)) (sym a) (le, h.closed);
}

pub holds_left : (ts : List Typ) (s t : TypeScope) (m n : ℕ) → t.tyvars ≡ left_at m s.tyvars → t.types ≡ left_at n s.types → Holds ts s → Holds ts t
holds_left ts s t m n a b h = record {
  tyvars = subst (AllByRecursion (λ b. b.1 < length ts)) (sym a) (all-drop (λ b. b.1 < length ts) (length s.tyvars - m) s.tyvars h.tyvars);
  bodies = subst (AllByRecursion (λ b. b.1.body < length ts)) (sym b) (all-drop (λ b. b.1.body < length ts) (length s.types - n) s.types h.bodies);
  closed = subst (AllByRecursion (λ b. top (type_at ts b.1.body) ≤ b.1.arity)) (sym b) (all-drop (λ b. top (type_at ts b.1.body) ≤ b.1.arity) (length s.types - n) s.types h.closed);
}
