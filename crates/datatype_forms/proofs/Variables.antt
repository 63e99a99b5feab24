-- The first variables, as types of a table.
use Rattle.std.proofs.Common.{◌≡◌, ◌<◌, ◌≤◌, ◌+◌, ℕ, zero, suc, List, [], ◌∷◌, ◌++◌, length, take, Some, slice_get, refl, sym, ap, ap₂, subst, ◌∙◌, arith}
use Rattle.std.proofs.lemmas.Option.{get_or_from_slice_get, slice_get_within}
use Rattle.ty_core.specs.Types.{Typ, var, none, more}
use Rattle.ty_core.specs.Statics.{variables}
use Rattle.ty_table.specs.TypeAt.{AllBelow, type_at, types_at}
use Rattle.ty_solve.proofs.Holding.{types-stay}
use Rattle.ty_instance.proofs.Going.{longer, stays-on, whole}

-- so many of them are there
pub record Counted (old new : List Typ) (n : ℕ) (ks : List ℕ) : Type 0 where
  pub are : types_at new ks ≡ variables 0 n
  pub held : AllBelow (length new) ks
  pub earlier : take (length old) new ≡ old

pub none_counted : (ts : List Typ) (ks : List ℕ) → ks ≡ [] → Counted ts ts 0 ks
none_counted ts ks e = subst (Counted ts ts 0) (sym e) (record { are = refl; held = tt; earlier = whole ts })

snoc : (ts : List Typ) (ks : List ℕ) (k v n : ℕ) → types_at ts ks ≡ variables v n → type_at ts k ≡ var (v + n) → types_at ts (ks ++ k ∷ []) ≡ variables v (suc n)
snoc ts [] k v zero e h = ap (λ t. more t none) (h ∙ ap var (let q : v + 0 ≡ v = omega arith in q))
snoc ts [] k v (suc n) e h = cc
snoc ts (j ∷ ks) k v zero e h = cc
snoc ts (j ∷ ks) k v (suc n) e h =
    let a : type_at ts j ≡ var v = cc in
    let b : types_at ts ks ≡ variables (suc v) n = cc in
    ap₂ more a (snoc ts ks k (suc v) n b (h ∙ ap var (let q : v + suc n ≡ suc v + n = omega arith in q)))

below-snoc : (m n : ℕ) (ks : List ℕ) (k : ℕ) → m ≤ n → AllBelow m ks → k < n → AllBelow n (ks ++ k ∷ [])
below-snoc m n [] k le h lt = (lt, tt)
below-snoc m n (j ∷ ks) k le h lt = let a = h.0 in (omega (arith, a, le), below-snoc m n ks k le h.1 lt)

pub one_counted : (old ts us : List Typ) (n m : ℕ) (ks new : List ℕ) (k : ℕ) → Counted old ts n ks → m ≡ n + 1 → take (length ts) us ≡ ts → slice_get us k ≡ Some (var n) → new ≡ ks ++ k ∷ []
    → Counted old us m new
one_counted old ts us n m ks new k h e l g q =
    let s : suc n ≡ m = omega (arith, e) in
    subst (Counted old us m) (sym q) (record {
      are = snoc us ks k 0 n (types-stay ts us ks l h.held ∙ h.are) (get_or_from_slice_get us k (var n) (var 0) g ∙ ap var (let z : n ≡ 0 + n = omega arith in z)) ∙ ap (variables 0) s;
      held = below-snoc (length ts) (length us) ks k (longer ts us l) h.held (slice_get_within us k (var n) g);
      earlier = stays-on old ts us h.earlier l;
    })
