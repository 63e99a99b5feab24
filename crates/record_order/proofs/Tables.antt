-- The order of each type of a table.
use Rattle.std.proofs.Common.{◌≡◌, ℕ, zero, suc, ◌+◌, ◌<◌, ◌≤◌, Bool, false, List, [], ◌∷◌, ◌++◌, length, take, map, slice_index_or, refl, ap, subst, arith}
use Rattle.ty_core.specs.Types.{Typ}
use Rattle.ty_table.specs.TypeAt.{type_at}
use Rattle.record_order.specs.Order.{is_ordered}

pub orders-more : (ts : List Typ) (i : ℕ) → i < length ts → map is_ordered (take (i + 1) ts) ≡ map is_ordered (take i ts) ++ is_ordered (type_at ts i) ∷ []
orders-more ts i lt = subst (λ n. map is_ordered (take n ts) ≡ map is_ordered (take i ts) ++ is_ordered (type_at ts i) ∷ []) one (go ts i lt)
  where
    one : suc i ≡ i + 1
    one = omega arith

    go : (ts : List Typ) (i : ℕ) → i < length ts → map is_ordered (take (suc i) ts) ≡ map is_ordered (take i ts) ++ is_ordered (type_at ts i) ∷ []
    go [] i lt = absurd (omega arith)
    go (t ∷ ts) zero lt = refl
    go (t ∷ ts) (suc i) lt = ap (λ bs. is_ordered t ∷ bs) (go ts i (omega arith))

pub orders-all : (ts : List Typ) (n : ℕ) → length ts ≤ n → map is_ordered (take n ts) ≡ map is_ordered ts
orders-all [] zero le = refl
orders-all [] (suc n) le = refl
orders-all (t ∷ ts) zero le = absurd (omega arith)
orders-all (t ∷ ts) (suc n) le = ap (λ bs. is_ordered t ∷ bs) (orders-all ts n (omega arith))

pub order-at : (ts : List Typ) (i : ℕ) (d : Bool) → i < length (map is_ordered ts) → slice_index_or (map is_ordered ts) i d ≡ is_ordered (type_at ts i)
order-at [] i d lt = absurd (omega arith)
order-at (t ∷ ts) zero d lt = refl
order-at (t ∷ ts) (suc i) d lt = order-at ts i d (omega arith)

pub order-past : (ts : List Typ) (i : ℕ) → length (map is_ordered ts) ≤ i → false ≡ is_ordered (type_at ts i)
order-past [] i le = refl
order-past (t ∷ ts) zero le = absurd (omega arith)
order-past (t ∷ ts) (suc i) le = order-past ts i (omega arith)
