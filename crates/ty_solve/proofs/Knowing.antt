-- The variables of a list of types.
use Rattle.std.proofs.Common.{◌≡◌, ◌<◌, ℕ, zero, suc, Bool, true, List, [], ◌∷◌, length, get_or, take, ◌↔◌, IsTrue, refl, sym, subst, arith}
use Rattle.std.proofs.lemmas.Bool.{and_from, and_parts}
use Rattle.ty_table.specs.of_ty_core.Types.{Typ}
use Rattle.ty_table.specs.TypeAt.{type_at, types_at, AllBelow}
use Rattle.ty_solve.specs.Rows.{IsProper}
use Rattle.ty_solve.specs.Changes.{IsFitRow}
use Rattle.ty_solve.specs.SlotsOf.{row_in}
use Rattle.ty_solve.specs.Substitution.{is_below, are_below}
use Rattle.ty_solve.specs.declared.row.Row.{Row}

module _ (ts : List Typ) (n m : ℕ) where
  abbrev pub AreKnown : List ℕ → Type 0
  AreKnown l = AllBelow n l × (are_below m (types_at ts l) ≡ true)

  abbrev pub IsKnown : ℕ → Type 0
  IsKnown t = (t < n) × (is_below m (type_at ts t) ≡ true)

  pub known-at : (l : List ℕ) (i : ℕ) → i < length l → AreKnown l → IsKnown (get_or l i 0)
  known-at [] i lt h = absurd (omega arith)
  known-at (x ∷ l) zero lt h = (h.0.0, (and_parts (is_below m (type_at ts x)) (are_below m (types_at ts l)) h.1).0)
  known-at (x ∷ l) (suc i) lt h = known-at l i (omega arith) (h.0.1, (and_parts (is_below m (type_at ts x)) (are_below m (types_at ts l)) h.1).1)

  pub known-next : (l : List ℕ) (i : ℕ) → i < length l → AreKnown (take i l) → IsKnown (get_or l i 0) → AreKnown (take (suc i) l)
  known-next [] i lt h k = absurd (omega arith)
  known-next (x ∷ l) zero lt h k = ((k.0, tt), and_from _ _ k.1 refl)
  known-next (x ∷ l) (suc i) lt h k =
      let p = and_parts (is_below m (type_at ts x)) (are_below m (types_at ts (take i l))) h.1 in
      let r = known-next l i (omega arith) (h.0.1, p.1) k in
      ((h.0.0, r.0), and_from _ _ p.0 r.1)

-- a row of which both tests are true
pub fits-both : (ts : List Typ) (n : ℕ) (r : Row) (b : Bool) (types : List ℕ) → types ≡ r.types.items → IsProper r.labels.items (types_at ts r.types.items) → IsTrue b ↔ AreKnown ts (length ts) n types → IsTrue b ↔ (AllBelow (length ts) r.types.items × IsFitRow n (row_in ts r))
fits-both ts n r b types e p h = (
  λ i. let k = subst (AreKnown ts (length ts) n) e (h.0 i) in (k.0, record { below = k.1; proper = p }),
  λ k. h.1 (subst (AreKnown ts (length ts) n) (sym e) (k.0, k.1.below)),
)
