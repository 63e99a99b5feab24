-- Substitutions whose variables have limits: one more variable, and a solution.
use Rattle.std.proofs.Common.{◌≡◌, ◌≢◌, ◌<◌, ◌≤◌, ℕ, zero, suc, true, List, [], ◌∷◌, ◌++◌, length, take, refl, sym, ap, ◌∙◌, subst, arith}
use Rattle.std.proofs.lemmas.Bool.{cases_eq, and_parts, ltb-true}
use mathlib.Core.Logic.{◌⊎◌, inl, inr}
use Rattle.ty_table.specs.of_ty_core.Types.{Typ, var, con, Typs, none, more}
use Rattle.ty_table.specs.of_ty_core.declared.mark.Mark.{Mark}
use Rattle.ty_solve.specs.Substitution.{Entry, free, bound, row, is_below, are_below}
use Rattle.ty_table.specs.TypeAt.{types_at}
use Rattle.ty_solve.specs.SlotsOf.{look, entries, entry_of, seen}
use Rattle.ty_solve.specs.Weight.{BelowAt, AreBelow}
use Rattle.ty_solve.specs.Limits.{limit_at, NoFurther, Limited, AllLimited, LimitedAt, AreLimited, AreWide}
use Rattle.ty_solve.specs.declared.limit.Limit.{Limit}
use Rattle.ty_solve.specs.declared.subst.Slot.{Slot}
use Rattle.ty_solve.specs.declared.subst.Slot.TheVariants.{Open, Partial}
use Rattle.ty_solve.specs.declared.row.Row.{Row}
use Rattle.ty_solve.proofs.Look.{look-grow-here, look-grow-other}
use Rattle.ty_solve.proofs.Slots.{entries-snoc, entries-length}
use Rattle.ty_solve.proofs.Falling.{snoc-length}

pub record IsLimited (ts : List Typ) (os : List Slot) (ls : List Limit) : Type 0 where
  pub each : length ls ≡ length os
  pub limited : AreLimited (limit_at ls) (seen ts os)
  pub wide : AreWide (limit_at ls)

pub limited-is : (ts us : List Typ) (os ps : List Slot) (ls ms : List Limit) → us ≡ ts → ps ≡ os → ms ≡ ls → IsLimited ts os ls → IsLimited us ps ms
limited-is ts us os ps ls ms e q r h = subst (λ (x : List Typ). IsLimited x ps ms) (sym e) (subst (λ x. IsLimited ts x ms) (sym q) (subst (IsLimited ts os) (sym r) h))

-- what was pushed last is popped
pub first-of : (n : ℕ) (l m : List Limit) (k : Limit) → m ≡ l ++ k ∷ [] → n ≡ length l → take n m ≡ l
first-of n l m k e h = ap (take n) e ∙ ap (λ i. take i (l ++ k ∷ [])) h ∙ go l
  where
    go : (l : List Limit) → take (length l) (l ++ k ∷ []) ≡ l
    go [] = refl
    go (x ∷ l) = ap (λ m. x ∷ m) (go l)

grow-here : (l : List Limit) (k : Limit) → limit_at (l ++ k ∷ []) (length l) ≡ k
grow-here [] k = refl
grow-here (x ∷ l) k = grow-here l k

grow-other : (l : List Limit) (k : Limit) (v : ℕ) → v ≢ length l → limit_at (l ++ k ∷ []) v ≡ limit_at l v
grow-other [] k zero h = absurd (h refl)
grow-other [] k (suc v) h = refl
grow-other (x ∷ l) k zero h = refl
grow-other (x ∷ l) k (suc v) h = grow-other l k v (λ e. h (ap suc e))

-- the same limits of the variables below n
module _ (n : ℕ) (b b' : ℕ → Limit) (same : (v : ℕ) → v < n → b' v ≡ b v) where
  mutual
    limited-same : (l : Limit) (t : Typ) → is_below n t ≡ true → Limited b l t → Limited b' l t
    limited-same l (var v) i h = subst (λ k. NoFurther k l) (sym (same v (ltb-true v n i))) h
    limited-same l (con c ts) i h = (h.0, all-limited-same l ts i h.1)

    all-limited-same : (l : Limit) (ts : Typs) → are_below n ts ≡ true → AllLimited b l ts → AllLimited b' l ts
    all-limited-same l none i h = tt
    all-limited-same l (more t ts) i h = let p = and_parts (is_below n t) (are_below n ts) i in (limited-same l t p.0 h.0, all-limited-same l ts p.1 h.1)

  at-same : (l : Limit) (e : Entry) → BelowAt n e → LimitedAt b l e → LimitedAt b' l e
  at-same l (free k) i h = tt
  at-same l (bound t) i h = limited-same l t i h
  at-same l (row e ks us) i h = all-limited-same l us i h

limited-more : (ts : List Typ) (os : List Slot) (ls : List Limit) (o : Slot) (l : Limit) → AreBelow (length os) (seen ts os) → 4 ≤ l.names → LimitedAt (limit_at (ls ++ l ∷ [])) l (entry_of ts o) → IsLimited ts os ls → IsLimited ts (os ++ o ∷ []) (ls ++ l ∷ [])
limited-more ts os ls o l below wide k h = record {
  each = snoc-length ls l ∙ ap suc h.each ∙ sym (snoc-length os o);
  limited = λ v. go v (cases_eq v (length ls));
  wide = λ v. by v (cases_eq v (length ls));
}
  where
    same : (v : ℕ) → v < length os → limit_at (ls ++ l ∷ []) v ≡ limit_at ls v
    same v lt = let e = h.each in grow-other ls l v (λ q. omega arith)

    here : (v : ℕ) → v ≡ length ls → seen ts (os ++ o ∷ []) v ≡ entry_of ts o
    here v e = ap (λ m. look m v) (entries-snoc ts os o) ∙ ap (look (entries ts os ++ entry_of ts o ∷ [])) (e ∙ h.each ∙ sym (entries-length ts os)) ∙ look-grow-here (entries ts os) (entry_of ts o)

    own : (v : ℕ) → v ≡ length ls → limit_at (ls ++ l ∷ []) v ≡ l
    own v e = ap (limit_at (ls ++ l ∷ [])) e ∙ grow-here ls l

    other : (v : ℕ) → (v ≡ length ls → ⊥) → seen ts (os ++ o ∷ []) v ≡ seen ts os v
    other v ne = ap (λ m. look m v) (entries-snoc ts os o) ∙ look-grow-other (entries ts os) (entry_of ts o) v (λ e. ne (e ∙ entries-length ts os ∙ sym h.each))

    go : (v : ℕ) → (v ≡ length ls) ⊎ (v ≡ length ls → ⊥) → LimitedAt (limit_at (ls ++ l ∷ [])) (limit_at (ls ++ l ∷ []) v) (seen ts (os ++ o ∷ []) v)
    go v (inl e) = subst (LimitedAt (limit_at (ls ++ l ∷ [])) (limit_at (ls ++ l ∷ []) v)) (sym (here v e)) (subst (λ x. LimitedAt (limit_at (ls ++ l ∷ [])) x (entry_of ts o)) (sym (own v e)) k)
    go v (inr ne) = subst (LimitedAt (limit_at (ls ++ l ∷ [])) (limit_at (ls ++ l ∷ []) v)) (sym (other v ne)) (subst (λ x. LimitedAt (limit_at (ls ++ l ∷ [])) x (seen ts os v)) (sym (grow-other ls l v ne)) (at-same (length os) (limit_at ls) (limit_at (ls ++ l ∷ [])) same (limit_at ls v) (seen ts os v) (below v) (h.limited v)))

    by : (v : ℕ) → (v ≡ length ls) ⊎ (v ≡ length ls → ⊥) → 4 ≤ (limit_at (ls ++ l ∷ []) v).names
    by v (inl e) = subst (λ x. 4 ≤ x.names) (sym (own v e)) wide
    by v (inr ne) = subst (λ x. 4 ≤ x.names) (sym (grow-other ls l v ne)) (h.wide v)

pub limited-grown : (ts : List Typ) (os : List Slot) (ls : List Limit) (k : Mark) (l : Limit) → AreBelow (length os) (seen ts os) → 4 ≤ l.names → IsLimited ts os ls → IsLimited ts (os ++ Open k ∷ []) (ls ++ l ∷ [])
limited-grown ts os ls k l below wide h = limited-more ts os ls (Open k) l below wide tt h

pub limited-by-row : (ts : List Typ) (os : List Slot) (ls : List Limit) (r : Row) (l : Limit) → AreBelow (length os) (seen ts os) → 4 ≤ l.names → are_below (length os) (types_at ts r.types.items) ≡ true → AllLimited (limit_at ls) l (types_at ts r.types.items) → IsLimited ts os ls → IsLimited ts (os ++ Partial r ∷ []) (ls ++ l ∷ [])
limited-by-row ts os ls r l below wide fit k h =
    let e = h.each in
    limited-more ts os ls (Partial r) l below wide (all-limited-same (length os) (limit_at ls) (limit_at (ls ++ l ∷ [])) (λ v lt. grow-other ls l v (λ q. omega arith)) l (types_at ts r.types.items) fit k) h
