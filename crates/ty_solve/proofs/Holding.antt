-- Numbers that the table has.
use Rattle.std.proofs.Common.{◌≡◌, ◌<◌, ◌≤◌, ℕ, zero, suc, List, [], ◌∷◌, ◌++◌, length, map, get_or, set, take, Bool, true, false, if◌then◌else◌, refl, sym, ap, ap₂, subst, ◌∙◌, arith}
use Rattle.ty_table.specs.of_ty_core.Types.{Typ, var, more}
use Rattle.ty_table.specs.of_ty_core.declared.mark.Mark.{Mark}
use Rattle.ty_table.specs.TypeAt.{type_at, types_at, AllBelow}
use Rattle.ty_solve.specs.Substitution.{bound, row}
use Rattle.ty_solve.specs.Held.{IsHeld, AreHeld, IsHeldTask, AreHeldTasks}
use Rattle.ty_solve.specs.SlotsOf.{entry_of, entries, seen, look}
use Rattle.ty_solve.specs.Weight.{AreBelow, IsAcyclic, AreInhabited}
use Rattle.ty_solve.specs.declared.row.Row.{Row}
use Rattle.ty_solve.specs.declared.subst.Slot.{Slot}
use Rattle.ty_solve.specs.declared.subst.Slot.TheVariants.{Open, Partial, Full}
use Rattle.ty_solve.specs.declared.task.Todo.{Todo}

pub held-push : (n : ℕ) (l new : List Todo) (x : Todo) → new ≡ l ++ x ∷ [] → AreHeldTasks n l → IsHeldTask n x → AreHeldTasks n new
held-push n l new x e h k = subst (AreHeldTasks n) (sym e) (go l h)
  where
    go : (l : List Todo) → AreHeldTasks n l → AreHeldTasks n (l ++ x ∷ [])
    go [] h = (k, tt)
    go (y ∷ l) h = (h.0, go l h.1)

pub held-pop : (n : ℕ) (l old : List Todo) (x : Todo) → old ≡ l ++ x ∷ [] → AreHeldTasks n old → AreHeldTasks n l × IsHeldTask n x
held-pop n l old x e h = go l (subst (AreHeldTasks n) e h)
  where
    go : (l : List Todo) → AreHeldTasks n (l ++ x ∷ []) → AreHeldTasks n l × IsHeldTask n x
    go [] h = (tt, h.0)
    go (y ∷ l) h = let p = go l h.1 in ((h.0, p.0), p.1)

held-snoc : (n : ℕ) (os : List Slot) (o : Slot) → AreHeld n os → IsHeld n o → AreHeld n (os ++ o ∷ [])
held-snoc n [] o h k = (k, tt)
held-snoc n (x ∷ os) o h k = (h.0, held-snoc n os o h.1 k)

pub held-fresh : (n : ℕ) (b : Bool) (k : Mark) (old new : List Slot) → new ≡ (if b then old ++ Open k ∷ [] else old) → AreHeld n old → AreHeld n new
held-fresh n true k old new e h = subst (AreHeld n) (sym e) (held-snoc n old (Open k) h tt)
held-fresh n false k old new e h = subst (AreHeld n) (sym e) h

pub held-row : (n : ℕ) (b : Bool) (r : Row) (old new : List Slot) → new ≡ (if b then old ++ Partial r ∷ [] else old) → AllBelow n r.types.items → AreHeld n old → AreHeld n new
held-row n true r old new e k h = subst (AreHeld n) (sym e) (held-snoc n old (Partial r) h k)
held-row n false r old new e k h = subst (AreHeld n) (sym e) h

pub held-set : (n : ℕ) (os : List Slot) (v : ℕ) (o : Slot) → AreHeld n os → IsHeld n o → AreHeld n (set os v o)
held-set n [] v o h k = tt
held-set n (x ∷ os) zero o h k = (k, h.1)
held-set n (x ∷ os) (suc v) o h k = (h.0, held-set n os v o h.1 k)

pub held-get : (n : ℕ) (os : List Slot) (v : ℕ) (o : Slot) → v < length os → o ≡ get_or os v o → AreHeld n os → IsHeld n o
held-get n [] v o lt e h = absurd (omega arith)
held-get n (x ∷ os) zero o lt e h = subst (IsHeld n) (sym e) h.0
held-get n (x ∷ os) (suc v) o lt e h = held-get n os v o (omega arith) e h.1

below-more : (m n : ℕ) (l : List ℕ) → m ≤ n → AllBelow m l → AllBelow n l
below-more m n [] le h = tt
below-more m n (k ∷ l) le h = (let lt = h.0 in omega arith, below-more m n l le h.1)

held-more : (m n : ℕ) (os : List Slot) → m ≤ n → AreHeld m os → AreHeld n os
held-more m n [] le h = tt
held-more m n (Open k ∷ os) le h = (tt, held-more m n os le h.1)
held-more m n (Partial r ∷ os) le h = (below-more m n r.types.items le h.0, held-more m n os le h.1)
held-more m n (Full t ∷ os) le h = (let lt = h.0 in omega arith, held-more m n os le h.1)

-- a table that has grown

taken-length : {A : Type 0} (n : ℕ) (l : List A) → length (take n l) ≤ length l
taken-length zero [] = omega arith
taken-length zero (x ∷ l) = omega arith
taken-length (suc n) [] = omega arith
taken-length (suc n) (x ∷ l) = let p = taken-length n l in omega arith

taken-get : {A : Type 0} (d : A) (n k : ℕ) (l : List A) → k < n → get_or (take n l) k d ≡ get_or l k d
taken-get d zero k l lt = absurd (omega arith)
taken-get d (suc n) k [] lt = refl
taken-get d (suc n) zero (x ∷ l) lt = refl
taken-get d (suc n) (suc k) (x ∷ l) lt = taken-get d n k l (omega arith)

pub type-stays : (ts us : List Typ) (k : ℕ) → take (length ts) us ≡ ts → k < length ts → type_at us k ≡ type_at ts k
type-stays ts us k e lt = sym (taken-get (var 0) (length ts) k us lt) ∙ ap (λ l. get_or l k (var 0)) e

pub types-stay : (ts us : List Typ) (l : List ℕ) → take (length ts) us ≡ ts → AllBelow (length ts) l → types_at us l ≡ types_at ts l
types-stay ts us [] e h = refl
types-stay ts us (k ∷ l) e h = ap₂ more (type-stays ts us k e h.0) (types-stay ts us l e h.1)

entries-stay : (ts us : List Typ) (os : List Slot) → take (length ts) us ≡ ts → AreHeld (length ts) os → entries us os ≡ entries ts os
entries-stay ts us [] e h = refl
entries-stay ts us (Open k ∷ os) e h = ap (λ l. entry_of ts (Open k) ∷ l) (entries-stay ts us os e h.1)
entries-stay ts us (Partial r ∷ os) e h = ap₂ (λ x l. row r.equality r.labels.items x ∷ l) (types-stay ts us r.types.items e h.0) (entries-stay ts us os e h.1)
entries-stay ts us (Full t ∷ os) e h = ap₂ (λ x l. bound x ∷ l) (type-stays ts us t e h.0) (entries-stay ts us os e h.1)

pub record IsWhole (ts us : List Typ) (os : List Slot) : Type 0 where
  pub held : AreHeld (length us) os
  pub below : AreBelow (length os) (seen us os)
  pub acyclic : IsAcyclic (seen us os)
  pub inhabited : AreInhabited (seen us os)
  pub says : seen us os ≡ seen ts os

pub table-grown : (ts us : List Typ) (os : List Slot) → take (length ts) us ≡ ts → AreHeld (length ts) os → AreBelow (length os) (seen ts os) → IsAcyclic (seen ts os) → AreInhabited (seen ts os) → IsWhole ts us os
table-grown ts us os e h b a i =
    let s = ap look (entries-stay ts us os e h) in
    record {
      held = held-more (length ts) (length us) os (let p = taken-length (length ts) us in let q = ap length e in omega arith) h;
      below = subst (AreBelow (length os)) (sym s) b;
      acyclic = subst IsAcyclic (sym s) a;
      inhabited = subst AreInhabited (sym s) i;
      says = s;
    }

-- lists of numbers
pub below-append : (n : ℕ) (l r : List ℕ) → AllBelow n l → AllBelow n r → AllBelow n (l ++ r)
below-append n [] r h k = k
below-append n (x ∷ l) r h k = (h.0, below-append n l r h.1 k)

pub below-pop : (n : ℕ) (l all : List ℕ) (k : ℕ) → all ≡ l ++ k ∷ [] → AllBelow n all → AllBelow n l × (k < n)
below-pop n l all k e h = go l (subst (AllBelow n) e h)
  where
    go : (l : List ℕ) → AllBelow n (l ++ k ∷ []) → AllBelow n l × (k < n)
    go [] h = (tt, h.0)
    go (x ∷ l) h = let p = go l h.1 in ((h.0, p.0), p.1)

pub map-snoc : (ts : List Typ) (l new : List ℕ) (k : ℕ) → new ≡ l ++ k ∷ [] → map (type_at ts) new ≡ map (type_at ts) l ++ type_at ts k ∷ []
map-snoc ts l new k e = ap (map (type_at ts)) e ∙ go l
  where
    go : (l : List ℕ) → map (type_at ts) (l ++ k ∷ []) ≡ map (type_at ts) l ++ type_at ts k ∷ []
    go [] = refl
    go (x ∷ l) = ap (λ m. type_at ts x ∷ m) (go l)
