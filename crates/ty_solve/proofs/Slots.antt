-- Slots, and what they say.
use Rattle.std.proofs.Common.{◌≡◌, ◌<◌, ◌≤◌, ℕ, zero, suc, List, [], ◌∷◌, ◌++◌, length, get_or, set, Bool, true, false, if◌then◌else◌, refl, sym, ap, ◌∙◌, subst, arith}
use Rattle.ty_table.specs.of_ty_core.Types.{Typ}
use Rattle.ty_table.specs.of_ty_core.Marks.{is_inhabited}
use Rattle.ty_table.specs.of_ty_core.declared.mark.Mark.{Mark}
use Rattle.ty_table.specs.TypeAt.{types_at}
use Rattle.ty_solve.specs.Substitution.{free, bound, are_below}
use Rattle.ty_solve.specs.SlotsOf.{look, entries, entry_of, seen, row_in, row_of, task_of, tasks_of}
use Rattle.ty_solve.specs.Changes.{IsFitRow}
use Rattle.ty_solve.specs.declared.row.Row.{Row}
use Rattle.ty_solve.specs.declared.task.Todo.{Todo}
use Rattle.ty_solve.specs.Finding.{Reads}
use Rattle.ty_solve.specs.Weight.{BelowAt, AreBelow, IsAcyclic, AreInhabited}
use Rattle.ty_solve.specs.Tasks.{MayPut}
use Rattle.ty_solve.specs.declared.subst.Slot.{Slot}
use Rattle.ty_solve.specs.declared.subst.Slot.TheVariants.{Open, Partial}
use Rattle.ty_solve.proofs.Look.{look-past, grown-below, grown-inhabited}
use Rattle.ty_solve.proofs.Growing.{grown-acyclic, grown-row}
use Rattle.ty_solve.proofs.Setting.{set-below, set-puts, set-inhabited, put-acyclic}

pub entries-length : (ts : List Typ) (os : List Slot) → length (entries ts os) ≡ length os
entries-length ts [] = refl
entries-length ts (o ∷ os) = ap suc (entries-length ts os)

pub entries-set : (ts : List Typ) (os : List Slot) (v : ℕ) (o : Slot) → entries ts (set os v o) ≡ set (entries ts os) v (entry_of ts o)
entries-set ts [] v o = refl
entries-set ts (x ∷ os) zero o = refl
entries-set ts (x ∷ os) (suc v) o = ap (λ l. entry_of ts x ∷ l) (entries-set ts os v o)

pub entries-snoc : (ts : List Typ) (os : List Slot) (o : Slot) → entries ts (os ++ o ∷ []) ≡ entries ts os ++ entry_of ts o ∷ []
entries-snoc ts [] o = refl
entries-snoc ts (x ∷ os) o = ap (λ l. entry_of ts x ∷ l) (entries-snoc ts os o)

pub seen-get : (ts : List Typ) (os : List Slot) (v : ℕ) (o : Slot) → v < length os → o ≡ get_or os v o → seen ts os v ≡ entry_of ts o
seen-get ts [] v o lt e = absurd (omega arith)
seen-get ts (x ∷ os) zero o lt e = ap (entry_of ts) (sym e)
seen-get ts (x ∷ os) (suc v) o lt e = seen-get ts os v o (omega arith) e

pub seen-past : (ts : List Typ) (os : List Slot) (v : ℕ) → length os ≤ v → seen ts os v ≡ free Mark.Any
seen-past ts os v h = look-past (entries ts os) v (let e = entries-length ts os in omega arith)

pub record IsFit (ts : List Typ) (os : List Slot) : Type 0 where
  pub below : AreBelow (length os) (seen ts os)
  pub acyclic : IsAcyclic (seen ts os)
  pub inhabited : AreInhabited (seen ts os)

choice : (ts : List Typ) (b : Bool) (k : Mark) (old new : List Slot) → new ≡ (if b then old ++ Open k ∷ [] else old) → entries ts new ≡ (if b then entries ts old ++ free k ∷ [] else entries ts old)
choice ts true k old new e = ap (entries ts) e ∙ entries-snoc ts old (Open k)
choice ts false k old new e = ap (entries ts) e

pub grown : (ts : List Typ) (b : Bool) (k : Mark) (old new : List Slot) → new ≡ (if b then old ++ Open k ∷ [] else old) → is_inhabited k ≡ true → AreBelow (length old) (seen ts old) → IsAcyclic (seen ts old) → AreInhabited (seen ts old) → IsFit ts new
grown ts b k old new e i h a n =
    let c = choice ts b k old new e in
    record {
      below = subst (λ m. AreBelow m (seen ts new)) (entries-length ts new) (grown-below b (free k) (entries ts old) (entries ts new) c tt (subst (λ m. AreBelow m (seen ts old)) (sym (entries-length ts old)) h));
      acyclic = grown-acyclic b k (entries ts old) (entries ts new) c a;
      inhabited = grown-inhabited b (free k) (entries ts old) (entries ts new) c i n;
    }

choice-row : (ts : List Typ) (b : Bool) (r : Row) (old new : List Slot) → new ≡ (if b then old ++ Partial r ∷ [] else old) → entries ts new ≡ (if b then entries ts old ++ row_of (row_in ts r) ∷ [] else entries ts old)
choice-row ts true r old new e = ap (entries ts) e ∙ entries-snoc ts old (Partial r)
choice-row ts false r old new e = ap (entries ts) e

pub grown-by-row : (ts : List Typ) (b : Bool) (r : Row) (old new : List Slot) → new ≡ (if b then old ++ Partial r ∷ [] else old) → IsFitRow (length old) (row_in ts r) → AreBelow (length old) (seen ts old) → IsAcyclic (seen ts old) → AreInhabited (seen ts old) → IsFit ts new
grown-by-row ts b r old new e f h a n =
    let c = choice-row ts b r old new e in
    let d = sym (entries-length ts old) in
    let k = subst (λ m. AreBelow m (seen ts old)) d h in
    let i = subst (λ m. are_below m (types_at ts r.types.items) ≡ true) d f.below in
    record {
      below = subst (λ m. AreBelow m (seen ts new)) (entries-length ts new) (grown-below b (row_of (row_in ts r)) (entries ts old) (entries ts new) c i k);
      acyclic = grown-row b (row_in ts r) (entries ts old) (entries ts new) c k i a;
      inhabited = grown-inhabited b (row_of (row_in ts r)) (entries ts old) (entries ts new) c f.proper n;
    }

pub put : (ts : List Typ) (os : List Slot) (v : ℕ) (o : Slot) → MayPut (length os) (seen ts os) v (entry_of ts o) → AreBelow (length os) (seen ts os) → IsAcyclic (seen ts os) → AreInhabited (seen ts os) → IsFit ts (set os v o)
put ts os v o m h a n =
    let e = entries-set ts os v o in
    let d = entries-length ts os in
    let lt = m.in_range in
    let lt' : v < length (entries ts os) = omega arith in
    record {
      below = subst (λ j. AreBelow j (seen ts (set os v o))) (entries-length ts (set os v o)) (subst (λ l. AreBelow (length l) (look l)) (sym e) (set-below (entries ts os) v (entry_of ts o) lt' (subst (λ j. AreBelow j (seen ts os)) (sym d) h) (subst (λ j. BelowAt j (entry_of ts o)) (sym d) m.below)));
      acyclic = subst (λ l. IsAcyclic (look l)) (sym e) (put-acyclic _ _ v (entry_of ts o) (set-puts (entries ts os) v (entry_of ts o) lt') a m.avoids);
      inhabited = subst (λ l. AreInhabited (look l)) (sym e) (set-inhabited (entries ts os) v (entry_of ts o) lt' n m.inhabited);
    }

pub tasks-snoc : (ts : List Typ) (l : List Todo) (x : Todo) → tasks_of ts (l ++ x ∷ []) ≡ tasks_of ts l ++ task_of ts x ∷ []
tasks-snoc ts [] x = refl
tasks-snoc ts (y ∷ l) x = ap (λ k. task_of ts y ∷ k) (tasks-snoc ts l x)

pub tasks-push : (ts : List Typ) (old new : List Todo) (x : Todo) → new ≡ old ++ x ∷ [] → tasks_of ts new ≡ tasks_of ts old ++ task_of ts x ∷ []
tasks-push ts old new x e = ap (tasks_of ts) e ∙ tasks-snoc ts old x

pub tasks-length : (ts : List Typ) (l : List Todo) → length (tasks_of ts l) ≡ length l
tasks-length ts [] = refl
tasks-length ts (x ∷ l) = ap suc (tasks-length ts l)

pub reads-in : (ts : List Typ) (os : List Slot) (w : ℕ → ℕ) (t u : Typ) → Reads (length os) (seen ts os) w t u → Reads (length (entries ts os)) (seen ts os) w t u
reads-in ts os w t u r = subst (λ n. Reads n (seen ts os) w t u) (sym (entries-length ts os)) r

pub none-more : (l : List ℕ) → l ≡ l ++ []
none-more [] = refl
none-more (k ∷ l) = ap (λ m. k ∷ m) (none-more l)

-- a variable that stands for a type is one of the substitution's
pub bound-within : (ts : List Typ) (os : List Slot) (v : ℕ) (t : Typ) → seen ts os v ≡ bound t → v < length os
bound-within ts [] v t e = cc
bound-within ts (o ∷ os) zero t e = omega arith
bound-within ts (o ∷ os) (suc v) t e = let lt = bound-within ts os v t e in omega arith
