-- What calls answer, of the same rows and types.
use Rattle.std.proofs.Common.{◌≡◌, ◌<◌, ℕ, Bool, true, false, List, None, map, length, set, Result, Ok, Err, IfOk, IfErr, refl, sym, ap, ◌∙◌, subst}
use Rattle.std.proofs.lemmas.Bool.{false≢true}
use Rattle.mlc_names.specs.declared.label.Label.{Label}
use Rattle.ty_table.specs.of_ty_core.Types.{Typ, var, Typs}
use Rattle.ty_table.specs.of_ty_core.declared.mark.Mark.{Mark}
use Rattle.ty_table.specs.TypeAt.{type_at, types_at, AllBelow}
use Rattle.ty_solve.specs.Rows.{Known, Among, IsProper}
use Rattle.ty_solve.specs.Substitution.{Entry, bound, is_open, is_below, are_below, subs, are_in, Resolves, aside}
use Rattle.ty_solve.specs.SlotsOf.{look, entries, seen, row_in, row_of, tasks_of}
use Rattle.ty_solve.specs.Finding.{IsWalked}
use Rattle.ty_solve.specs.Weight.{AreBelow, AreInhabited, IsAcyclic, BelowAt, InhabitedAt, WeighsAt, Weighs}
use Rattle.ty_solve.specs.Tasks.{MayPut, Binds as MayBind, Steps, RefusesTask}
use Rattle.ty_solve.specs.Task.{Task, Admit, Bind}
use Rattle.ty_solve.specs.Parts.{AdmitParts, RefusesParts}
use Rattle.ty_solve.specs.declared.task.Todo.{Todo}
use Rattle.ty_solve.specs.Changes.{Changes, Demands, RefusesRow, RefusesWrite, IsFitRow}
use Rattle.ty_solve.specs.Fields.{FieldsMeet, OthersAdmit, IsUnion, IsLacking, Closes, Joins, IsBase}
use Rattle.ty_solve.specs.declared.row.Row.{Row}
use Rattle.ty_solve.specs.declared.subst.Slot.{Slot}
use Rattle.ty_solve.specs.declared.subst.Slot.TheVariants.{Partial, Full}
use Rattle.ty_solve.specs.declared.refused.UnifyRefused.{UnifyRefused}
use Rattle.ty_solve.specs.declared.refused.UnifyRefused.TheVariants.{Circular}
use Rattle.ty_solve.proofs.Arms.{all-length}
use Rattle.ty_solve.proofs.Labels.{proper-lengths}
use Rattle.ty_solve.proofs.Slots.{entries-length, entries-set}
use Rattle.ty_solve.proofs.RowArms.{row-flag, row-parts, row-parts-clash}
use Rattle.ty_solve.proofs.RowChanges.{row-changes, row-refused, close-demands, still-walked, extend-demands, extend-circular, may-extend}

-- lists that are the same
pub lengths-as : (ts : List Typ) (a b : List Label) (x y : List ℕ) → a ≡ b → x ≡ y → IsProper b (types_at ts y) → length a ≡ length x
lengths-as ts a b x y p q h = ap length p ∙ proper-lengths b (map (type_at ts) y) h ∙ all-length ts y ∙ sym (ap length q)

pub others-as : (ts : List Typ) (e : Bool) (o n : List Task) (a b c d : List Label) (x y : List ℕ) → a ≡ b → x ≡ y → c ≡ d → OthersAdmit e o n a (types_at ts x) c → OthersAdmit e o n b (types_at ts y) d
others-as ts e o n a b c d x y p q r h = subst (λ z. OthersAdmit e o n z (types_at ts y) d) p (subst (λ z. OthersAdmit e o n a (types_at ts z) d) q (subst (OthersAdmit e o n a (types_at ts x)) r h))

pub meet-as : (ts : List Typ) (o n : List Task) (a b c d : List Label) (x y u v : List ℕ) → a ≡ b → x ≡ y → c ≡ d → u ≡ v → FieldsMeet o n a (types_at ts x) c (types_at ts u) → FieldsMeet o n b (types_at ts y) d (types_at ts v)
meet-as ts o n a b c d x y u v p q r s h = subst (λ z. FieldsMeet o n z (types_at ts y) d (types_at ts v)) p (subst (λ z. FieldsMeet o n a (types_at ts z) d (types_at ts v)) q (subst (λ z. FieldsMeet o n a (types_at ts x) z (types_at ts v)) r (subst (λ z. FieldsMeet o n a (types_at ts x) c (types_at ts z)) s h)))

pub union-as : (ls js : List Label) (us vs : Typs) (ts : List Typ) (a b : List Label) (x y : List ℕ) → a ≡ b → x ≡ y → IsUnion ls us a (types_at ts x) js vs → IsUnion ls us b (types_at ts y) js vs
union-as ls js us vs ts a b x y p q h = subst (λ z. IsUnion ls us z (types_at ts y) js vs) p (subst (λ z. IsUnion ls us a (types_at ts z) js vs) q h)

pub lacking-as : (a b ls : List Label) (l : Label) → a ≡ b → IsLacking a ls l → IsLacking b ls l
lacking-as a b ls l p h = subst (λ z. IsLacking z ls l) p h

pub within-as : (a b ls : List Label) → a ≡ b → ((l : Label) → Among l a → Among l ls) → (l : Label) → Among l b → Among l ls
within-as a b ls p h l k = h l (subst (Among l) (sym p) k)

pub below-as : (n : ℕ) (x y : List ℕ) → x ≡ y → AllBelow n y → AllBelow n x
below-as n x y p h = subst (AllBelow n) (sym p) h

-- no list has a label twice where a test says so
pub improper-as : (b : Bool) (P : Type 0) → (P → b ≡ true) → b ≡ false → P → ⊥
improper-as b P h e p = false≢true (sym e ∙ h p)

abbrev pub known : Bool → List Label → Typs → Known
known e l t = record { equality = e; labels = l; types = t }

pub copied : (ts : List Typ) (e : Bool) (l : List Label) (x : List ℕ) (r : Row) → e ≡ r.equality → l ≡ r.labels.items → x ≡ r.types.items → known e l (types_at ts x) ≡ row_in ts r
copied ts e l x r p q i =
    ap (λ b. known b l (types_at ts x)) p
    ∙ ap (λ k. known r.equality k (types_at ts x)) q
    ∙ ap (λ y. known r.equality r.labels.items (types_at ts y)) i

-- refusals of types that are the same
pub refuses-as : {R : Type 0} → (r : Known) (t u : Typ) (x : Result R UnifyRefused) → t ≡ u → IfErr x (λ e. (s : ℕ → Entry) → RefusesRow s r t e) → IfErr x (λ e. (s : ℕ → Entry) → RefusesRow s r u e)
refuses-as r t u x p h = subst (λ z. IfErr x (λ e. (s : ℕ → Entry) → RefusesRow s r z e)) p h

pub closes-as : {R : Type 0} → (o n : List Task) (r : Known) (t u : Typ) (x : Result R UnifyRefused) → t ≡ u → IfOk x (λ _. Closes o n r t) → IfOk x (λ _. Closes o n r u)
closes-as o n r t u x p h = subst (λ z. IfOk x (λ _. Closes o n r z)) p h

pub refuses-at : {R : Type 0} → (s : ℕ → Entry) (r : Known) (t u : Typ) (x : Result R UnifyRefused) → t ≡ u → IfErr x (λ e. (s : ℕ → Entry) → RefusesRow s r t e) → IfErr x (RefusesRow s r u)
refuses-at s r t u (Ok x) p h = h
refuses-at s r t u (Err e) p h = subst (λ z. RefusesRow s r z e) p (h s)

pub refuses-type : {R : Type 0} → (s : ℕ → Entry) (r : Known) (t u : Typ) (x : Result R UnifyRefused) → t ≡ u → IfErr x (RefusesRow s r t) → IfErr x (RefusesRow s r u)
refuses-type s r t u x p h = subst (λ z. IfErr x (RefusesRow s r z)) p h

pub demands-type : {R : Type 0} → (l k : List Entry) (o n : List Task) (r : Known) (t u : Typ) (x : Result R UnifyRefused) → t ≡ u → IfOk x (λ _. Demands l k o n r t) → IfOk x (λ _. Demands l k o n r u)
demands-type l k o n r t u x p h = subst (λ z. IfOk x (λ _. Demands l k o n r z)) p h

module _ (ts : List Typ) (os : List Slot) where
  as-many : length os ≡ length (entries ts os)
  as-many = sym (entries-length ts os)

  pub closes-demands : {R : Type 0} → (o n : List Task) (r : Known) (t u : Typ) (x : Result R UnifyRefused) → IsFitRow (length os) r → is_below (length os) u ≡ true → t ≡ u → IfOk x (λ _. Closes o n r t) → IfOk x (λ _. Demands (entries ts os) (entries ts os) o n r u)
  closes-demands o n r t u (Ok x) f b p h = close-demands (entries ts os) o n r u (subst (λ n. IsFitRow n r) as-many f) (subst (λ n. is_below n u ≡ true) as-many b) (subst (Closes o n r) p h)
  closes-demands o n r t u (Err e) f b p h = h

  -- an open variable
  module _ (o n : List Task) (y : ℕ) (base r : Known) (joined : Row) (lt : y < length os) (i : is_open (seen ts os y) ≡ true) (b : IsBase (length os) (seen ts os) y base) (f : IsFitRow (length os) r) (j : Joins o n base r (row_in ts joined)) where
    pub extended : (new : List Slot) → new ≡ set os y (Partial joined) → Demands (entries ts os) (entries ts new) o n r (var y)
    extended new e =
        subst (λ l. Demands (entries ts os) l o n r (var y)) (sym (ap (entries ts) e ∙ entries-set ts os y (Partial joined)))
        (extend-demands (entries ts os) o n y base r (row_in ts joined) (subst (λ n. y < n) as-many lt) i (subst (λ n. IsBase n (seen ts os) y base) as-many b) (subst (λ n. IsFitRow n r) as-many f) j)

    pub may : ((f : ℕ → Typ) → Resolves f (aside y (seen ts os)) → false ≡ are_in y (subs f (types_at ts joined.types.items))) → MayPut (length os) (seen ts os) y (row_of (row_in ts joined))
    may h =
        subst (λ n. MayPut n (seen ts os) y (row_of (row_in ts joined))) (entries-length ts os)
        (may-extend (entries ts os) o n y base r (row_in ts joined) (subst (λ n. y < n) as-many lt) i (subst (λ n. IsBase n (seen ts os) y base) as-many b) (subst (λ n. IsFitRow n r) as-many f) j h)

    pub circular : IsAcyclic (seen ts os) → AreInhabited (seen ts os) → ((f : ℕ → Typ) → Resolves f (aside y (seen ts os)) → true ≡ are_in y (subs f (types_at ts joined.types.items))) → RefusesRow (seen ts os) r (var y) Circular
    circular a h k = extend-circular (entries ts os) o n y base r (row_in ts joined) (subst (λ n. y < n) as-many lt) i (subst (λ n. IsBase n (seen ts os) y base) as-many b) (subst (λ n. IsFitRow n r) as-many f) j a h k

  -- a row whose fields are asked to admit equality
  module _ (w : ℕ → ℕ) (a : Weighs w (seen ts os)) (b : AreBelow (length os) (seen ts os)) (i : AreInhabited (seen ts os)) (x : ℕ) (r : Known) (q : seen ts os x ≡ row_of r) where
    pub flag-steps : (old new : List Task) → r.equality ≡ true → AdmitParts (length os) (seen ts os) w old new r.types → Steps (length (entries ts os)) (seen ts os) w old (Admit Mark.Equality (var x)) new None
    flag-steps old new e h =
        let is = row-flag (seen ts os x) r.equality true r.labels r.types q e in
        row-parts (length (entries ts os)) (seen ts os) w old new x r.labels r.types (var x) refl is (subst InhabitedAt is (i x)) (subst (λ n. are_below n r.types ≡ true) as-many (subst (BelowAt (length os)) is (b x))) (subst (WeighsAt w (w x)) is (a x)) (subst (λ n. AdmitParts n (seen ts os) w old new r.types) as-many h)

    pub flag-refused : r.equality ≡ true → (e : UnifyRefused) → RefusesParts (seen ts os) r.types e → RefusesTask (seen ts os) (Admit Mark.Equality (var x)) e
    flag-refused e c h = let is = row-flag (seen ts os x) r.equality true r.labels r.types q e in row-parts-clash (seen ts os) x r.labels r.types is (subst InhabitedAt is (i x)) c h

  -- a row that stands for a type from now on
  module _ (v t : ℕ) (k : List Slot) (b : MayBind (length (entries ts os)) (seen ts os) v (type_at ts t)) (e : k ≡ set os v (Full t)) where
    now-is : entries ts k ≡ set (entries ts os) v (bound (type_at ts t))
    now-is = ap (entries ts) e ∙ entries-set ts os v (Full t)

    pub bound-walked : IsWalked (seen ts k) (type_at ts t)
    bound-walked = subst (λ l. IsWalked (look l) (type_at ts t)) (sym now-is) (still-walked (entries ts os) v (bound (type_at ts t)) (type_at ts t) b.walked b.unlike)

    pub row-ok : {R : Type 0} → (new : List Slot) (o n : List Task) (r : Known) (x : Result R UnifyRefused) → seen ts os v ≡ row_of r → IfOk x (λ _. Demands (entries ts k) (entries ts new) o n r (type_at ts t)) → IfOk x (λ _. Changes (entries ts os) (entries ts new) o n (Bind v (type_at ts t)))
    row-ok new o n r (Ok x) q h = row-changes (entries ts os) v (type_at ts t) r b q (entries ts new) o n (subst (λ l. Demands l (entries ts new) o n r (type_at ts t)) now-is h)
    row-ok new o n r (Err x) q h = h

    pub row-err : {R : Type 0} → (r : Known) (x : Result R UnifyRefused) → seen ts os v ≡ row_of r → IfErr x (RefusesRow (seen ts k) r (type_at ts t)) → IfErr x (RefusesWrite (seen ts os) (Bind v (type_at ts t)))
    row-err r (Ok x) q h = h
    row-err r (Err x) q h = row-refused (entries ts os) v (type_at ts t) r b q x (subst (λ l. RefusesRow (look l) r (type_at ts t) x) now-is h)

-- one table for another that is the same
module _ (us ts : List Typ) (e : us ≡ ts) where
  pub demands-in : {R : Type 0} → (k new : List Slot) (o n : List Todo) (r : Row) (t : ℕ) (x : Result R UnifyRefused) → IfOk x (λ _. Demands (entries us k) (entries us new) (tasks_of us o) (tasks_of us n) (row_in us r) (type_at us t)) → IfOk x (λ _. Demands (entries ts k) (entries ts new) (tasks_of ts o) (tasks_of ts n) (row_in ts r) (type_at ts t))
  demands-in k new o n r t x h = subst (λ (y : List Typ). IfOk x (λ _. Demands (entries y k) (entries y new) (tasks_of y o) (tasks_of y n) (row_in y r) (type_at y t))) e h

  pub refuses-in : {R : Type 0} → (k : List Slot) (r : Row) (t : ℕ) (x : Result R UnifyRefused) → IfErr x (RefusesRow (seen us k) (row_in us r) (type_at us t)) → IfErr x (RefusesRow (seen ts k) (row_in ts r) (type_at ts t))
  refuses-in k r t x h = subst (λ (y : List Typ). IfErr x (RefusesRow (seen y k) (row_in y r) (type_at y t))) e h
