-- One change to a substitution.
use Rattle.std.proofs.Common.{◌≡◌, ◌<◌, ◌≤◌, ◌+◌, ◌-◌, ℕ, zero, suc, true, false, List, [], ◌∷◌, ◌++◌, length, set, get_or, ap, sym, ◌∙◌, subst, refl, arith}
use Rattle.std.proofs.lemmas.Bool.{cases_eq}
use Rattle.std.proofs.lemmas.List.{length-append}
use Rattle.std.proofs.Math.Seq.{set-append_seam}
use mathlib.Core.Logic.{◌⊎◌, inl, inr}
use Rattle.ty_table.specs.of_ty_core.Types.{Typ, var}
use Rattle.ty_table.specs.of_ty_core.Marks.{Allows, rank_of}
use Rattle.ty_table.specs.of_ty_core.declared.mark.Mark.{Mark}
use Rattle.ty_solve.specs.Substitution.{FitsAt, Fits}
use Rattle.ty_solve.proofs.Binding.{Puts}
use Rattle.ty_solve.proofs.Comparing.{waits-front}
use Rattle.ty_solve.specs.Substitution.{Entry, free, bound, row, mark, is_open, Meets, Resolves, aside, sub, is_in}
use Rattle.ty_solve.specs.SlotsOf.{look}
use Rattle.ty_solve.specs.Weight.{AreInhabited}
use Rattle.ty_solve.specs.Forces.{Problem, Asks, ForcedAt, LeftAt, IsForced}
use Rattle.ty_solve.specs.Tasks.{Lowers, MayPut, Binds as MayBind}
use Rattle.ty_solve.specs.Solve.{undo}
use Rattle.ty_solve.specs.Changes.{Changes, ranks, entry_rank}
use Rattle.ty_solve.specs.declared.trail.Kept.{Kept}
use Rattle.ty_solve.specs.declared.subst.Slot.{Slot}
use Rattle.ty_solve.specs.Task.{Task}
use Rattle.ty_solve.specs.Task.{Admit}
use Rattle.ty_solve.specs.Task.{Bind, Remark}
use Rattle.ty_solve.proofs.Binding.{solves-put, put-solves, put-meets}
use Rattle.ty_solve.proofs.Look.{look-set-same, look-set-other}
use Rattle.ty_solve.proofs.Setting.{set-puts, at-inhabited}
use Rattle.ty_solve.proofs.StepArms.{hold-push, forced-push, within-push}

pub undo-push : (d : List Kept) (k : Kept) (l : List Slot) → undo (d ++ k ∷ []) l ≡ undo d (set l k.variable k.slot)
undo-push [] k l = refl
undo-push (x ∷ d) k l = ap (λ y. set y x.variable x.slot) (undo-push d k l)

-- written and put back
set-back : (l : List Slot) (v : ℕ) (o b : Slot) → b ≡ get_or l v b → set (set l v o) v b ≡ l
set-back [] v o b e = refl
set-back (x ∷ l) zero o b e = ap (λ y. y ∷ l) e
set-back (x ∷ l) (suc v) o b e = ap (λ y. x ∷ y) (set-back l v o b e)

pub written-back : (l l' : List Slot) (d d' : List Kept) (v : ℕ) (o b : Slot) → b ≡ get_or l v b → l' ≡ set l v o → d' ≡ d ++ (record { variable = v; slot = b }) ∷ [] → undo d' l' ≡ undo d l
written-back l l' d d' v o b e p q =
    ap (λ x. undo x l') q
    ∙ undo-push d (record { variable = v; slot = b }) l'
    ∙ ap (λ x. undo d (set x v b)) p
    ∙ ap (undo d) (set-back l v o b e)

-- the last one kept is another
pub last-kept : (d d' : List Kept) (k j : Kept) (n : ℕ) → d' ≡ d ++ k ∷ [] → n ≡ length d' → set d' (n - 1) j ≡ d ++ j ∷ []
last-kept d d' k j n e h =
    let i : n - 1 ≡ length d = omega (arith, ap length e, length-append d (k ∷ []), h) in
    ap (λ x. set d' x j) i ∙ ap (λ x. set x (length d) j) e ∙ set-append_seam d k [] j

pub set-past : (l : List Slot) (v : ℕ) (o : Slot) → length l ≤ v → set l v o ≡ l
set-past [] v o h = refl
set-past (x ∷ l) zero o h = absurd (omega arith)
set-past (x ∷ l) (suc v) o h = ap (λ y. x ∷ y) (set-past l v o (omega arith))

pub rank-positive : (k : Mark) → 0 < rank_of k
rank-positive Mark.Any = omega arith
rank-positive Mark.Equality = omega arith
rank-positive (Mark.Class c) = omega arith

ranks-one : (x : Entry) (l : List Entry) → ranks (x ∷ l) ≡ entry_rank x + ranks l
ranks-one (free k) l = refl
ranks-one (row e ks us) l = refl
ranks-one (bound t) l = omega arith

pub ranks-set : (l : List Entry) (v : ℕ) (o : Entry) → v < length l → ranks (set l v o) + entry_rank (look l v) ≡ ranks l + entry_rank o
ranks-set [] v o lt = absurd (omega arith)
ranks-set (x ∷ l) zero o lt = let p = ranks-one x l in let q = ranks-one o l in omega arith
ranks-set (x ∷ l) (suc v) o lt = let p = ranks-one x l in let q = ranks-one x (set l v o) in let r = ranks-set l v o (omega arith) in omega arith

-- what holds of each entry still does
pub set-forced : (p : Problem) (l : List Entry) (v : ℕ) (o : Entry) → v < length l → IsForced p (look l) → ForcedAt p v o × LeftAt p v o → IsForced p (look (set l v o))
set-forced p l v o lt h k x = go (cases_eq x v)
  where
    go : (x ≡ v) ⊎ (x ≡ v → ⊥) → ForcedAt p x (look (set l v o) x) × LeftAt p x (look (set l v o) x)
    go (inl e) = subst (λ y. ForcedAt p y (look (set l v o) y) × LeftAt p y (look (set l v o) y)) (sym e) (subst (λ z. ForcedAt p v z × LeftAt p v z) (sym (look-set-same l v o lt)) k)
    go (inr ne) = subst (λ z. ForcedAt p x z × LeftAt p x z) (sym (look-set-other l v x o ne)) (h x)

-- what is open now was open before
pub open-before : (p : Problem) (v : ℕ) (e : Entry) → LeftAt p v e → is_open e ≡ true → is_open (p.before v) ≡ true
open-before p v e (inl q) h = ap is_open (sym q) ∙ h
open-before p v e (inr q) h = q.0

-- what fits the new fits the old
pub fits-put : (f : ℕ → Typ) (s s' : ℕ → Entry) (v : ℕ) (e : Entry) → Puts s s' v e → FitsAt f (f v) (s v) → Fits f s' → Fits f s
fits-put f s s' v e p k h x = go (cases_eq x v)
  where
    go : (x ≡ v) ⊎ (x ≡ v → ⊥) → FitsAt f (f x) (s x)
    go (inl i) = subst (λ y. FitsAt f (f y) (s y)) (sym i) k
    go (inr ne) = subst (FitsAt f (f x)) (p.other x ne) (h x)

-- a type for a variable in which it doesn't lie
pub may-bind : (l : List Entry) (v : ℕ) (t : Typ) → MayBind (length l) (look l) v t → ((f : ℕ → Typ) → Resolves f (aside v (look l)) → is_in v (sub f t) ≡ false) → MayPut (length l) (look l) v (bound t)
may-bind l v t b h = record { in_range = b.in_range; below = b.in_bounds; inhabited = tt; avoids = h }

pub bind-changes : (l : List Entry) (tasks : List Task) (v : ℕ) (t : Typ) → AreInhabited (look l) → look l v ≡ free (mark (look l v)) → MayBind (length l) (look l) v t → Changes l (set l v (bound t)) tasks (tasks ++ Admit (mark (look l v)) t ∷ []) (Bind v t)
bind-changes l tasks v t ih fr b =
    let e = set-puts l v (bound t) b.in_range in
    let r = ranks-set l v (bound t) b.in_range in
    let k = rank-positive (mark (look l v)) in
    let c = ap entry_rank fr in
    record {
      same = λ m f. (
        λ h.
            let p = (hold-push m f tasks (Admit (mark (look l v)) t)).0 h.1 in
            let i = put-meets m f _ _ v (bound t) e h.0 in
            let q = subst (Allows (mark (look l v)) m) (sym i) p.1 in
            (put-solves m f _ _ v (bound t) e h.0 (subst (Meets m f (f v)) (sym fr) q), p.0, i),
        λ h. (
          solves-put m f _ _ v (bound t) e h.0 h.2,
          (hold-push m f tasks (Admit (mark (look l v)) t)).1 (h.1, subst (Allows (mark (look l v)) m) h.2 (subst (Meets m f (f v)) fr (h.0 v))),
        ),
      );
      forced = λ p i j g. (
        set-forced p l v (bound t) b.in_range i (g.0, inr (open-before p v (look l v) (i v).1 b.is_open, g.1, g.2)),
        forced-push p tasks (Admit (mark (look l v)) t) j (Asks.along (mark (look l v)) (var v) t (subst (ForcedAt p v) fr (i v).0) g.0, g.2),
      );
      within = λ h. within-push (length l) tasks (Admit (mark (look l v)) t) h (at-inhabited (look l) ih v fr, b.in_bounds);
      lower = omega arith;
      fits = λ f h. (fits-put f _ _ v (bound t) e (subst (FitsAt f (f v)) (sym fr) tt) h, subst (FitsAt f (f v)) e.here (h v));
      stay = waits-front tasks (Admit (mark (look l v)) t ∷ []);
    }

pub bind-changed : (l l' : List Entry) (tasks now : List Task) (v : ℕ) (t : Typ) (j : Mark) → AreInhabited (look l) → look l v ≡ free (mark (look l v)) → MayBind (length l) (look l) v t → j ≡ mark (look l v) → l' ≡ set l v (bound t) → now ≡ tasks ++ Admit j t ∷ [] → Changes l l' tasks now (Bind v t)
bind-changed l l' tasks now v t j ih fr b p q r =
    subst (λ x. Changes l x tasks now (Bind v t)) (sym q)
    (subst (λ x. Changes l (set l v (bound t)) tasks x (Bind v t)) (sym (r ∙ ap (λ k. tasks ++ Admit k t ∷ []) p))
    (bind-changes l tasks v t ih fr b))

pub remark-changes : (l : List Entry) (tasks : List Task) (v : ℕ) (r : Mark) → Lowers (length l) (look l) v r → Changes l (set l v (free r)) tasks tasks (Remark v r)
remark-changes l tasks v r b =
    let e = set-puts l v (free r) b.in_range in
    let q = ranks-set l v (free r) b.in_range in
    let c = ap entry_rank b.is_free in
    let d = b.lower in
    record {
      same = λ m f. (
        λ h. let a = put-meets m f _ _ v (free r) e h.0 in (put-solves m f _ _ v (free r) e h.0 (subst (Meets m f (f v)) (sym b.is_free) (b.less m (f v) a)), h.1, a),
        λ h. (solves-put m f _ _ v (free r) e h.0 h.2, h.1),
      );
      forced = λ p i j g. (set-forced p l v (free r) b.in_range i (g.0, inr (open-before p v (look l v) (i v).1 (ap is_open b.is_free), g.1, tt)), j);
      within = λ h. h;
      lower = omega arith;
      fits = λ f h. (fits-put f _ _ v (free r) e (subst (FitsAt f (f v)) (sym b.is_free) tt) h, tt);
      stay = λ a c w. w;
    }

pub may-lower : (l : List Entry) (v : ℕ) (r : Mark) → Lowers (length l) (look l) v r → MayPut (length l) (look l) v (free r)
may-lower l v r b = record { in_range = b.in_range; below = tt; inhabited = b.inhabited; avoids = λ f h. tt }
