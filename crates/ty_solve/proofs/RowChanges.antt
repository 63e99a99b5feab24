-- Changes to what a row stands for.
use Rattle.std.proofs.Common.{◌≡◌, ◌<◌, ℕ, Bool, true, false, List, [], Some, length, set, ap, sym, ◌∙◌, subst, refl, arith}
use Rattle.std.proofs.lemmas.List.{length-set}
use mathlib.Core.Logic.{inr}
use Rattle.mlc_names.specs.declared.label.Label.{Label}
use Rattle.ty_table.specs.of_ty_core.Types.{Typ, var, con, Typs}
use Rattle.ty_solve.specs.Rows.{IsProper, Extends}
use Rattle.ty_solve.specs.Substitution.{Entry, free, bound, row, is_open, Meets, Solves, Fits, FitsAt, Resolves, aside, sub, subs, are_in, is_below}
use Rattle.ty_solve.specs.SlotsOf.{look, row_of}
use Rattle.ty_solve.specs.Weight.{InhabitedAt, AreInhabited, BelowAt, AreBelow, IsAcyclic}
use Rattle.ty_solve.specs.Finding.{IsWalked}
use Rattle.ty_solve.specs.Forces.{Problem, Forces, Has, Records, Asks, Strict, EntryMet, ForcedAt, IsForced, IsForcedRow, IsDue}
use Rattle.ty_solve.specs.Tasks.{AreWithin, IsForcedWrite, MayPut, Binds as MayBind, IsLoose, Narrows}
use Rattle.ty_solve.specs.Changes.{Changes, Demands, RefusesRow, RefusesWrite, IsFitRow, row_rank, entry_rank}
use Rattle.ty_solve.specs.Fields.{Joins, IsBase, Closes}
use Rattle.ty_solve.specs.Parts.{AdmitParts, RefusesParts}
use Rattle.ty_solve.specs.Rows.{Known}
use Rattle.ty_solve.specs.Task.{Task}
use Rattle.ty_solve.specs.Task.{Bind, Further}
use Rattle.ty_solve.specs.declared.refused.UnifyRefused.{UnifyRefused}
use Rattle.ty_solve.specs.declared.refused.UnifyRefused.TheVariants.{Clash, Circular, Large, Memory}
use Rattle.ty_solve.proofs.Binding.{Puts, solves-put, put-solves, put-meets}
use Rattle.ty_solve.proofs.Look.{look-set-other}
use Rattle.ty_solve.proofs.Setting.{set-puts}
use Rattle.ty_solve.proofs.Changing.{ranks-set, set-forced, open-before, fits-put}
use Rattle.ty_solve.proofs.Sigma.{solves-fits}
use Rattle.ty_solve.proofs.RowArms.{entry-met}
use Rattle.ty_solve.proofs.Circular.{circular-row}
use Rattle.ty_solve.proofs.Labels.{proper-subs, beside-at}
use Rattle.ty_solve.proofs.Extending.{extends-parts, extends-strict, extends-whole, extends-loose}

-- what is forced of a type is forced of one that is forced to be equal
pub row-along : (p : Problem) (t u : Typ) (e : Bool) (ks : List Label) (us : Typs) → IsForcedRow p t e ks us → Forces p t u → IsForcedRow p u e ks us
row-along p t u e ks us h g = record {
  is_record = Records.along t u h.is_record g;
  has = λ l x a. Has.carried t u l x (h.has l x a) g;
  strict = λ i. Strict.passed t u ks (h.strict i) g;
}

rank-row : (e : Bool) → 0 < row_rank e
rank-row true = omega arith
rank-row false = omega arith

module _ (l : List Entry) (v : ℕ) (t : Typ) (r : Known) (b : MayBind (length l) (look l) v t) (q : look l v ≡ row_of r) where
  abbrev mid : List Entry
  mid = set l v (bound t)

  puts : Puts (look l) (look (set l v (bound t))) v (bound t)
  puts = set-puts l v (bound t) b.in_range

  bound-solves : (m : ℕ → Bool) (f : ℕ → Typ) → Solves m f (look l) → f v ≡ sub f t → Solves m f (look (set l v (bound t))) × Extends m r.equality r.labels (subs f r.types) (sub f t)
  bound-solves m f h e = (
    solves-put m f _ _ v (bound t) puts h e,
    subst (Extends m r.equality r.labels (subs f r.types)) e (subst (Meets m f (f v)) q (h v)),
  )

  bound-forced : (p : Problem) → IsForced p (look l) → IsForcedWrite p (Some (Bind v t)) → IsForced p (look (set l v (bound t))) × IsDue p t r
  bound-forced p i g = (
    set-forced p l v (bound t) b.in_range i (g.0, inr (open-before p v (look l v) (i v).1 b.is_open, g.1, g.2)),
    record {
      row = row-along p (var v) t r.equality r.labels r.types (subst (ForcedAt p v) q (i v).0) g.0;
      here = g.2;
      fields = subst (EntryMet p) q (entry-met p (look l) v i g.1);
    },
  )

  pub row-changes : (new : List Entry) (tasks now : List Task) → Demands (set l v (bound t)) new tasks now r t → Changes l new tasks now (Bind v t)
  row-changes new tasks now d =
      let k = ranks-set l v (bound t) b.in_range in
      let c = ap entry_rank q in
      let j = rank-row r.equality in
      let w = d.lower in
      record {
        same = λ m f. (
          λ h.
              let x = (d.same m f).0 h in
              let e = put-meets m f _ _ v (bound t) puts x.0 in
              (put-solves m f _ _ v (bound t) puts x.0 (subst (Meets m f (f v)) (sym q) (subst (Extends m r.equality r.labels (subs f r.types)) (sym e) x.2)), x.1, e),
          λ h. let x = bound-solves m f h.0 h.2 in (d.same m f).1 (x.0, h.1, x.1),
        );
        forced = λ p i j g. let x = bound-forced p i g in d.forced p x.0 j x.1;
        within = λ h. subst (λ n. AreWithin n now) (length-set l v (bound t)) (d.within (subst (λ n. AreWithin n tasks) (sym (length-set l v (bound t))) h));
        lower = omega arith;
        fits = λ f h.
            let z = d.fits f h in
            (fits-put f _ _ v (bound t) puts (subst (FitsAt f (f v)) (sym q) tt) z, subst (FitsAt f (f v)) puts.here (z v));
        stay = d.stay;
      }

  pub row-refused : (e : UnifyRefused) → RefusesRow (look (set l v (bound t))) r t e → RefusesWrite (look l) (Bind v t) e
  row-refused Clash h = (λ m f i e. let x = bound-solves m f i e in h.0 m f x.0 x.1, λ p i g. let x = bound-forced p i g in h.1 p x.0 x.1)
  row-refused Circular h = (λ m f i e. let x = bound-solves m f i e in h.0 m f x.0 x.1, λ p i g. let x = bound-forced p i g in h.1 p x.0 x.1)
  row-refused Large h = h
  row-refused Memory h = tt

-- what was no bound variable still is none
pub still-walked : (l : List Entry) (v : ℕ) (o : Entry) (t : Typ) → IsWalked (look l) t → (t ≡ var v → ⊥) → IsWalked (look (set l v o)) t
still-walked l v o (var x) w ne = subst (λ e. is_open e ≡ true) (sym (look-set-other l v x o (λ e. ne (ap var e)))) w
still-walked l v o (con c ts) w ne = tt

pub row-fit : (n : ℕ) (s : ℕ → Entry) (v : ℕ) (r : Known) → AreBelow n s → AreInhabited s → s v ≡ row_of r → IsFitRow n r
row-fit n s v r b i q = record { below = subst (BelowAt n) q (b v); proper = subst InhabitedAt q (i v) }

-- the further fields admit equality from now on
pub narrow-changes : (l : List Entry) (w : ℕ → ℕ) (tasks now : List Task) (v : ℕ) (r : Known) → AreInhabited (look l) → AreBelow (length l) (look l) → Narrows (length l) (look l) v → look l v ≡ row_of r → AdmitParts (length l) (look l) w tasks now r.types → Changes l (set l v (row true r.labels r.types)) tasks now (Further v)
narrow-changes l w tasks now v r inh bel b q a = go r.equality refl
  where
    proper : IsProper r.labels r.types
    proper = subst InhabitedAt q (inh v)

    e : Puts (look l) (look (set l v (row true r.labels r.types))) v (row true r.labels r.types)
    e = set-puts l v (row true r.labels r.types) b.in_range

    go : (d : Bool) → r.equality ≡ d → Changes l (set l v (row true r.labels r.types)) tasks now (Further v)
    go true i = absurd (subst IsLoose (q ∙ ap (λ y. row y r.labels r.types) i) b.loose)
    go false i =
        let was : look l v ≡ row false r.labels r.types = q ∙ ap (λ y. row y r.labels r.types) i in
        let k = ranks-set l v (row true r.labels r.types) b.in_range in
        let c = ap entry_rank was in
        let fits-old : (f : ℕ → Typ) → Fits f (look (set l v (row true r.labels r.types))) → Fits f (look l) = λ f h. fits-put f _ _ v (row true r.labels r.types) e (subst (FitsAt f (f v)) (sym was) tt) h in
        record {
          same = λ m f. (
            λ h.
                let x : Extends m true r.labels (subs f r.types) (f v) = put-meets m f _ _ v (row true r.labels r.types) e h.0 in
                let z = (a.same m f (fits-old f (solves-fits m _ f h.0))).0 h.1 in
                (put-solves m f _ _ v (row true r.labels r.types) e h.0 (subst (Meets m f (f v)) (sym was) (extends-loose m _ _ _ x)), z.0, extends-whole m _ _ _ x (proper-subs f _ _ proper) z.1),
            λ h.
                let x : Extends m false r.labels (subs f r.types) (f v) = subst (Meets m f (f v)) was (h.0 v) in
                (solves-put m f _ _ v (row true r.labels r.types) e h.0 (extends-strict m false _ _ _ x h.2), (a.same m f (solves-fits m _ f h.0)).1 (h.1, extends-parts m false _ _ _ x (proper-subs f _ _ proper) h.2)),
          );
          forced = λ p w t g.
              let x : IsForcedRow p (var v) false r.labels r.types = subst (ForcedAt p v) was (w v).0 in
              let z : EntryMet p (row false r.labels r.types) = subst (EntryMet p) was (entry-met p (look l) v w g.1) in (
                set-forced p l v (row true r.labels r.types) b.in_range w (record { is_record = x.is_record; has = x.has; strict = λ z. Strict.whole (var v) r.labels g.0 }, inr (open-before p v (look l v) (w v).1 (ap is_open was), g.1, z)),
                a.forced p w t (λ y h. let d = beside-at y y r.labels r.types r.types proper h in (Asks.rest [] (var v) d.0 y (Strict.whole (var v) [] g.0) (x.has d.0 y d.1) (λ z. z), z d.0 y d.1)),
              );
          within = λ h. a.within h (subst (BelowAt (length l)) was (bel v));
          lower = omega arith;
          fits = λ f h. (fits-old f h, tt);
          stay = a.stay;
        }

-- a field that never admits equality
pub narrow-refused : (s : ℕ → Entry) (v : ℕ) (r : Known) → AreInhabited s → s v ≡ row_of r → (c : UnifyRefused) → RefusesParts s r.types c → RefusesWrite s (Further v) c
narrow-refused s v r inh q Clash h =
    let proper : IsProper r.labels r.types = subst InhabitedAt q (inh v) in (
      λ m f k y. let x : Extends m r.equality r.labels (subs f r.types) (f v) = subst (Meets m f (f v)) q (k v) in h.0 m f (solves-fits m s f k) (extends-parts m r.equality _ _ _ x (proper-subs f _ _ proper) y),
      λ p i g. h.1 p i (λ y a.
          let x : IsForcedRow p (var v) r.equality r.labels r.types = subst (ForcedAt p v) q (i v).0 in
          let z : EntryMet p (row_of r) = subst (EntryMet p) q (entry-met p s v i g.1) in
          let d = beside-at y y r.labels r.types r.types proper a in
          (Asks.rest [] (var v) d.0 y (Strict.whole (var v) [] g.0) (x.has d.0 y d.1) (λ z. z), z d.0 y d.1)),
    )
narrow-refused s v r inh q Circular h = absurd h
narrow-refused s v r inh q Large h = absurd h
narrow-refused s v r inh q Memory h = tt

fits-open : (f : ℕ → Typ) (t : Typ) (e : Entry) → is_open e ≡ true → FitsAt f t e
fits-open f t (free k) o = tt
fits-open f t (bound u) o = cc
fits-open f t (row e ks us) o = tt

-- an open variable gets the fields of a row
module _ (l : List Entry) (tasks now : List Task) (y : ℕ) (base r joined : Known) (lt : y < length l) (o : is_open (look l y) ≡ true) (b : IsBase (length l) (look l) y base) (fit : IsFitRow (length l) r) (j : Joins tasks now base r joined) where
  pub joined-fit : IsFitRow (length l) joined
  joined-fit = j.fit (length l) b.fit fit

  e : Puts (look l) (look (set l y (row_of joined))) y (row_of joined)
  e = set-puts l y (row_of joined) lt

  pub extend-demands : Demands l (set l y (row_of joined)) tasks now r (var y)
  extend-demands =
      let k = ranks-set l y (row_of joined) lt in
      let c = j.lower in
      let d = b.lower in
      record {
        same = λ m f. (
          λ h.
              let x = (j.same m f (f y)).0 (h.1, put-meets m f _ _ y (row_of joined) e h.0) in
              (put-solves m f _ _ y (row_of joined) e h.0 ((b.same m f (f y) _ _ _ x.2).1 x.1), x.0, x.2),
          λ h.
              let x = (j.same m f (f y)).1 (h.1, (b.same m f (f y) _ _ _ h.2).0 (h.0 y), h.2) in
              (solves-put m f _ _ y (row_of joined) e h.0 x.1, x.0),
        );
        forced = λ p i t g.
            let z = entry-met p (look l) y i g.here in
            let x = j.forced p (var y) t (b.forced p g.row.is_record g.here (i y).0 z) g in
            (set-forced p l y (row_of joined) lt i (x.1.row, inr (open-before p y (look l y) (i y).1 o, g.here, x.1.fields)), x.0);
        within = λ h. j.within (length l) h b.fit fit;
        lower = omega arith;
        fits = λ f h. fits-put f _ _ y (row_of joined) e (fits-open f (f y) (look l y) o) h;
        stay = j.stay;
      }

  pub may-extend : ((f : ℕ → Typ) → Resolves f (aside y (look l)) → false ≡ are_in y (subs f joined.types)) → MayPut (length l) (look l) y (row_of joined)
  may-extend h = record { in_range = lt; below = joined-fit.below; inhabited = joined-fit.proper; avoids = λ f i. sym (h f i) }

  pub extend-circular : IsAcyclic (look l) → AreInhabited (look l) → ((f : ℕ → Typ) → Resolves f (aside y (look l)) → true ≡ are_in y (subs f joined.types)) → RefusesRow (look l) r (var y) Circular
  extend-circular a inh h =
      let c = circular-row (look l) a inh y joined.labels joined.types joined-fit.proper h in (
        λ m f i x. c.0 m f joined.equality i (j.all m f (f y) ((b.same m f (f y) _ _ _ x).0 (i y)) x),
        λ p i g. c.1 p joined.equality i (j.all_forced p (var y) (b.forced p g.row.is_record g.here (i y).0 (entry-met p (look l) y i g.here)).row g.row),
      )

-- a type that is no variable
pub close-demands : (l : List Entry) (tasks now : List Task) (r : Known) (t : Typ) → IsFitRow (length l) r → is_below (length l) t ≡ true → Closes tasks now r t → Demands l l tasks now r t
close-demands l tasks now r t fit b c = record {
  same = λ m f. (λ h. let x = (c.same m f).0 h.1 in (h.0, x.0, x.1), λ h. (h.0, (c.same m f).1 (h.1, h.2)));
  forced = λ p i j g. (i, c.forced p j g);
  within = λ h. c.within (length l) h fit.below b;
  lower = omega arith;
  fits = λ f h. h;
  stay = c.stay;
}
