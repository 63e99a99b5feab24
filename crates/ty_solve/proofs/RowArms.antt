-- A mark on a variable that stands for a record.
use Rattle.std.proofs.Common.{◌≡◌, ℕ, suc, Bool, true, false, List, [], Some, None, ap, sym, ◌∙◌, subst, arith}
use Rattle.std.proofs.lemmas.Bool.{ltb-true}
use mathlib.Core.Logic.{inl, inr}
use Rattle.mlc_names.specs.declared.label.Label.{Label}
use Rattle.ty_table.specs.of_ty_core.Types.{Typ, var, Typs, admits}
use Rattle.ty_table.specs.of_ty_core.Marks.{IsOf}
use Rattle.ty_table.specs.of_ty_core.declared.mark.Class.{Class}
use Rattle.ty_table.specs.of_ty_core.declared.mark.Mark.{Mark}
use Rattle.ty_solve.specs.Rows.{IsProper, Extends}
use Rattle.ty_solve.specs.Substitution.{Entry, free, bound, row, Meets, sub, subs, is_below, are_below}
use Rattle.ty_solve.specs.Weight.{weight, weights}
use Rattle.ty_solve.specs.Forces.{Problem, Asks, Strict, Clashes, Met, EntryMet, LeftAt, ForcedAt, IsForced, IsForcedRow}
use Rattle.ty_solve.proofs.Sigma.{solves-fits}
use Rattle.ty_solve.specs.Tasks.{Steps, RefusesTask, IsLoose}
use Rattle.ty_solve.specs.Parts.{AdmitParts, RefusesParts}
use Rattle.ty_solve.specs.Task.{Task}
use Rattle.ty_solve.specs.Task.{Admit}
use Rattle.ty_solve.specs.Task.{Further}
use Rattle.ty_solve.specs.declared.refused.UnifyRefused.{UnifyRefused}
use Rattle.ty_solve.specs.declared.refused.UnifyRefused.TheVariants.{Clash, Circular, Large, Memory}
use Rattle.ty_solve.proofs.StepArms.{steps-write, steps-nothing}
use Rattle.ty_solve.proofs.Labels.{proper-subs, beside-at}
use Rattle.ty_solve.proofs.Extending.{extends-parts, extends-whole}

pub no-class : (m : ℕ → Bool) (c : Class) (e : Bool) (ks : List Label) (us : Typs) (t : Typ) → Extends m e ks us t → IsOf c t → ⊥
no-class m c e ks us t x h = let q = sym x.is ∙ h.is in cc

pub row-class : (s : ℕ → Entry) (x : ℕ) (c : Class) (e : Bool) (ks : List Label) (us : Typs) (t : Typ) → t ≡ var x → s x ≡ row e ks us → RefusesTask s (Admit (Mark.Class c) t) Clash
row-class s x c e ks us t p q = (
  λ m f k h. no-class m c e ks (subs f us) (f x) (subst (Meets m f (f x)) q (k x)) (subst (λ y. IsOf c (sub f y)) p h),
  λ o i h. let r : IsForcedRow o (var x) e ks us = subst (ForcedAt o x) q (i x).0 in Clashes.classed c (var x) r.is_record (subst (Asks o (Mark.Class c)) p h.0),
)

-- what an entry tells of a variable that is met
pub entry-met : (p : Problem) (s : ℕ → Entry) (v : ℕ) → IsForced p s → Met p (var v) → EntryMet p (s v)
entry-met p s v i m = go (i v).1
  where
    old : (e : Entry) → p.before v ≡ e → EntryMet p e
    old (free k) q = tt
    old (bound t) q = Met.stands v t m q
    old (row e ks us) q = λ l u a. Met.field v e ks us l u m q a

    go : LeftAt p v (s v) → EntryMet p (s v)
    go (inl q) = old (s v) (sym q)
    go (inr q) = q.2

pub row-parts : (n : ℕ) (s : ℕ → Entry) (w : ℕ → ℕ) (old new : List Task) (x : ℕ) (ks : List Label) (us : Typs) (t : Typ) → t ≡ var x → s x ≡ row true ks us → IsProper ks us → are_below n us ≡ true → w x ≡ suc (suc (weights w us)) → AdmitParts n s w old new us → Steps n s w old (Admit Mark.Equality t) new None
row-parts n s w old new x ks us t p q pr b h a =
    let a1 = a.lighter in
    let p1 = ap (weight w) p in
    record {
      same = λ m f k.
          let e : Extends m true ks (subs f us) (f x) = subst (Meets m f (f x)) q (k x) in (
            λ y. ((a.same m f (solves-fits m s f k)).1 (y.0, extends-parts m true ks (subs f us) (f x) e (proper-subs f ks us pr) (subst (λ z. admits m (sub f z) ≡ true) p y.1)), tt),
            λ y. let z = (a.same m f (solves-fits m s f k)).0 y.0 in (z.0, subst (λ z. admits m (sub f z) ≡ true) (sym p) (extends-whole m ks (subs f us) (f x) e (proper-subs f ks us pr) z.1)),
          );
      forced = λ o i j r. (
        a.forced o i j (λ y g.
            let c = beside-at y y ks us us pr g in
            let d : IsForcedRow o (var x) true ks us = subst (ForcedAt o x) q (i x).0 in
            let z : EntryMet o (row true ks us) = subst (EntryMet o) q (entry-met o s x i (subst (Met o) p r.1)) in
            (Asks.rest [] (var x) c.0 y (Strict.whole (var x) [] (subst (Asks o Mark.Equality) p r.0)) (d.has c.0 y c.1) (λ z. z), z c.0 y c.1)),
        tt,
      );
      within = λ j y. a.within j b;
      lighter = omega arith;
      fit = λ r. tt;
    }

-- a field that never admits equality
pub row-parts-clash : (s : ℕ → Entry) (x : ℕ) (ks : List Label) (us : Typs) → s x ≡ row true ks us → IsProper ks us → (e : UnifyRefused) → RefusesParts s us e → RefusesTask s (Admit Mark.Equality (var x)) e
row-parts-clash s x ks us q pr Clash h = (
  λ m f k y. let e : Extends m true ks (subs f us) (f x) = subst (Meets m f (f x)) q (k x) in h.0 m f (solves-fits m s f k) (extends-parts m true ks (subs f us) (f x) e (proper-subs f ks us pr) y),
  λ o i r. h.1 o i (λ y g.
      let c = beside-at y y ks us us pr g in
      let d : IsForcedRow o (var x) true ks us = subst (ForcedAt o x) q (i x).0 in
      let z : EntryMet o (row true ks us) = subst (EntryMet o) q (entry-met o s x i r.1) in
      (Asks.rest [] (var x) c.0 y (Strict.whole (var x) [] r.0) (d.has c.0 y c.1) (λ z. z), z c.0 y c.1)),
)
row-parts-clash s x ks us q pr Circular h = absurd h
row-parts-clash s x ks us q pr Large h = absurd h
row-parts-clash s x ks us q pr Memory h = tt

pub row-further : (n : ℕ) (s : ℕ → Entry) (w : ℕ → ℕ) (old : List Task) (x : ℕ) (ks : List Label) (us : Typs) (t : Typ) → t ≡ var x → s x ≡ row false ks us → Steps n s w old (Admit Mark.Equality t) old (Some (Further x))
row-further n s w old x ks us t p q = steps-write n s w old (Admit Mark.Equality t) (Further x)
    (λ m f k. (λ a. subst (λ z. admits m (sub f z) ≡ true) p a, λ a. subst (λ z. admits m (sub f z) ≡ true) (sym p) a))
    (λ o i a. (subst (Asks o Mark.Equality) p a.0, subst (Met o) p a.1))
    (λ a. record {
      in_range = ltb-true x n (subst (λ z. is_below n z ≡ true) p a.1);
      loose = subst IsLoose (sym q) tt;
    })

-- the flag of a row
pub row-flag : (b : Entry) (d e : Bool) (ks : List Label) (us : Typs) → b ≡ row d ks us → d ≡ e → b ≡ row e ks us
row-flag b d e ks us p q = p ∙ ap (λ y. row y ks us) q

pub any-steps : (n : ℕ) (s : ℕ → Entry) (w : ℕ → ℕ) (old : List Task) (t : Typ) → Steps n s w old (Admit Mark.Any t) old None
any-steps n s w old t = steps-nothing n s w old (Admit Mark.Any t) (λ m f k. tt)
