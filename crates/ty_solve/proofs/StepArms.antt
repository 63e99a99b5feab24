-- What each kind of step comes to.
use Rattle.std.proofs.Common.{◌≡◌, ◌≢◌, ◌<◌, ◌↔◌, ℕ, suc, ◌+◌, Bool, true, List, [], ◌∷◌, ◌++◌, Option, Some, None, Result, Ok, Err, IfOk, IfErr, length, ap, ap₂, sym, ◌∙◌, subst, refl, arith}
use Rattle.ty_table.specs.of_ty_core.Types.{Typ, var, con, Typs, none, more, Symbol, attribute, allowed, admits, all_admit}
use Rattle.ty_table.specs.of_ty_core.declared.name.Equality.TheVariants.{Always, ByArguments, Never}
use Rattle.ty_table.specs.of_ty_core.declared.mark.Class.{Class}
use Rattle.ty_table.specs.of_ty_core.Marks.{Allows, IsOf, IsMeet, is_inhabited, rank_of}
use Rattle.ty_table.specs.of_ty_core.declared.mark.Mark.{Mark}
use Rattle.ty_solve.specs.Substitution.{Entry, free, Meets, mark, Solves, sub, subs, is_below}
use Rattle.ty_solve.specs.Weight.{weight}
use Rattle.ty_solve.specs.Finding.{Reads, IsWalked}
use Rattle.ty_solve.specs.Forces.{Problem, Forces, Asks, Met, Clashes, ForcedAt, IsForced, count}
use Rattle.ty_solve.specs.Tasks.{Holds, AllHold, Does, IsForcedTask, AreForced, IsForcedWrite, IsWithin, AreWithin, burden, burdens, Fit, Steps, RefusesTask}
use Rattle.ty_solve.specs.Task.{Task}
use Rattle.ty_solve.specs.Task.{Equal, Admit}
use Rattle.ty_solve.specs.Task.{Write}
use Rattle.ty_solve.specs.Task.{Bind, Remark}
use Rattle.std.proofs.lemmas.Bool.{ltb-true}
use Rattle.ty_solve.specs.declared.refused.UnifyRefused.{UnifyRefused}
use Rattle.ty_solve.specs.declared.refused.UnifyRefused.TheVariants.{Clash, Circular, Large, Memory}
use Rattle.ty_solve.specs.Parts.{EqualParts, AdmitParts, RefusesParts}
use Rattle.ty_solve.proofs.Sigma.{solves-fits}
use Rattle.ty_solve.proofs.Subs.{parts_of}
use Rattle.ty_solve.proofs.Lists.{all}

pub weight-positive : (w : ℕ → ℕ) (t : Typ) → 0 < weight w t
weight-positive w (var v) = omega arith
weight-positive w (con c ts) = omega arith

pub burden-positive : (w : ℕ → ℕ) (x : Task) → 0 < burden w x
burden-positive w (Equal a b) = let p = weight-positive w a in omega arith
burden-positive w (Admit k t) = weight-positive w t

-- lists of tasks, the last one put on
pub hold-push : (m : ℕ → Bool) (f : ℕ → Typ) (l : List Task) (x : Task) → AllHold m f (l ++ x ∷ []) ↔ (AllHold m f l × Holds m f x)
hold-push m f [] x = (λ h. (tt, h.0), λ h. (h.1, tt))
hold-push m f (y ∷ l) x = (λ h. let p = (hold-push m f l x).0 h.1 in ((h.0, p.0), p.1), λ h. (h.0.0, (hold-push m f l x).1 (h.0.1, h.1)))

pub forced-push : (p : Problem) (l : List Task) (x : Task) → AreForced p l → IsForcedTask p x → AreForced p (l ++ x ∷ [])
forced-push p [] x h k = (k, tt)
forced-push p (y ∷ l) x h k = (h.0, forced-push p l x h.1 k)

pub forced-pop : (p : Problem) (l : List Task) (x : Task) → AreForced p (l ++ x ∷ []) → AreForced p l × IsForcedTask p x
forced-pop p [] x h = (tt, h.0)
forced-pop p (y ∷ l) x h = let q = forced-pop p l x h.1 in ((h.0, q.0), q.1)

pub within-push : (n : ℕ) (l : List Task) (x : Task) → AreWithin n l → IsWithin n x → AreWithin n (l ++ x ∷ [])
within-push n [] x h k = (k, tt)
within-push n (y ∷ l) x h k = (h.0, within-push n l x h.1 k)

pub within-pop : (n : ℕ) (l : List Task) (x : Task) → AreWithin n (l ++ x ∷ []) → AreWithin n l × IsWithin n x
within-pop n [] x h = (tt, h.0)
within-pop n (y ∷ l) x h = let q = within-pop n l x h.1 in ((h.0, q.0), q.1)

pub burdens-push : (w : ℕ → ℕ) (l : List Task) (x : Task) → burdens w (l ++ x ∷ []) ≡ burdens w l + burden w x
burdens-push w [] x = omega arith
burdens-push w (y ∷ l) x = let p = burdens-push w l x in omega arith

-- a task that every solution meets
pub steps-nothing : (n : ℕ) (s : ℕ → Entry) (w : ℕ → ℕ) (old : List Task) (task : Task) → ((m : ℕ → Bool) (f : ℕ → Typ) → Solves m f s → Holds m f task) → Steps n s w old task old None
steps-nothing n s w old task h = let p = burden-positive w task in record {
  same = λ m f k. (λ q. (q.0, tt), λ q. (q.0, h m f k));
  forced = λ p i q r. (q, tt);
  within = λ q r. q;
  lighter = omega arith;
  fit = λ r. tt;
}

-- two types that are equal where the other tasks hold
pub steps-compared : (n : ℕ) (s : ℕ → Entry) (w : ℕ → ℕ) (old : List Task) (a b : Typ) → ((m : ℕ → Bool) (f : ℕ → Typ) → Solves m f s → AllHold m f old → sub f a ≡ sub f b) → Steps n s w old (Equal a b) old None
steps-compared n s w old a b h = let p = burden-positive w (Equal a b) in record {
  same = λ m f k. (λ q. (q.0, tt), λ q. (q.0, h m f k q.0));
  forced = λ p i q r. (q, tt);
  within = λ q r. q;
  lighter = omega arith;
  fit = λ r. tt;
}

-- a task that is one change
pub steps-write : (n : ℕ) (s : ℕ → Entry) (w : ℕ → ℕ) (old : List Task) (task : Task) (x : Write) → ((m : ℕ → Bool) (f : ℕ → Typ) → Solves m f s → Holds m f task ↔ Does m f (Some x)) → ((p : Problem) → IsForced p s → IsForcedTask p task → IsForcedWrite p (Some x)) → (IsWithin n task → Fit n s (Some x)) → Steps n s w old task old (Some x)
steps-write n s w old task x h g fit = let p = burden-positive w task in record {
  same = λ m f k. (λ q. (q.0, (h m f k).0 q.1), λ q. (q.0, (h m f k).1 q.1));
  forced = λ p i q r. (q, g p i r);
  within = λ q r. q;
  lighter = omega arith;
  fit = fit;
}

forced-along : (n : ℕ) (s : ℕ → Entry) (w : ℕ → ℕ) (a b c d : Typ) → Reads n s w a c → Reads n s w b d → (o : Problem) → IsForced o s → IsForcedTask o (Equal a b) → IsForcedTask o (Equal c d)
forced-along n s w a b c d p q o i r = (Forces.along _ _ _ (Forces.back _ _ (p.forced o i)) (Forces.along _ _ _ r.0 (q.forced o i)), p.met o i r.1, q.met o i r.2)

-- the same of two types that read as these
pub steps-along : (n : ℕ) (s : ℕ → Entry) (w : ℕ → ℕ) (old new : List Task) (x : Option Write) (a b c d : Typ) → Reads n s w a c → Reads n s w b d → Steps n s w old (Equal c d) new x → Steps n s w old (Equal a b) new x
steps-along n s w old new x a b c d p q h =
    let l = h.lighter in let pl = p.lighter in let ql = q.lighter in
    record {
      same = λ m f k. (
        λ e. (h.same m f k).0 (e.0, sym (p.same f (solves-fits m s f k)) ∙ e.1 ∙ q.same f (solves-fits m s f k)),
        λ e. let r = (h.same m f k).1 e in (r.0, p.same f (solves-fits m s f k) ∙ r.1 ∙ sym (q.same f (solves-fits m s f k))),
      );
      forced = λ o i j r. h.forced o i j (forced-along n s w a b c d p q o i r);
      within = λ i j. h.within i (p.in_bounds j.0, q.in_bounds j.1);
      lighter = omega arith;
      fit = λ j. h.fit (p.in_bounds j.0, q.in_bounds j.1);
    }

pub refuses-along : (n : ℕ) (s : ℕ → Entry) (w : ℕ → ℕ) (a b c d : Typ) → Reads n s w a c → Reads n s w b d → (e : UnifyRefused) → RefusesTask s (Equal c d) e → RefusesTask s (Equal a b) e
refuses-along n s w a b c d p q Clash h = (λ m f k e. h.0 m f k (sym (p.same f (solves-fits m s f k)) ∙ e ∙ q.same f (solves-fits m s f k)), λ o i r. h.1 o i (forced-along n s w a b c d p q o i r))
refuses-along n s w a b c d p q Circular h = (λ m f k e. h.0 m f k (sym (p.same f (solves-fits m s f k)) ∙ e ∙ q.same f (solves-fits m s f k)), λ o i r. h.1 o i (forced-along n s w a b c d p q o i r))
refuses-along n s w a b c d p q Large h = h
refuses-along n s w a b c d p q Memory h = tt

-- the same of a mark on a type that reads as this
pub steps-admit-along : (n : ℕ) (s : ℕ → Entry) (w : ℕ → ℕ) (old new : List Task) (x : Option Write) (k : Mark) (a c : Typ) → Reads n s w a c → Steps n s w old (Admit k c) new x → Steps n s w old (Admit k a) new x
steps-admit-along n s w old new x k a c p h =
    let l = h.lighter in let pl = p.lighter in
    record {
      same = λ m f i. (
        λ e. (h.same m f i).0 (e.0, subst (Allows k m) (p.same f (solves-fits m s f i)) e.1),
        λ e. let r = (h.same m f i).1 e in (r.0, subst (Allows k m) (sym (p.same f (solves-fits m s f i))) r.1),
      );
      forced = λ o i j r. h.forced o i j (Asks.along _ _ _ r.0 (p.forced o i), p.met o i r.1);
      within = λ i j. h.within i (j.0, p.in_bounds j.1);
      lighter = omega arith;
      fit = λ j. h.fit (j.0, p.in_bounds j.1);
    }

pub refuses-admit-along : (n : ℕ) (s : ℕ → Entry) (w : ℕ → ℕ) (k : Mark) (a c : Typ) → Reads n s w a c → (e : UnifyRefused) → RefusesTask s (Admit k c) e → RefusesTask s (Admit k a) e
refuses-admit-along n s w k a c p Clash h = (λ m f i e. h.0 m f i (subst (Allows k m) (p.same f (solves-fits m s f i)) e), λ o i r. h.1 o i (Asks.along _ _ _ r.0 (p.forced o i), p.met o i r.1))
refuses-admit-along n s w k a c p Circular h = (λ m f i e. h.0 m f i (subst (Allows k m) (p.same f (solves-fits m s f i)) e), λ o i r. h.1 o i (Asks.along _ _ _ r.0 (p.forced o i), p.met o i r.1))
refuses-admit-along n s w k a c p Large h = h
refuses-admit-along n s w k a c p Memory h = tt

pub count-all : (l : List Typ) → count (all l) ≡ length l
count-all [] = refl
count-all (x ∷ l) = ap suc (count-all l)

count-subs : (f : ℕ → Typ) (ts : Typs) → count (subs f ts) ≡ count ts
count-subs f none = refl
count-subs f (more t ts) = ap suc (count-subs f ts)

-- two types that are no variables
pub heads-clash : (s : ℕ → Entry) (h g : Symbol) (ts us : Typs) (a b : Typ) → a ≡ con h ts → b ≡ con g us → (h ≡ g → ⊥) → RefusesTask s (Equal a b) Clash
heads-clash s h g ts us a b p q ne = (λ m f k e. let r = sym (ap (sub f) p) ∙ e ∙ ap (sub f) q in ne (cc), λ o i r. Clashes.heads h g ts us (subst (λ x. Forces o (con h ts) x) q (subst (λ x. Forces o x b) p r.0)) ne)

pub counts-clash : (s : ℕ → Entry) (h g : Symbol) (l r : List Typ) (a b : Typ) → a ≡ con h (all l) → b ≡ con g (all r) → (length l ≡ length r → ⊥) → RefusesTask s (Equal a b) Clash
counts-clash s h g l r a b p q ne = (
  λ m f k e. let x = ap parts_of (sym (ap (sub f) p) ∙ e ∙ ap (sub f) q) in ne (sym (count-subs f (all l) ∙ count-all l) ∙ ap count x ∙ count-subs f (all r) ∙ count-all r),
  λ o i x. Clashes.counts h g (all l) (all r) (subst (λ y. Forces o (con h (all l)) y) q (subst (λ y. Forces o y b) p x.0)) (λ e. ne (sym (count-all l) ∙ e ∙ count-all r)),
)

pub parts-steps : (n : ℕ) (s : ℕ → Entry) (w : ℕ → ℕ) (old new : List Task) (h g : Symbol) (ts us : Typs) (a b : Typ) → a ≡ con h ts → b ≡ con g us → h ≡ g → EqualParts old new ts us → Steps n s w old (Equal a b) new None
parts-steps n s w old new h g ts us a b p q e x =
    let x1 = x.burden_is w in
    let p1 = ap (weight w) p in
    let q1 = ap (weight w) q in
    record {
      same = λ m f k. (
        λ y. ((x.same m f).1 (y.0, ap parts_of (sym (ap (sub f) p) ∙ y.1 ∙ ap (sub f) q)), tt),
        λ y. let z = (x.same m f).0 y.0 in (z.0, ap (sub f) p ∙ ap₂ con e z.1 ∙ sym (ap (sub f) q)),
      );
      forced = λ o i j r. (x.forced o h j (subst (λ y. Forces o (con h ts) (con y us)) (sym e) (subst (λ y. Forces o (con h ts) y) q (subst (λ y. Forces o y b) p r.0))) (subst (Met o) p r.1) (subst (λ y. Met o (con y us)) (sym e) (subst (Met o) q r.2)), tt);
      within = λ j y. x.within n j (subst (λ z. is_below n z ≡ true) p y.0) (subst (λ z. is_below n z ≡ true) q y.1);
      lighter = omega arith;
      fit = λ r. tt;
    }

-- a mark on a type that is no variable
pub never-clash : (s : ℕ → Entry) (h : Symbol) (ts : Typs) (t : Typ) → t ≡ con h ts → Never ≡ attribute h → RefusesTask s (Admit Mark.Equality t) Clash
never-clash s h ts t p e = (
  λ m f k x. let y = subst (λ z. admits m (sub f z) ≡ true) p x in let z = subst (λ q. allowed q (all_admit m (subs f ts)) ≡ true) (sym e) y in cc,
  λ o i x. Clashes.never h ts (subst (Asks o Mark.Equality) p x.0) (sym e),
)

pub always-steps : (n : ℕ) (s : ℕ → Entry) (w : ℕ → ℕ) (old : List Task) (h : Symbol) (ts : Typs) (t : Typ) → t ≡ con h ts → Always ≡ attribute h → Steps n s w old (Admit Mark.Equality t) old None
always-steps n s w old h ts t p e = steps-nothing n s w old (Admit Mark.Equality t) (λ m f k. subst (λ z. admits m (sub f z) ≡ true) (sym p) (subst (λ q. allowed q (all_admit m (subs f ts)) ≡ true) e refl))

pub arguments-steps : (n : ℕ) (s : ℕ → Entry) (w : ℕ → ℕ) (old new : List Task) (h : Symbol) (ts : Typs) (t : Typ) → t ≡ con h ts → ByArguments ≡ attribute h → AdmitParts n s w old new ts → Steps n s w old (Admit Mark.Equality t) new None
arguments-steps n s w old new h ts t p e x =
    let x1 = x.lighter in
    let p1 = ap (weight w) p in
    record {
      same = λ m f k. (
        λ y. ((x.same m f (solves-fits m s f k)).1 (y.0, subst (λ q. allowed q (all_admit m (subs f ts)) ≡ true) (sym e) (subst (λ z. admits m (sub f z) ≡ true) p y.1)), tt),
        λ y. let z = (x.same m f (solves-fits m s f k)).0 y.0 in (z.0, subst (λ z. admits m (sub f z) ≡ true) (sym p) (subst (λ q. allowed q (all_admit m (subs f ts)) ≡ true) e z.1)),
      );
      forced = λ o i j r. (x.forced o i j (λ y b. (Asks.part h ts y (subst (Asks o Mark.Equality) p r.0) (sym e) b, Met.part h ts y (subst (Met o) p r.1) b)), tt);
      within = λ j y. x.within j (subst (λ z. is_below n z ≡ true) p y.1);
      lighter = omega arith;
      fit = λ r. tt;
    }

-- a part that never admits equality
pub arguments-clash : (s : ℕ → Entry) (h : Symbol) (ts : Typs) (t : Typ) → t ≡ con h ts → ByArguments ≡ attribute h → (e : UnifyRefused) → RefusesParts s ts e → RefusesTask s (Admit Mark.Equality t) e
arguments-clash s h ts t p e Clash x = (
  λ m f k y. x.0 m f (solves-fits m s f k) (subst (λ q. allowed q (all_admit m (subs f ts)) ≡ true) (sym e) (subst (λ z. admits m (sub f z) ≡ true) p y)),
  λ o i r. x.1 o i (λ y b. (Asks.part h ts y (subst (Asks o Mark.Equality) p r.0) (sym e) b, Met.part h ts y (subst (Met o) p r.1) b)),
)
arguments-clash s h ts t p e Circular x = absurd x
arguments-clash s h ts t p e Large x = absurd x
arguments-clash s h ts t p e Memory x = tt

pub class-steps : (n : ℕ) (s : ℕ → Entry) (w : ℕ → ℕ) (old : List Task) (c : Class) (h : Symbol) (l : List Typ) (t : Typ) → t ≡ con h (all l) → length l ≡ 0 → IsOf c (con h none) → Steps n s w old (Admit (Mark.Class c) t) old None
class-steps n s w old c h [] t p e x = steps-nothing n s w old (Admit (Mark.Class c) t) (λ m f k. subst (λ z. IsOf c (sub f z)) (sym p) x)
class-steps n s w old c h (y ∷ l) t p e x = absurd (omega arith)

pub arguments-outside : (s : ℕ → Entry) (c : Class) (h : Symbol) (l : List Typ) (t : Typ) → t ≡ con h (all l) → (length l ≡ 0 → ⊥) → RefusesTask s (Admit (Mark.Class c) t) Clash
arguments-outside s c h [] t p ne = absurd (ne refl)
arguments-outside s c h (y ∷ l) t p ne = (
  λ m f k x. let y = subst (λ z. IsOf c (sub f z)) p x in let e = y.is in cc,
  λ o i x. Clashes.crowded c h (more y (all l)) (subst (Asks o (Mark.Class c)) p x.0) (λ e. cc),
)

pub class-outside : (s : ℕ → Entry) (c : Class) (h : Symbol) (l : List Typ) (t : Typ) → t ≡ con h (all l) → length l ≡ 0 → (IsOf c (con h none) → ⊥) → RefusesTask s (Admit (Mark.Class c) t) Clash
class-outside s c h [] t p e ne = (λ m f k x. ne (subst (λ z. IsOf c (sub f z)) p x), λ o i x. Clashes.outside c h (subst (Asks o (Mark.Class c)) p x.0) ne)
class-outside s c h (y ∷ l) t p e ne = absurd (omega arith)

-- a free variable and another type
pub bind-steps : (n : ℕ) (s : ℕ → Entry) (w : ℕ → ℕ) (old : List Task) (a b t : Typ) (y : ℕ) → b ≡ var y → t ≡ a → IsWalked s (var y) → IsWalked s a → (a ≡ var y → ⊥) → Steps n s w old (Equal a b) old (Some (Bind y t))
bind-steps n s w old a b t y p q u v ne = steps-write n s w old (Equal a b) (Bind y t)
    (λ m f k. (λ e. sym (ap (sub f) p) ∙ sym e ∙ sym (ap (sub f) q), λ e. sym (ap (sub f) q) ∙ sym e ∙ sym (ap (sub f) p)))
    (λ o i r. (subst (λ x. Forces o (var y) x) (sym q) (Forces.back _ _ (subst (λ x. Forces o a x) p r.0)), subst (Met o) p r.2, subst (Met o) (sym q) r.1))
    (λ r. record {
      in_range = ltb-true y n (subst (λ x. is_below n x ≡ true) p r.1);
      is_open = u;
      in_bounds = subst (λ x. is_below n x ≡ true) (sym q) r.0;
      walked = subst (IsWalked s) (sym q) v;
      unlike = λ e. ne (sym q ∙ e);
    })

-- a mark on a free variable
pub remark-clash : (s : ℕ → Entry) (x : ℕ) (k : Mark) (t : Typ) → t ≡ var x → s x ≡ free (mark (s x)) → ((m : ℕ → Bool) (t : Typ) → Allows (mark (s x)) m t → Allows k m t → ⊥) → RefusesTask s (Admit k t) Clash
remark-clash s x k t p u ne = (
  λ m f h e. ne m (f x) (subst (Meets m f (f x)) u (h x)) (subst (λ z. Allows k m (sub f z)) p e),
  λ o i r. Clashes.apart (mark (s x)) k (var x) (subst (ForcedAt o x) u (i x).0) (subst (Asks o k) p r.0) ne,
)

pub remark-nothing : (n : ℕ) (s : ℕ → Entry) (w : ℕ → ℕ) (old : List Task) (x : ℕ) (k r : Mark) (t : Typ) → t ≡ var x → s x ≡ free (mark (s x)) → IsMeet (mark (s x)) k r → r ≡ mark (s x) → Steps n s w old (Admit k t) old None
remark-nothing n s w old x k r t p u e q = steps-nothing n s w old (Admit k t) (λ m f h. subst (λ z. Allows k m (sub f z)) (sym p) (e.right m (f x) (subst (λ j. Allows j m (f x)) (sym q) (subst (Meets m f (f x)) u (h x)))))

pub remark-steps : (n : ℕ) (s : ℕ → Entry) (w : ℕ → ℕ) (old : List Task) (x : ℕ) (k r : Mark) (t : Typ) → t ≡ var x → s x ≡ free (mark (s x)) → IsMeet (mark (s x)) k r → (r ≡ mark (s x) → ⊥) → (r ≢ mark (s x) → rank_of r < rank_of (mark (s x))) → is_inhabited (mark (s x)) ≡ true → (is_inhabited (mark (s x)) ≡ true → is_inhabited k ≡ true → is_inhabited r ≡ true) → Steps n s w old (Admit k t) old (Some (Remark x r))
remark-steps n s w old x k r t p u e ne lower i j = steps-write n s w old (Admit k t) (Remark x r)
    (λ m f h. (λ a. e.both m (f x) (subst (Meets m f (f x)) u (h x)) (subst (λ z. Allows k m (sub f z)) p a), λ a. subst (λ z. Allows k m (sub f z)) (sym p) (e.right m (f x) a)))
    (λ o g a. (Asks.both (mark (s x)) k r (var x) (subst (ForcedAt o x) u (g x).0) (subst (Asks o k) p a.0) (λ m z b d. e.both m z b d), subst (Met o) p a.1))
    (λ a. record {
      in_range = ltb-true x n (subst (λ z. is_below n z ≡ true) p a.1);
      is_free = u;
      inhabited = j i a.0;
      lower = lower ne;
      less = e.left;
    })

pub steps-ok : (n : ℕ) (s : ℕ → Entry) (w : ℕ → ℕ) (old new : List Task) (a b c d : Typ) (r : Result (Option Write) UnifyRefused) → Reads n s w a c → Reads n s w b d → IfOk r (Steps n s w old (Equal c d) new) → IfOk r (Steps n s w old (Equal a b) new)
steps-ok n s w old new a b c d (Ok x) p q h = steps-along n s w old new x a b c d p q h
steps-ok n s w old new a b c d (Err e) p q h = h

pub refuses-err : (n : ℕ) (s : ℕ → Entry) (w : ℕ → ℕ) (a b c d : Typ) (r : Result (Option Write) UnifyRefused) → Reads n s w a c → Reads n s w b d → IfErr r (RefusesTask s (Equal c d)) → IfErr r (RefusesTask s (Equal a b))
refuses-err n s w a b c d (Ok x) p q h = h
refuses-err n s w a b c d (Err e) p q h = refuses-along n s w a b c d p q e h

pub steps-admit-ok : (n : ℕ) (s : ℕ → Entry) (w : ℕ → ℕ) (old new : List Task) (k : Mark) (a c : Typ) (r : Result (Option Write) UnifyRefused) → Reads n s w a c → IfOk r (Steps n s w old (Admit k c) new) → IfOk r (Steps n s w old (Admit k a) new)
steps-admit-ok n s w old new k a c (Ok x) p h = steps-admit-along n s w old new x k a c p h
steps-admit-ok n s w old new k a c (Err e) p h = h

pub refuses-admit-err : (n : ℕ) (s : ℕ → Entry) (w : ℕ → ℕ) (k : Mark) (a c : Typ) (r : Result (Option Write) UnifyRefused) → Reads n s w a c → IfErr r (RefusesTask s (Admit k c)) → IfErr r (RefusesTask s (Admit k a))
refuses-admit-err n s w k a c (Ok x) p h = h
refuses-admit-err n s w k a c (Err e) p h = refuses-admit-along n s w k a c p e h

pub refuses-is : (s : ℕ → Entry) (x y : Task) (r : Result (Option Write) UnifyRefused) → x ≡ y → IfErr r (RefusesTask s y) → IfErr r (RefusesTask s x)
refuses-is s x y r e h = subst (λ z. IfErr r (RefusesTask s z)) (sym e) h

pub earlier-variable : (t : Typ) (x y : ℕ) → t ≡ var x → x < y → t ≡ var y → ⊥
earlier-variable t x y p lt q = let e : x ≡ y = (let r : var x ≡ var y = sym p ∙ q in cc) in omega (arith, e, lt)

pub applied-variable : (t : Typ) (h : Symbol) (ts : Typs) (y : ℕ) → t ≡ con h ts → t ≡ var y → ⊥
applied-variable t h ts y p q = cc
