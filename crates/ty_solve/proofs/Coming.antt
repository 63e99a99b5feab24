-- Taking tasks one by one.
use Rattle.std.proofs.Common.{◌≡◌, ◌<◌, ◌↔◌, ℕ, Bool, List, [], ◌∷◌, ◌++◌, length, Option, Some, None, ap, sym, ◌∙◌, subst, refl, arith}
use Rattle.ty_table.specs.of_ty_core.Types.{Typ}
use Rattle.ty_solve.specs.Substitution.{Entry, Solves}
use Rattle.ty_solve.specs.SlotsOf.{look}
use Rattle.ty_solve.specs.Forces.{Problem, IsForced}
use Rattle.ty_solve.specs.Tasks.{AllHold, AreForced, AreWithin, burdens, Steps, RefusesTask, RefusesTasks, Comes}
use Rattle.ty_solve.specs.Task.{Task}
use Rattle.ty_solve.specs.Task.{Write}
use Rattle.ty_solve.specs.declared.refused.UnifyRefused.{UnifyRefused}
use Rattle.ty_solve.specs.declared.refused.UnifyRefused.TheVariants.{Clash, Circular, Large, Memory}
use Rattle.ty_solve.proofs.StepArms.{hold-push, forced-pop, within-pop, burdens-push}

-- the tasks `old` have come to the tasks `now`
pub record Going (l : List Entry) (old now : List Task) : Type 0 where
  pub same : (m : ℕ → Bool) (f : ℕ → Typ) → Solves m f (look l) → AllHold m f old ↔ AllHold m f now
  pub forced : (p : Problem) → IsForced p (look l) → AreForced p old → AreForced p now
  pub within : AreWithin (length l) old → AreWithin (length l) now

pub begins : (l : List Entry) (old : List Task) → Going l old old
begins l old = record {
  same = λ m f k. (λ h. h, λ h. h);
  forced = λ p i h. h;
  within = λ h. h;
}

pub goes-on : (l : List Entry) (w : ℕ → ℕ) (old now rest new : List Task) (task : Task) → now ≡ rest ++ task ∷ [] → Going l old now → Steps (length l) (look l) w rest task new None → Going l old new
goes-on l w old now rest new task e g h = record {
  same = λ m f k. (
    λ a. ((h.same m f k).0 ((hold-push m f rest task).0 (subst (AllHold m f) e ((g.same m f k).0 a)))).0,
    λ a. (g.same m f k).1 (subst (AllHold m f) (sym e) ((hold-push m f rest task).1 ((h.same m f k).1 (a, tt)))),
  );
  forced = λ p i a. let q = forced-pop p rest task (subst (AreForced p) e (g.forced p i a)) in (h.forced p i q.0 q.1).0;
  within = λ a. let q = within-pop (length l) rest task (subst (AreWithin (length l)) e (g.within a)) in h.within q.0 q.1;
}

pub goes-down : (n : ℕ) (s : ℕ → Entry) (w : ℕ → ℕ) (now rest new : List Task) (task : Task) (x : Option Write) → now ≡ rest ++ task ∷ [] → Steps n s w rest task new x → burdens w new < burdens w now
goes-down n s w now rest new task x e h = let p = ap (burdens w) e ∙ burdens-push w rest task in let q = h.lighter in omega arith

pub comes-to : (l : List Entry) (w : ℕ → ℕ) (old now rest new : List Task) (task : Task) (x : Write) → now ≡ rest ++ task ∷ [] → Going l old now → Steps (length l) (look l) w rest task new (Some x) → Comes (length l) (look l) old new (Some x)
comes-to l w old now rest new task x e g h = record {
  same = λ m f k. (
    λ a. (h.same m f k).0 ((hold-push m f rest task).0 (subst (AllHold m f) e ((g.same m f k).0 a))),
    λ a. (g.same m f k).1 (subst (AllHold m f) (sym e) ((hold-push m f rest task).1 ((h.same m f k).1 a))),
  );
  forced = λ p i a. let q = forced-pop p rest task (subst (AreForced p) e (g.forced p i a)) in h.forced p i q.0 q.1;
  within = λ a. let q = within-pop (length l) rest task (subst (AreWithin (length l)) e (g.within a)) in h.within q.0 q.1;
  fit = λ a. let q = within-pop (length l) rest task (subst (AreWithin (length l)) e (g.within a)) in h.fit q.1;
  ended = λ p. cc;
}

pub comes-to-end : (l : List Entry) (old now : List Task) → length now ≡ 0 → Going l old now → Comes (length l) (look l) old now None
comes-to-end l old [] e g = record {
  same = λ m f k. (λ a. (tt, tt), λ a. (g.same m f k).1 tt);
  forced = λ p i a. (tt, tt);
  within = λ a. tt;
  fit = λ a. tt;
  ended = λ p. refl;
}
comes-to-end l old (x ∷ now) e g = cc

pub comes-refused : (l : List Entry) (old now rest : List Task) (task : Task) (e : UnifyRefused) → now ≡ rest ++ task ∷ [] → Going l old now → RefusesTask (look l) task e → RefusesTasks (look l) old e
comes-refused l old now rest task Clash e g h = (λ m f k a. h.0 m f k ((hold-push m f rest task).0 (subst (AllHold m f) e ((g.same m f k).0 a))).1, λ p i a. h.1 p i (forced-pop p rest task (subst (AreForced p) e (g.forced p i a))).1)
comes-refused l old now rest task Circular e g h = (λ m f k a. h.0 m f k ((hold-push m f rest task).0 (subst (AllHold m f) e ((g.same m f k).0 a))).1, λ p i a. h.1 p i (forced-pop p rest task (subst (AreForced p) e (g.forced p i a))).1)
comes-refused l old now rest task Large e g h = h
comes-refused l old now rest task Memory e g h = tt
