-- Tasks and changes up to the end.
use Rattle.std.proofs.Common.{◌≡◌, ◌↔◌, ℕ, Bool, true, List, [], ◌∷◌, ◌++◌, length, Some, None, ap, sym, ◌∙◌, subst, refl}
use Rattle.ty_table.specs.of_ty_core.Types.{Typ}
use Rattle.ty_solve.specs.Substitution.{Entry, Solves, sub, is_below}
use Rattle.ty_solve.specs.SlotsOf.{look}
use Rattle.ty_solve.specs.Forces.{Forces, Met, IsForced}
use Rattle.ty_solve.specs.Tasks.{AllHold, AreForced, AreWithin, Comes, RefusesTasks}
use Rattle.ty_solve.specs.Changes.{Changes, RefusesWrite}
use Rattle.ty_solve.specs.Solve.{problem, IsMostGeneral, IsEarlyCause}
use Rattle.ty_solve.specs.Task.{Task}
use Rattle.ty_solve.specs.Task.{Equal}
use Rattle.ty_solve.specs.Task.{Write}
use Rattle.ty_solve.specs.declared.refused.UnifyRefused.{UnifyRefused}
use Rattle.ty_solve.specs.declared.refused.UnifyRefused.TheVariants.{Clash, Circular, Large, Memory}
use Rattle.ty_solve.proofs.Starts.{starts-forced}

-- the equation of a and b under `first` has come to the tasks under `now`
pub record Solving (first now : List Entry) (a b : Typ) (tasks : List Task) : Type 0 where
  pub same : (m : ℕ → Bool) (f : ℕ → Typ) → (Solves m f (look now) × AllHold m f tasks) ↔ (Solves m f (look first) × (sub f a ≡ sub f b))
  pub now_forced : IsForced (problem (look first) a b) (look now)
  pub tasks_forced : AreForced (problem (look first) a b) tasks
  pub within : AreWithin (length now) tasks
  pub same_length : length now ≡ length first

pub solving-begins : (l : List Entry) (a b t u : Typ) (tasks : List Task) → t ≡ a → u ≡ b → tasks ≡ [] ++ Equal t u ∷ [] → is_below (length l) a ≡ true → is_below (length l) b ≡ true → Solving l l a b tasks
solving-begins l a b t u tasks p q e x y = subst (Solving l l a b) (sym e) (record {
  same = λ m f.
      (λ h. (h.0, ap (sub f) (sym p) ∙ h.1.0 ∙ ap (sub f) q), λ h. (h.0, (ap (sub f) p ∙ h.1 ∙ sym (ap (sub f) q), tt)));
  now_forced = starts-forced (problem (look l) a b);
  tasks_forced = ((subst (λ z. Forces (problem (look l) a b) z u) (sym p) (subst (λ z. Forces (problem (look l) a b) a z) (sym q) Forces.given), subst (Met (problem (look l) a b)) (sym p) Met.left, subst (Met (problem (look l) a b)) (sym q) Met.right), tt);
  within = ((subst (λ z. is_below (length l) z ≡ true) (sym p) x, subst (λ z. is_below (length l) z ≡ true) (sym q) y), tt);
  same_length = refl;
})

pub solving-next : (first now new : List Entry) (a b : Typ) (tasks left then : List Task) (x : Write) → Solving first now a b tasks → Comes (length now) (look now) tasks left (Some x) → Changes now new left then x → length new ≡ length now → Solving first new a b then
solving-next first now new a b tasks left then x g c h e =
    let i = c.forced (problem (look first) a b) g.now_forced g.tasks_forced in
    let j = h.forced (problem (look first) a b) g.now_forced i.0 i.1 in
    record {
      same = λ m f. (
        λ k. let r = (h.same m f).0 k in (g.same m f).0 (r.0, (c.same m f r.0).1 (r.1, r.2)),
        λ k. let r = (g.same m f).1 k in let q = (c.same m f r.0).0 r.1 in (h.same m f).1 (r.0, q.0, q.1),
      );
      now_forced = j.0;
      tasks_forced = j.1;
      within = subst (λ n. AreWithin n then) (sym e) (h.within (c.within g.within));
      same_length = e ∙ g.same_length;
    }

pub solving-ends : (first now : List Entry) (a b : Typ) (tasks left : List Task) → Solving first now a b tasks → Comes (length now) (look now) tasks left None → IsMostGeneral (look first) (look now) a b
solving-ends first now a b tasks left g c m f = (
  λ k. (g.same m f).0 (k, (c.same m f k).1 (subst (AllHold m f) (sym (c.ended refl)) tt, tt)),
  λ k. ((g.same m f).1 k).0,
)

pub solving-refused : (first now : List Entry) (a b : Typ) (tasks : List Task) (e : UnifyRefused) → Solving first now a b tasks → RefusesTasks (look now) tasks e → IsEarlyCause (look first) a b e
solving-refused first now a b tasks Clash g h = (λ m f k x. let r = (g.same m f).1 (k, x) in h.0 m f r.0 r.1, h.1 (problem (look first) a b) g.now_forced g.tasks_forced)
solving-refused first now a b tasks Circular g h = (λ m f k x. let r = (g.same m f).1 (k, x) in h.0 m f r.0 r.1, h.1 (problem (look first) a b) g.now_forced g.tasks_forced)
solving-refused first now a b tasks Large g h = h
solving-refused first now a b tasks Memory g h = tt

pub change-refused : (first now : List Entry) (a b : Typ) (tasks left : List Task) (x : Write) (e : UnifyRefused) → Solving first now a b tasks → Comes (length now) (look now) tasks left (Some x) → RefusesWrite (look now) x e → IsEarlyCause (look first) a b e
change-refused first now a b tasks left x Clash g c h = (
  λ m f k y. let r = (g.same m f).1 (k, y) in h.0 m f r.0 ((c.same m f r.0).0 r.1).1,
  h.1 (problem (look first) a b) g.now_forced (c.forced (problem (look first) a b) g.now_forced g.tasks_forced).1,
)
change-refused first now a b tasks left x Circular g c h = (
  λ m f k y. let r = (g.same m f).1 (k, y) in h.0 m f r.0 ((c.same m f r.0).0 r.1).1,
  h.1 (problem (look first) a b) g.now_forced (c.forced (problem (look first) a b) g.now_forced g.tasks_forced).1,
)
change-refused first now a b tasks left x Large g c h = h
change-refused first now a b tasks left x Memory g c h = tt

pub pushed : (none one : List Task) (x : Task) → none ≡ [] → one ≡ none ++ x ∷ [] → one ≡ [] ++ x ∷ []
pushed none one x e h = h ∙ ap (λ l. l ++ x ∷ []) e
