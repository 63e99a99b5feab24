-- An entry written into the vector.
use Rattle.std.proofs.Common.{◌≡◌, ◌≢◌, ℕ, suc, ◌<◌, List, length, set, true, sym, ap, ◌∙◌, subst}
use Rattle.std.proofs.lemmas.List.{length-set}
use Rattle.std.proofs.lemmas.Bool.{cases_eq}
use mathlib.Core.Logic.{◌⊎◌, inl, inr}
use Rattle.ty_table.specs.of_ty_core.Types.{Typ, con, labels}
use Rattle.ty_table.specs.of_ty_core.Marks.{is_inhabited}
use Rattle.ty_solve.specs.Substitution.{Entry, free, bound, row, mark, aside, Resolves}
use Rattle.ty_solve.specs.SlotsOf.{look}
use Rattle.ty_solve.specs.Weight.{weight, BelowAt, AreBelow, WeighsAt, IsAcyclic, InhabitedAt, AreInhabited}
use Rattle.ty_solve.specs.Tasks.{Avoids}
use Rattle.ty_solve.proofs.Look.{look-set-same, look-set-other}
use Rattle.ty_solve.proofs.Binding.{Puts, Weighty, bind-acyclic}
use Rattle.ty_solve.proofs.Freeing.{aside-here, aside-other, aside-acyclic}
use Rattle.ty_solve.proofs.Sigma.{sigma-resolves}

pub set-puts : (l : List Entry) (v : ℕ) (o : Entry) → v < length l → Puts (look l) (look (set l v o)) v o
set-puts l v o lt = record { here = look-set-same l v o lt; other = λ x ne. look-set-other l v x o ne }

pub set-below : (l : List Entry) (v : ℕ) (o : Entry) → v < length l → AreBelow (length l) (look l) → BelowAt (length l) o → AreBelow (length (set l v o)) (look (set l v o))
set-below l v o lt h b = subst (λ n. AreBelow n (look (set l v o))) (sym (length-set l v o)) (λ x. go x (cases_eq x v))
  where
    go : (x : ℕ) → (x ≡ v) ⊎ (x ≡ v → ⊥) → BelowAt (length l) (look (set l v o) x)
    go x (inl e) = subst (BelowAt (length l)) (sym (ap (look (set l v o)) e ∙ look-set-same l v o lt)) b
    go x (inr ne) = subst (BelowAt (length l)) (sym (look-set-other l v x o ne)) (h x)

pub set-inhabited : (l : List Entry) (v : ℕ) (o : Entry) → v < length l → AreInhabited (look l) → InhabitedAt o → AreInhabited (look (set l v o))
set-inhabited l v o lt h b x = go (cases_eq x v)
  where
    go : (x ≡ v) ⊎ (x ≡ v → ⊥) → InhabitedAt (look (set l v o) x)
    go (inl e) = subst InhabitedAt (sym (ap (look (set l v o)) e ∙ look-set-same l v o lt)) b
    go (inr ne) = subst InhabitedAt (sym (look-set-other l v x o ne)) (h x)

module _ (s s' : ℕ → Entry) (v : ℕ) (e : Entry) (p : Puts s s' v e) (a : IsAcyclic s) where
  beside : (x : ℕ) → x ≢ v → s' x ≡ aside v s x
  beside x ne = p.other x ne ∙ sym (aside-other s v x ne)

  weighty : (t : Typ) → ((w : ℕ → ℕ) (k : ℕ) → k ≡ suc (weight w t) → WeighsAt w k e) → Weighty (aside v s) s' v t
  weighty t h = record {
    was = aside-here s v ∙ ap (λ x. free (mark x)) (sym (aside-here s v));
    here = λ w k i. subst (WeighsAt w k) (sym p.here) (h w k i);
    other = beside;
  }

  freed : ((w : ℕ → ℕ) (k : ℕ) → k ≡ 0 → WeighsAt w k e) → IsAcyclic s'
  freed h = let b = aside-acyclic s v a in (b.0, λ x. go b x (cases_eq x v))
    where
      go : (b : IsAcyclic (aside v s)) (x : ℕ) → (x ≡ v) ⊎ (x ≡ v → ⊥) → WeighsAt b.0 (b.0 x) (s' x)
      go b x (inl i) = subst (λ y. WeighsAt b.0 (b.0 y) (s' y)) (sym i) (subst (WeighsAt b.0 (b.0 v)) (sym p.here) (h b.0 (b.0 v) (subst (WeighsAt b.0 (b.0 v)) (aside-here s v) (b.1 v))))
      go b x (inr ne) = subst (WeighsAt b.0 (b.0 x)) (sym (beside x ne)) (b.1 x)

pub put-acyclic : (s s' : ℕ → Entry) (v : ℕ) (e : Entry) → Puts s s' v e → IsAcyclic s → ((f : ℕ → Typ) → Resolves f (aside v s) → Avoids v f e) → IsAcyclic s'
put-acyclic s s' v (free k) p a h = freed s s' v (free k) p a (λ w k i. i)
put-acyclic s s' v (bound t) p a h = bind-acyclic (aside v s) s' v t (weighty s s' v (bound t) p a t (λ w k i. i)) (aside-acyclic s v a) (h _ (sigma-resolves (aside v s) (aside-acyclic s v a)))
put-acyclic s s' v (row d ks us) p a h = bind-acyclic (aside v s) s' v (con (labels ks) us) (weighty s s' v (row d ks us) p a (con (labels ks) us) (λ w k i. i)) (aside-acyclic s v a) (h _ (sigma-resolves (aside v s) (aside-acyclic s v a)))

pub at-inhabited : (s : ℕ → Entry) → AreInhabited s → (v : ℕ) → s v ≡ free (mark (s v)) → is_inhabited (mark (s v)) ≡ true
at-inhabited s h v e = subst InhabitedAt e (h v)
