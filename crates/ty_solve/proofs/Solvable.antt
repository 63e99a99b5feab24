-- A substitution with no cycle whose marks are inhabited has a solution.
use Rattle.std.proofs.Common.{◌≡◌, ◌≤◌, ◌<◌, ◌↔◌, IsTrue, ℕ, zero, suc, Bool, true, false, ◌||◌, List, [], refl, sym, ap, ◌∙◌, subst, arith}
use Rattle.std.proofs.lemmas.Bool.{lt-ltb}
use Rattle.mlc_names.specs.declared.label.Label.{Label}
use Rattle.ty_solve.specs.Rows.{Extends}
use Rattle.ty_table.specs.of_ty_core.Types.{Typ, var, con, Typs, none, more, labels, name}
use Rattle.ty_table.specs.of_ty_core.Marks.{Allows, IsOf, overloaded, has, is_inhabited}
use Rattle.ty_table.specs.of_ty_core.declared.mark.Class.{Class}
use Rattle.ty_table.specs.of_ty_core.declared.mark.Mark.{Mark}
use Rattle.ty_solve.specs.Substitution.{Entry, free, bound, row, mark, Meets, resolved, sub, subs}
use Rattle.ty_solve.specs.Weight.{weight, weights, WeighsAt, IsAcyclic, InhabitedAt, AreInhabited}
use Rattle.std.proofs.Math.Nat.{lt_of_not-le}
use Rattle.ty_solve.specs.Solve.{IsSolvable, node_limit}
use Rattle.ty_solve.specs.Limits.{Over, AllOver, Limited, AllLimited, LimitedAt, AreLimited, AreWide, IsSolvableOver}
use Rattle.ty_solve.specs.declared.limit.Limit.{Limit}
use Rattle.ty_solve.proofs.Lowered.{over-more}
use Rattle.ty_solve.proofs.Sigma.{sigma_of, sigma-resolves}
use Rattle.ty_solve.proofs.Subs.{sub-sub, subs-sub}
use Rattle.ty_solve.proofs.Labels.{proper-subs, at-among}

-- some type of a class; it uses an overloaded type alone
one_of : (c : Class) → is_inhabited (Mark.Class c) ≡ true → (t : Typ) × IsOf c t × ((n : ℕ) → 4 ≤ n → Over n t)
one_of c h = go c.int c.word c.char c.string refl refl refl refl h
  where
    at : (k : ℕ) → k < 4 → has c k ≡ true → (t : Typ) × IsOf c t × ((n : ℕ) → 4 ≤ n → Over n t)
    at k lt e = (con (name (overloaded k)) none, record { number = k; is = refl; held = e }, λ n le. (lt-ltb k n (omega arith), tt))

    go : (i w d s : Bool) → c.int ≡ i → c.word ≡ w → c.char ≡ d → c.string ≡ s → (i || (w || (d || s))) ≡ true → (t : Typ) × IsOf c t × ((n : ℕ) → 4 ≤ n → Over n t)
    go true w d s p q r u h = at 0 (omega arith) p
    go false true d s p q r u h = at 1 (omega arith) q
    go false false true s p q r u h = at 2 (omega arith) r
    go false false false true p q r u h = at 3 (omega arith) u
    go false false false false p q r u h = cc

-- some type that a mark allows
allowed_by : (k : Mark) → is_inhabited k ≡ true → (t : Typ) × Allows k (λ v. true) t × ((n : ℕ) → 4 ≤ n → Over n t)
allowed_by Mark.Any h = (con (labels []) none, tt, λ n le. (tt, tt))
allowed_by Mark.Equality h = (con (labels []) none, refl, λ n le. (tt, tt))
allowed_by (Mark.Class c) h = one_of c h

module _ (s : ℕ → Entry) (a : IsAcyclic s) (h : AreInhabited s) where
  abbrev at : (e : Entry) → InhabitedAt e → Typ
  at (free k) i = (allowed_by k i).0
  at (bound t) i = con (labels []) none
  at (row e ks us) i = con (labels []) none

  at-over : (e : Entry) (i : InhabitedAt e) (n : ℕ) → 4 ≤ n → Over n (at e i)
  at-over (free k) i n le = (allowed_by k i).2 n le
  at-over (bound t) i n le = (tt, tt)
  at-over (row e ks us) i n le = (tt, tt)

  abbrev choice : ℕ → Typ
  choice v = at (s v) (h v)

  -- the solution that is looked for
  abbrev witness : ℕ → Typ
  witness v = sub choice (sigma_of s a v)

  allows : (e : Entry) (i : InhabitedAt e) (k : Mark) → e ≡ free k → Allows k (λ v. true) (at e i)
  allows (free j) i k e = subst (λ x. Allows x (λ v. true) (allowed_by j i).0) (ap mark e) (allowed_by j i).1
  allows (bound t) i k e = cc
  allows (row d ks us) i k e = cc

  row-is : (v : ℕ) (d : Bool) (ks : List Label) (us : Typs) → s v ≡ row d ks us → witness v ≡ con (labels ks) (subs witness us)
  row-is v d ks us e = ap (sub choice) (sigma-resolves s a v ∙ ap (resolved (sigma_of s a) v) e) ∙ ap (con (labels ks)) (subs-sub choice (sigma_of s a) us)

  closes : (v : ℕ) (d : Bool) (ks : List Label) (us : Typs) → s v ≡ row d ks us → Extends (λ v. true) d ks (subs witness us) (witness v)
  closes v d ks us e = record {
    names = ks;
    types = subs witness us;
    is = row-is v d ks us e;
    proper = proper-subs witness ks us (subst InhabitedAt e (h v));
    fields = λ l u p. p;
    further = λ i l u p n. absurd (n (at-among l u ks (subs witness us) p));
  }

  meets : (v : ℕ) (e : Entry) → s v ≡ e → Meets (λ v. true) witness (witness v) e
  meets v (free k) e = subst (Allows k (λ v. true)) (sym (ap (sub choice) (sigma-resolves s a v ∙ ap (resolved (sigma_of s a) v) e))) (allows (s v) (h v) k e)
  meets v (bound t) e = ap (sub choice) (sigma-resolves s a v ∙ ap (resolved (sigma_of s a) v) e) ∙ sub-sub choice (sigma_of s a) t
  meets v (row d ks us) e = closes v d ks us e

  -- it keeps the limits
  module _ (b : ℕ → Limit) (limited : AreLimited b s) (wide : AreWide b) where
    mutual
      over-type : (k : ℕ) → ((x : ℕ) → a.0 x < k → Over (b x).names (witness x)) → (l : Limit) (t : Typ) → weight a.0 t ≤ k → Limited b l t → Over l.names (sub witness t)
      over-type k again l (var x) le i = over-more (b x).names l.names i.0 (witness x) (again x (omega arith))
      over-type k again l (con c ts) le i = (i.0, all-over-type k again l ts (omega arith) i.1)

      all-over-type : (k : ℕ) → ((x : ℕ) → a.0 x < k → Over (b x).names (witness x)) → (l : Limit) (ts : Typs) → weights a.0 ts ≤ k → AllLimited b l ts → AllOver l.names (subs witness ts)
      all-over-type k again l none le i = tt
      all-over-type k again l (more t ts) le i = (over-type k again l t (omega arith) i.0, all-over-type k again l ts (omega arith) i.1)

    over-at : (k v : ℕ) (e : Entry) → s v ≡ e → a.0 v ≤ k → ((x : ℕ) → a.0 x < k → Over (b x).names (witness x)) → Over (b v).names (witness v)
    over-at k v (free j) e le again = subst (λ t. Over (b v).names (sub choice t)) (sym (sigma-resolves s a v ∙ ap (resolved (sigma_of s a) v) e)) (at-over (s v) (h v) (b v).names (wide v))
    over-at k v (bound t) e le again = let w = subst (WeighsAt a.0 (a.0 v)) e (a.1 v) in subst (Over (b v).names) (sym (meets v (bound t) e)) (over-type k again (b v) t (omega arith) (subst (LimitedAt b (b v)) e (limited v)))
    over-at k v (row d ks us) e le again = let w = subst (WeighsAt a.0 (a.0 v)) e (a.1 v) in subst (Over (b v).names) (sym (row-is v d ks us e)) (tt, all-over-type k again (b v) us (omega arith) (subst (LimitedAt b (b v)) e (limited v)))

    over-by : (k v : ℕ) → a.0 v < k → Over (b v).names (witness v)
    over-by zero v lt = absurd (omega arith)
    over-by (suc k) v lt = over-at k v (s v) refl (omega arith) (λ x. over-by k x)

    pub solvable-over : IsSolvableOver s b
    solvable-over = ((λ v. true), witness, (λ v. meets v (s v) refl), λ v. over-by (suc (a.0 v)) v (omega arith))

  pub solvable : IsSolvable s
  solvable = ((λ v. true), witness, λ v. meets v (s v) refl)

pub large : (b : Bool) (n : ℕ) → b ≡ false → IsTrue b ↔ (n ≤ node_limit) → node_limit < n
large b n e h = lt_of_not-le (λ p. let q = h.1 p in cc)
