-- One more variable.
use Rattle.std.proofs.Common.{◌≡◌, ◌<◌, ℕ, List, [], ◌∷◌, ◌++◌, length, Bool, true, false, if◌then◌else◌, refl, sym, ap, ◌∙◌, subst, arith}
use Rattle.std.proofs.lemmas.Bool.{cases_eq, and_parts, or_from, ltb-true, ne_eqb}
use mathlib.Core.Logic.{◌⊎◌, inl, inr}
use Rattle.ty_table.specs.of_ty_core.Types.{Typ, var, con, Typs, none, more, labels}
use Rattle.ty_table.specs.of_ty_core.declared.mark.Mark.{Mark}
use Rattle.ty_solve.specs.Rows.{Known}
use Rattle.ty_solve.specs.Substitution.{Entry, free, sub, is_in, are_in, is_below, are_below}
use Rattle.ty_solve.specs.SlotsOf.{look, row_of}
use Rattle.ty_solve.specs.Weight.{AreBelow, WeighsAt, IsAcyclic}
use Rattle.ty_solve.proofs.Look.{look-grow-here, look-grow-other, look-past, free-mark}
use Rattle.ty_solve.proofs.Binding.{Weighty, bind-acyclic}
use Rattle.ty_solve.proofs.Sigma.{sigma_of, sigma-below}

-- a variable from n on lies in no type whose variables are below n
mutual
  none-below : (n v : ℕ) → (v < n → ⊥) → (t : Typ) → is_below n t ≡ true → is_in v t ≡ false
  none-below n v h (var x) b = ne_eqb x v (λ e. h (subst (λ y. y < n) e (ltb-true x n b)))
  none-below n v h (con c ts) b = nones-below n v h ts b

  nones-below : (n v : ℕ) → (v < n → ⊥) → (ts : Typs) → are_below n ts ≡ true → are_in v ts ≡ false
  nones-below n v h none b = refl
  nones-below n v h (more t ts) b = let p = and_parts (is_below n t) (are_below n ts) b in or_from _ _ (none-below n v h t p.0) (nones-below n v h ts p.1)

grow-acyclic : (l : List Entry) (k : Mark) → IsAcyclic (look l) → IsAcyclic (look (l ++ free k ∷ []))
grow-acyclic l k a = (a.0, λ v. go v (cases_eq v (length l)))
  where
    at-free : (w : ℕ) (e : Entry) → e ≡ free Mark.Any → WeighsAt a.0 w e → WeighsAt a.0 w (free k)
    at-free w e p h = subst (WeighsAt a.0 w) p h

    go : (v : ℕ) → (v ≡ length l) ⊎ (v ≡ length l → ⊥) → WeighsAt a.0 (a.0 v) (look (l ++ free k ∷ []) v)
    go v (inl e) = subst (WeighsAt a.0 (a.0 v)) (sym (ap (look (l ++ free k ∷ [])) e ∙ look-grow-here l (free k))) (at-free (a.0 v) (look l v) (look-past l v (omega arith)) (a.1 v))
    go v (inr ne) = subst (WeighsAt a.0 (a.0 v)) (sym (look-grow-other l (free k) v ne)) (a.1 v)

pub grown-acyclic : (b : Bool) (k : Mark) (old new : List Entry) → new ≡ (if b then old ++ free k ∷ [] else old) → IsAcyclic (look old) → IsAcyclic (look new)
grown-acyclic true k old new e h = subst (λ l. IsAcyclic (look l)) (sym e) (grow-acyclic old k h)
grown-acyclic false k old new e h = subst (λ l. IsAcyclic (look l)) (sym e) h

row-acyclic : (l : List Entry) (r : Known) → AreBelow (length l) (look l) → are_below (length l) r.types ≡ true → IsAcyclic (look l) → IsAcyclic (look (l ++ row_of r ∷ []))
row-acyclic l r h b a = bind-acyclic (look l) (look (l ++ row_of r ∷ [])) (length l) (con (labels r.labels) r.types) weighty a (none-below (length l) (length l) (λ lt. omega arith) (sub (sigma_of (look l) a) (con (labels r.labels) r.types)) (sigma-below (length l) (look l) a h (con (labels r.labels) r.types) b))
  where
    weighty : Weighty (look l) (look (l ++ row_of r ∷ [])) (length l) (con (labels r.labels) r.types)
    weighty = record {
      was = free-mark _ Mark.Any (look-past l (length l) (omega arith));
      here = λ w k i. subst (WeighsAt w k) (sym (look-grow-here l (row_of r))) i;
      other = λ x ne. look-grow-other l (row_of r) x ne;
    }

pub grown-row : (b : Bool) (r : Known) (old new : List Entry) → new ≡ (if b then old ++ row_of r ∷ [] else old) → AreBelow (length old) (look old) → are_below (length old) r.types ≡ true → IsAcyclic (look old) → IsAcyclic (look new)
grown-row true r old new e h b a = subst (λ l. IsAcyclic (look l)) (sym e) (row-acyclic old r h b a)
grown-row false r old new e h b a = subst (λ l. IsAcyclic (look l)) (sym e) a
