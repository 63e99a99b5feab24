-- Nodes of types.
use Rattle.std.proofs.Common.{◌≡◌, ◌<◌, ◌^◌, ◌-◌, ℕ, Bool, true, false, nat_eq, if◌then◌else◌, List, [], refl, sym, ap, ap₂, subst, length, ◌∙◌, arith}
use Rattle.std.proofs.lemmas.Bool.{eqb-true, eq-eqb}
use Rattle.ty_core.specs.Types.{Typ, var, con, labels, name}
use Rattle.ty_core.specs.Marks.{overloaded}
use Rattle.ty_core.specs.TypesOf.{head_of}
use Rattle.ty_core.specs.declared.mark.Class.{Class}
use Rattle.ty_core.specs.declared.mark.Mark.{Mark}
use Rattle.ty_core.specs.declared.ty.Head.{Head}
use Rattle.ty_table.specs.TypeAt.{type_at, types_at, AllBelow}
use Rattle.ty_solve.specs.Limits.{limit_at}
use Rattle.ty_solve.specs.Said.{said}
use Rattle.ty_solve.specs.SlotsOf.{row_in, row_of}
use Rattle.ty_solve.specs.Substitution.{free, bound, sub, subs}
use Rattle.ty_solve.specs.Weight.{weight, weights, WeighsAt}
use Rattle.ty_solve.specs.declared.row.Row.{Row}
use Rattle.ty_solve.specs.declared.solver.Solver.{Solver}
use Rattle.elab_state.specs.States.{dead_level}
use Rattle.ty_basis.specs.Types.{unit_type}
use Rattle.final_types.specs.Nodes.{default_of, IsOf, IsParameter, IsPlain, IsSame, types_of, value_by}

module _ (M : Solver) where
  pub apply-node : (t : Typ) (h k : Head) (ks ps : List ℕ) → t ≡ con (head_of h) (types_at (types_of M) ks) → AllBelow (length (types_of M)) ks → head_of k ≡ head_of h → ps ≡ ks
      → IsOf M t k ps
  apply-node t h k ks ps e b i p = record {
    held = subst (AllBelow (length (types_of M))) (sym p) b;
    is = λ g end. ap (sub g) e ∙ ap₂ (λ x y. con x (subs g (types_at (types_of M) y))) (sym i) (sym p);
    lighter = let a = ap (weight M.subst.acyclic.0) e in let c = ap (λ y. weights M.subst.acyclic.0 (types_at (types_of M) y)) p in omega (arith, a, c);
  }

  pub same-node : (v u : ℕ) → u < length (types_of M) → said M.subst v ≡ bound (type_at (types_of M) u) → IsSame M (var v) u
  same-node v u lt e = record {
    held = lt;
    is = λ g end. end v ∙ ap (value_by (limit_at M.limits.items) g v) e;
    lighter = let a = subst (WeighsAt M.subst.acyclic.0 (M.subst.acyclic.0 v)) e (M.subst.acyclic.1 v) in omega (arith, a);
  }

  pub row-node : (v : ℕ) (r : Row) (h : Head) (ps : List ℕ) → AllBelow (length (types_of M)) r.types.items → said M.subst v ≡ row_of (row_in (types_of M) r) → head_of h ≡ labels r.labels.items
      → ps ≡ r.types.items → IsOf M (var v) h ps
  row-node v r h ps b e i p = record {
    held = subst (AllBelow (length (types_of M))) (sym p) b;
    is = λ g end. end v ∙ ap (value_by (limit_at M.limits.items) g v) e ∙ ap₂ (λ x y. con x (subs g (types_at (types_of M) y))) (sym i) (sym p);
    lighter =
        let a = subst (WeighsAt M.subst.acyclic.0 (M.subst.acyclic.0 v)) e (M.subst.acyclic.1 v) in
        let c = ap (λ y. weights M.subst.acyclic.0 (types_at (types_of M) y)) p in omega (arith, a, c);
  }

  pub class-node : (v : ℕ) (c : Class) (h : Head) (ps : List ℕ) → said M.subst v ≡ free (Mark.Class c) → head_of h ≡ name (overloaded (default_of c)) → ps ≡ [] → IsOf M (var v) h ps
  class-node v c h ps e i p = record {
    held = subst (AllBelow (length (types_of M))) (sym p) tt;
    is = λ g end. end v ∙ ap (value_by (limit_at M.limits.items) g v) e ∙ ap₂ (λ x y. con x (subs g (types_at (types_of M) y))) (sym i) (sym p);
    lighter = let a = ap (λ y. weights M.subst.acyclic.0 (types_at (types_of M) y)) p in omega (arith, a);
  }

  plain-value : (g : ℕ → Typ) (v : ℕ) (k : Mark) → IsPlain k → value_by (limit_at M.limits.items) g v (free k) ≡ (if nat_eq (limit_at M.limits.items v).level dead_level then var v else unit_type)
  plain-value g v Mark.Any p = refl
  plain-value g v Mark.Equality p = refl
  plain-value g v (Mark.Class c) p = absurd p

  pub done-node : (v : ℕ) (k : Mark) → IsPlain k → v < 2 ^ 64 - 1 → said M.subst v ≡ free k → (limit_at M.limits.items v).level ≡ dead_level → IsParameter M (var v) v
  done-node v k p small e d = record {
    small = small;
    is = λ g end.
        end v ∙ ap (value_by (limit_at M.limits.items) g v) e ∙ plain-value g v k p
        ∙ ap (λ b. if b then var v else unit_type) (eq-eqb (limit_at M.limits.items v).level dead_level d);
  }

  pub unit-node : (v : ℕ) (k : Mark) (h : Head) (ps : List ℕ) → IsPlain k → said M.subst v ≡ free k → ((limit_at M.limits.items v).level ≡ dead_level → ⊥) → head_of h ≡ labels [] → ps ≡ []
      → IsOf M (var v) h ps
  unit-node v k h ps p e d i q = record {
    held = subst (AllBelow (length (types_of M))) (sym q) tt;
    is = λ g end.
        end v ∙ ap (value_by (limit_at M.limits.items) g v) e ∙ plain-value g v k p
        ∙ ap (λ b. if b then var v else unit_type) (other (nat_eq (limit_at M.limits.items v).level dead_level) refl)
        ∙ ap₂ (λ x y. con x (subs g (types_at (types_of M) y))) (sym i) (sym q);
    lighter = let a = ap (λ y. weights M.subst.acyclic.0 (types_at (types_of M) y)) q in omega (arith, a);
  }
    where
      other : (b : Bool) → nat_eq (limit_at M.limits.items v).level dead_level ≡ b → b ≡ false
      other true i = absurd (d (eqb-true (limit_at M.limits.items v).level dead_level i))
      other false i = refl
