-- Expressions, arms and functions, from their parts.
use Rattle.std.proofs.Common.{◌≡◌, ◌↔◌, ℕ, Bool, true, false, List, [], ◌∷◌, ◌++◌, map, Option, Some, None, IsTrue, refl, sym, ap, ◌∙◌, subst}
use Rattle.ty_core.specs.Types.{Typ}
use Rattle.ty_core.specs.declared.scheme.Quantified.{Quantified}
use Rattle.ty_table.specs.TypeAt.{type_at}
use Rattle.ir_plain.specs.Tree as clean
use Rattle.ir_poly.specs.Tests.{poly, inst}
use Rattle.ir_poly.specs.Types.{over}
use Rattle.ir_poly.specs.TestsChecked.{Knowns, at, group_knowns, own}
use Rattle.ir_tables.specs.declared.tables.Tables.{Tables}
use Rattle.ir_tables.specs.Tables.{parameters_of, parameters_at}
use Rattle.plain_tree.specs.declared.tree.Exp.{Exp}
use Rattle.plain_tree.specs.declared.tree.Step.{Step}
use Rattle.plain_tree.specs.declared.tree.Arm.{Arm}
use Rattle.plain_tree.specs.declared.tree.Function.{Function}
use Rattle.plain_tree.specs.declared.tree.Parameter.{Parameter}
use Rattle.plain_tree.specs.TreeOf.{StepTree, FunctionTree, put, onto, firsts, arms_of, funs_of, fun_of, tree_of, step_of, arm_of, function_of, test_step, rec_step}
use Rattle.tests_check.specs.Fits.{ExpFits, ArmsFit, AtomFits, CaseFits, FunFits, FunsFit, FunsNew, case_onto}
use Rattle.tests_check.specs.Reads.{reading}
use Rattle.tests_check.specs.Walk.{Names, all, local, table_of, Each, IsExp, IsArm, IsFunction, IsGroup, Brings, Refuses, Opens, Enters, EntersNone, Gathers, Grows, known_as}
use Rattle.tests_check.specs.declared.group.Standing.TheVariants.{Over}

module _ (t : Tables) where
  -- steps in front

  pub steps-fit : (m : Bool) (D D' : List Quantified) (s s' : Names) (e rest : Exp) (ss : List Step) (u : ℕ) → tree_of (reading t) e ≡ onto (map (step_of (reading t)) ss) (tree_of (reading t) rest) → D' ≡ D
      → Brings t m D u s s' (onto (map (step_of (reading t)) ss)) → IsExp t m D' s' rest u → IsExp t m D s e u
  steps-fit m D D' s s' e rest ss u i d b p = record {
    fits = subst (λ c. ExpFits (table_of t) m D (all t s) (local t s) c (type_at t.types u)) (sym i)
        (b.whole (tree_of (reading t) rest) (type_at t.types u) (λ _. refl) (subst (λ D. ExpFits (table_of t) m D (all t s') (local t s') (tree_of (reading t) rest) (type_at t.types u)) d p.fits));
  }

  pub steps-misfit : (m : Bool) (D D' : List Quantified) (s s' : Names) (e rest : Exp) (ss : List Step) (u : ℕ) → tree_of (reading t) e ≡ onto (map (step_of (reading t)) ss) (tree_of (reading t) rest) → D' ≡ D
      → Brings t m D u s s' (onto (map (step_of (reading t)) ss)) → (IsExp t m D' s' rest u → ⊥) → IsExp t m D s e u → ⊥
  steps-misfit m D D' s s' e rest ss u i d b n p = n (record {
    fits = subst (λ D. ExpFits (table_of t) m D (all t s') (local t s') (tree_of (reading t) rest) (type_at t.types u)) (sym d)
        (b.back (tree_of (reading t) rest) (type_at t.types u) (λ _. refl) (subst (λ c. ExpFits (table_of t) m D (all t s) (local t s) c (type_at t.types u)) i p.fits));
  })

  pub steps-refused : (m : Bool) (D : List Quantified) (s : Names) (e rest : Exp) (ss : List Step) (u : ℕ) → tree_of (reading t) e ≡ onto (map (step_of (reading t)) ss) (tree_of (reading t) rest)
      → Refuses t m D u s (onto (map (step_of (reading t)) ss)) → IsExp t m D s e u → ⊥
  steps-refused m D s e rest ss u i r p =
      r.never (tree_of (reading t) rest) (type_at t.types u) (λ _. refl) (subst (λ c. ExpFits (table_of t) m D (all t s) (local t s) c (type_at t.types u)) i p.fits)

  -- an expression whose clean tree is known

  pub exp-is : (m : Bool) (D : List Quantified) (s : Names) (e : Exp) (c : clean.Exp poly) (u : ℕ) → tree_of (reading t) e ≡ c → ExpFits (table_of t) m D (all t s) (local t s) c (type_at t.types u) → IsExp t m D s e u
  exp-is m D s e c u i p = record { fits = subst (λ c. ExpFits (table_of t) m D (all t s) (local t s) c (type_at t.types u)) (sym i) p }

  pub exp-was : (m : Bool) (D : List Quantified) (s : Names) (e : Exp) (c : clean.Exp poly) (u : ℕ) → tree_of (reading t) e ≡ c → IsExp t m D s e u → ExpFits (table_of t) m D (all t s) (local t s) c (type_at t.types u)
  exp-was m D s e c u i p = subst (λ c. ExpFits (table_of t) m D (all t s) (local t s) c (type_at t.types u)) i p.fits

  -- lists

  pub arms-fit : (D : List Quantified) (s : Names) (u v : ℕ) (as_ : List Arm) → Each (IsArm t D s u v) as_
      → ArmsFit (table_of t) D (all t s) (local t s) (arms_of (map (arm_of (reading t)) as_)) (type_at t.types u) (type_at t.types v)
  arms-fit D s u v [] p = tt
  arms-fit D s u v (a ∷ as_) (p, ps) = (p.case, p.body, arms-fit D s u v as_ ps)

  pub fit-arms : (D : List Quantified) (s : Names) (u v : ℕ) (as_ : List Arm) → ArmsFit (table_of t) D (all t s) (local t s) (arms_of (map (arm_of (reading t)) as_)) (type_at t.types u) (type_at t.types v)
      → Each (IsArm t D s u v) as_
  fit-arms D s u v [] p = tt
  fit-arms D s u v (a ∷ as_) (p, q, ps) = (record { case = p; body = q }, fit-arms D s u v as_ ps)

  pub firsts-fit : (m : Bool) (D : List Quantified) (s : Names) (u : ℕ) (es : List Exp) (d : clean.Exp poly) → Each (λ e. IsExp t true D s e u) es → ExpFits (table_of t) m D (all t s) (local t s) d (type_at t.types u)
      → ExpFits (table_of t) m D (all t s) (local t s) (firsts (map (tree_of (reading t)) es) d) (type_at t.types u)
  firsts-fit m D s u [] d p q = q
  firsts-fit m D s u (e ∷ es) d (p, ps) q = (p.fits, firsts-fit m D s u es d ps q)

  pub fit-firsts : (m : Bool) (D : List Quantified) (s : Names) (u : ℕ) (es : List Exp) (d : clean.Exp poly) → ExpFits (table_of t) m D (all t s) (local t s) (firsts (map (tree_of (reading t)) es) d) (type_at t.types u)
      → Each (λ e. IsExp t true D s e u) es × ExpFits (table_of t) m D (all t s) (local t s) d (type_at t.types u)
  fit-firsts m D s u [] d p = (tt, p)
  fit-firsts m D s u (e ∷ es) d (p, q) = let r : Each (λ e. IsExp t true D s e u) es × ExpFits (table_of t) m D (all t s) (local t s) d (type_at t.types u) = fit-firsts m D s u es d q in ((record { fits = p }, r.0), r.1)

  pub functions-fit : (D : List Quantified) (s : Names) (fs : List Function) → Each (IsFunction t D s) fs → FunsFit (table_of t) D (all t s) (funs_of (map (function_of (reading t)) fs))
  functions-fit D s [] p = tt
  functions-fit D s (f ∷ fs) (p, ps) = (p.type, p.function, functions-fit D s fs ps)

  pub fit-functions : (D : List Quantified) (s : Names) (fs : List Function) → FunsFit (table_of t) D (all t s) (funs_of (map (function_of (reading t)) fs)) → Each (IsFunction t D s) fs
  fit-functions D s [] p = tt
  fit-functions D s (f ∷ fs) (p, q, ps) = (record { type = p; function = q }, fit-functions D s fs ps)

  -- first attempts

  pub first-fits : (m : Bool) (D D' : List Quantified) (s s' : Names) (e d : Exp) (es : List Exp) (u : ℕ) → tree_of (reading t) e ≡ firsts (map (tree_of (reading t)) es) (tree_of (reading t) d) → D' ≡ D → s' ≡ s
      → Each (λ e. IsExp t true D s e u) es → IsExp t m D' s' d u → IsExp t m D s e u
  first-fits m D D' s s' e d es u i j k ps p = exp-is m D s e _ u i (firsts-fit m D s u es (tree_of (reading t) d) ps
      (subst (λ D. ExpFits (table_of t) m D (all t s) (local t s) (tree_of (reading t) d) (type_at t.types u)) j
      (subst (λ s. ExpFits (table_of t) m D' (all t s) (local t s) (tree_of (reading t) d) (type_at t.types u)) k p.fits)))

  pub first-misfits : (m : Bool) (D : List Quantified) (s : Names) (e d : Exp) (es : List Exp) (u : ℕ) → tree_of (reading t) e ≡ firsts (map (tree_of (reading t)) es) (tree_of (reading t) d)
      → (Each (λ e. IsExp t true D s e u) es → ⊥) → IsExp t m D s e u → ⊥
  first-misfits m D s e d es u i n p = n (fit-firsts m D s u es (tree_of (reading t) d) (exp-was m D s e _ u i p)).0

  pub last-misfits : (m : Bool) (D D' : List Quantified) (s s' : Names) (e d : Exp) (es : List Exp) (u : ℕ) → tree_of (reading t) e ≡ firsts (map (tree_of (reading t)) es) (tree_of (reading t) d) → D' ≡ D → s' ≡ s
      → (IsExp t m D' s' d u → ⊥) → IsExp t m D s e u → ⊥
  last-misfits m D D' s s' e d es u i j k n p = n (record {
    fits = subst (λ s. ExpFits (table_of t) m D' (all t s) (local t s) (tree_of (reading t) d) (type_at t.types u)) (sym k)
        (subst (λ D. ExpFits (table_of t) m D (all t s) (local t s) (tree_of (reading t) d) (type_at t.types u)) (sym j) (fit-firsts m D s u es (tree_of (reading t) d) (exp-was m D s e _ u i p)).1);
  })

  -- arms

  pub arm-fits : (D D' : List Quantified) (s s' : Names) (u v : ℕ) (a : Arm) (b : Exp) (c : clean.Case poly) → (arm_of (reading t) a).case ≡ c → (arm_of (reading t) a).body ≡ tree_of (reading t) b → D' ≡ D
      → Opens t D s s' c u → IsExp t true D' s' b v → IsArm t D s u v a
  arm-fits D D' s s' u v a b c i j d o p = record {
    case = subst (λ c. CaseFits (table_of t) D (all t s) (local t s) c (type_at t.types u)) (sym i) o.case;
    body = subst (λ c. ExpFits (table_of t) true D (case_onto c (all t s)) (case_onto c (local t s)) (arm_of (reading t) a).body (type_at t.types v)) (sym i)
        (subst (λ e. ExpFits (table_of t) true D (case_onto c (all t s)) (case_onto c (local t s)) e (type_at t.types v)) (sym j)
        (subst (λ G. ExpFits (table_of t) true D G (case_onto c (local t s)) (tree_of (reading t) b) (type_at t.types v)) o.onto_all
        (subst (λ L. ExpFits (table_of t) true D (all t s') L (tree_of (reading t) b) (type_at t.types v)) o.onto_local
        (subst (λ D. ExpFits (table_of t) true D (all t s') (local t s') (tree_of (reading t) b) (type_at t.types v)) d p.fits))));
  }

  pub arm-misfits : (D D' : List Quantified) (s s' : Names) (u v : ℕ) (a : Arm) (b : Exp) (c : clean.Case poly) → (arm_of (reading t) a).case ≡ c → (arm_of (reading t) a).body ≡ tree_of (reading t) b → D' ≡ D
      → Opens t D s s' c u → (IsExp t true D' s' b v → ⊥) → IsArm t D s u v a → ⊥
  arm-misfits D D' s s' u v a b c i j d o n p = n (record {
    fits = subst (λ D. ExpFits (table_of t) true D (all t s') (local t s') (tree_of (reading t) b) (type_at t.types v)) (sym d)
        (subst (λ L. ExpFits (table_of t) true D (all t s') L (tree_of (reading t) b) (type_at t.types v)) (sym o.onto_local)
        (subst (λ G. ExpFits (table_of t) true D G (case_onto c (local t s)) (tree_of (reading t) b) (type_at t.types v)) (sym o.onto_all)
        (subst (λ e. ExpFits (table_of t) true D (case_onto c (all t s)) (case_onto c (local t s)) e (type_at t.types v)) j
        (subst (λ c. ExpFits (table_of t) true D (case_onto c (all t s)) (case_onto c (local t s)) (arm_of (reading t) a).body (type_at t.types v)) i p.body))));
  })

  pub case-misfits : (D : List Quantified) (s : Names) (u v : ℕ) (a : Arm) (c : clean.Case poly) → (arm_of (reading t) a).case ≡ c → (CaseFits (table_of t) D (all t s) (local t s) c (type_at t.types u) → ⊥) → IsArm t D s u v a → ⊥
  case-misfits D s u v a c i n p = n (subst (λ c. CaseFits (table_of t) D (all t s) (local t s) c (type_at t.types u)) i p.case)
