-- Bindings of operations that hold expressions, and groups.
use Rattle.std.proofs.Common.{◌≡◌, ◌↔◌, ℕ, Bool, true, false, List, [], ◌∷◌, ◌++◌, map, length, Option, Some, None, IsTrue, refl, sym, ap, ◌∙◌, subst}
use Rattle.ty_core.specs.Types.{Typ}
use Rattle.ty_core.specs.declared.scheme.Quantified.{Quantified}
use Rattle.ty_table.specs.TypeAt.{type_at}
use Rattle.ir_plain.specs.Tree as clean
use Rattle.ir_plain.specs.Tree.{is_value_op}
use Rattle.ir_poly.specs.Tests.{poly, inst}
use Rattle.ir_poly.specs.Types.{over, are_new}
use Rattle.ir_poly.specs.TestsChecked.{Knowns, at, of_type, exn_type, group_knowns, own, may_generalise}
use Rattle.ir_tables.specs.declared.tables.Tables.{Tables}
use Rattle.ir_tables.specs.Tables.{parameters_of, parameters_at}
use Rattle.ir_known.specs.declared.known.Known.{Known}
use Rattle.ir_known.specs.declared.known.Known.TheVariants.{OfType}
use Rattle.ir_known.specs.declared.scope.Mark.{Mark}
use Rattle.plain_tree.specs.declared.tree.Exp.{Exp}
use Rattle.plain_tree.specs.declared.tree.Binding.{Binding}
use Rattle.plain_tree.specs.declared.tree.Function.{Function}
use Rattle.plain_tree.specs.declared.tree.Parameter.{Parameter}
use Rattle.plain_tree.specs.TreeOf.{StepTree, put, arms_of, funs_of, fun_of, tree_of, arm_of, function_of, test_step, rec_step}
use Rattle.tests_check.specs.Fits.{ExpFits, ArmsFit, AtomFits, CaseFits, OpFits, FunFits, FunsFit, FunsNew, case_onto}
use Rattle.tests_check.specs.Reads.{reading}
use Rattle.tests_check.specs.Walk.{Names, all, local, table_of, Each, IsExp, IsArm, IsFunction, IsGroup, IsLet, IsOpen, IsSince, Brings, Refuses, Opens, Enters, EntersNone, Gathers, Grows, known_as}
use Rattle.tests_check.specs.declared.group.Standing.TheVariants.{Inside, Over}
use Rattle.tests_check.proofs.Exps.{functions-fit, fit-functions, fit-arms, arms-fit}

pub value-may : (qs : List Quantified) (o : clean.Op poly) → is_value_op o ≡ true → may_generalise qs o ≡ true
value-may [] o e = refl
value-may (q ∷ qs) o e = e

-- a mark was made here, and one or more came in
pub since-more : (s now : Names) (mark : Mark) (added : List (ℕ × Known)) → now.0 ++ now.1 ≡ added ++ (s.0 ++ s.1) → mark.len ≡ length (s.0 ++ s.1) → mark.start ≡ length s.1 → IsSince now s mark
since-more s now mark added w l b = record { added = added; within = w; len = l; start = b }

module _ (t : Tables) where
  abbrev params : Binding → List Quantified
  params b = parameters_at (parameters_of t) b.parameters

  pub fn-fits : (D D' : List Quantified) (s s' : Names) (b : Binding) (xs : List Parameter) (x : Parameter) (body : Exp) (v : ℕ) → IsOpen t D b → D' ≡ params b ++ D → Enters t D' s s' xs x b.ty v → IsExp t false D' s' body v
      → at (all t s) b.variable ≡ None → IsLet t D s b (clean.fn (fun_of (reading t) xs x (tree_of (reading t) body)))
  fn-fits D D' s s' b xs x body v o d i p n = record {
    generalised = value-may (params b) (clean.fn (fun_of (reading t) xs x (tree_of (reading t) body))) refl;
    opened = o;
    operation = subst (λ D. FunFits (table_of t) D (all t s) (fun_of (reading t) xs x (tree_of (reading t) body)) (type_at t.types b.ty)) d (i.whole (tree_of (reading t) body) p.fits);
    new = n;
  }

  pub fn-unentered : (D D' : List Quantified) (s : Names) (b : Binding) (xs : List Parameter) (x : Parameter) (body : Exp) → D' ≡ params b ++ D → EntersNone t D' s xs x b.ty
      → IsLet t D s b (clean.fn (fun_of (reading t) xs x (tree_of (reading t) body))) → ⊥
  fn-unentered D D' s b xs x body d i l =
      i.never (tree_of (reading t) body) (subst (λ D. FunFits (table_of t) D (all t s) (fun_of (reading t) xs x (tree_of (reading t) body)) (type_at t.types b.ty)) (sym d) l.operation)

  pub fn-misfits : (D D' : List Quantified) (s s' : Names) (b : Binding) (xs : List Parameter) (x : Parameter) (body : Exp) (v : ℕ) → D' ≡ params b ++ D → Enters t D' s s' xs x b.ty v → (IsExp t false D' s' body v → ⊥)
      → IsLet t D s b (clean.fn (fun_of (reading t) xs x (tree_of (reading t) body))) → ⊥
  fn-misfits D D' s s' b xs x body v d i n l = n (record {
    fits = i.back (tree_of (reading t) body) (subst (λ D. FunFits (table_of t) D (all t s) (fun_of (reading t) xs x (tree_of (reading t) body)) (type_at t.types b.ty)) (sym d) l.operation);
  })

  pub block-fits : (D D' : List Quantified) (s : Names) (b : Binding) (body : Exp) → may_generalise (params b) (clean.block (tree_of (reading t) body)) ≡ true → IsOpen t D b → D' ≡ params b ++ D → IsExp t false D' s body b.ty
      → at (all t s) b.variable ≡ None → IsLet t D s b (clean.block (tree_of (reading t) body))
  block-fits D D' s b body m o d p n = record {
    generalised = m;
    opened = o;
    operation = subst (λ D. ExpFits (table_of t) false D (all t s) (local t s) (tree_of (reading t) body) (type_at t.types b.ty)) d p.fits;
    new = n;
  }

  pub block-misfits : (D D' : List Quantified) (s : Names) (b : Binding) (body : Exp) → D' ≡ params b ++ D → (IsExp t false D' s body b.ty → ⊥) → IsLet t D s b (clean.block (tree_of (reading t) body)) → ⊥
  block-misfits D D' s b body d n l = n (record {
    fits = subst (λ D. ExpFits (table_of t) false D (all t s) (local t s) (tree_of (reading t) body) (type_at t.types b.ty)) (sym d) l.operation;
  })

  -- a handler: the packet is of the type of exceptions
  module _ (exn : ℕ) (is : type_at t.types exn ≡ exn_type) where
    caught : (D D' : List Quantified) (s s' : Names) (x : ℕ) (h : Exp) (u : ℕ) → s' ≡ ((x, OfType exn) ∷ s.0, s.1) → D' ≡ D
        → IsExp t false D' s' h u → ExpFits (table_of t) false D ((x, of_type exn_type) ∷ all t s) ((x, of_type exn_type) ∷ local t s) (tree_of (reading t) h) (type_at t.types u)
    caught D D' s s' x h u i d p = subst (λ T. ExpFits (table_of t) false D ((x, of_type T) ∷ all t s) ((x, of_type T) ∷ local t s) (tree_of (reading t) h) (type_at t.types u)) is
        (subst (λ s. ExpFits (table_of t) false D (all t s) (local t s) (tree_of (reading t) h) (type_at t.types u)) i
        (subst (λ D. ExpFits (table_of t) false D (all t s') (local t s') (tree_of (reading t) h) (type_at t.types u)) d p.fits))

    uncaught : (D D' : List Quantified) (s s' : Names) (x : ℕ) (h : Exp) (u : ℕ) → s' ≡ ((x, OfType exn) ∷ s.0, s.1) → D' ≡ D
        → ExpFits (table_of t) false D ((x, of_type exn_type) ∷ all t s) ((x, of_type exn_type) ∷ local t s) (tree_of (reading t) h) (type_at t.types u) → IsExp t false D' s' h u
    uncaught D D' s s' x h u i d p = record {
      fits = subst (λ D. ExpFits (table_of t) false D (all t s') (local t s') (tree_of (reading t) h) (type_at t.types u)) (sym d)
          (subst (λ s. ExpFits (table_of t) false D (all t s) (local t s) (tree_of (reading t) h) (type_at t.types u)) (sym i)
          (subst (λ T. ExpFits (table_of t) false D ((x, of_type T) ∷ all t s) ((x, of_type T) ∷ local t s) (tree_of (reading t) h) (type_at t.types u)) (sym is) p));
    }

    -- s is what was in scope, s1 after the body, s2 with the packet
    pub handle-fits : (D D1 D2 : List Quantified) (s s1 s2 : Names) (b : Binding) (x : ℕ) (e h : Exp) → may_generalise (params b) (clean.handle (tree_of (reading t) e) x (tree_of (reading t) h)) ≡ true → IsOpen t D b
        → D1 ≡ params b ++ D → D2 ≡ D1 → s1 ≡ s → s2 ≡ ((x, OfType exn) ∷ s1.0, s1.1) → IsExp t false D1 s e b.ty → at (all t s1) x ≡ None → IsExp t false D2 s2 h b.ty → at (all t s) b.variable ≡ None
        → IsLet t D s b (clean.handle (tree_of (reading t) e) x (tree_of (reading t) h))
    handle-fits D D1 D2 s s1 s2 b x e h m o d d2 i j p f q n = record {
      generalised = m;
      opened = o;
      operation = (
        subst (λ D. ExpFits (table_of t) false D (all t s) (local t s) (tree_of (reading t) e) (type_at t.types b.ty)) d p.fits,
        subst (λ s. at (all t s) x ≡ None) i f,
        caught (params b ++ D) D2 s s2 x h b.ty (j ∙ ap (λ (s : Names). ((x, OfType exn) ∷ s.0, s.1)) i) (d2 ∙ d) q,
      );
      new = n;
    }

    pub tried-misfits : (D D1 : List Quantified) (s : Names) (b : Binding) (x : ℕ) (e h : Exp) → D1 ≡ params b ++ D → (IsExp t false D1 s e b.ty → ⊥) → IsLet t D s b (clean.handle (tree_of (reading t) e) x (tree_of (reading t) h)) → ⊥
    tried-misfits D D1 s b x e h d n l = n (record { fits = subst (λ D. ExpFits (table_of t) false D (all t s) (local t s) (tree_of (reading t) e) (type_at t.types b.ty)) (sym d) l.operation.0 })

    pub packet-known : (D : List Quantified) (s s1 : Names) (b : Binding) (x : ℕ) (e h : Exp) → s1 ≡ s → (at (all t s1) x ≡ None → ⊥) → IsLet t D s b (clean.handle (tree_of (reading t) e) x (tree_of (reading t) h)) → ⊥
    packet-known D s s1 b x e h i n l = n (subst (λ s. at (all t s) x ≡ None) (sym i) l.operation.1)

    pub handler-misfits : (D D1 D2 : List Quantified) (s s1 s2 : Names) (b : Binding) (x : ℕ) (e h : Exp) → D1 ≡ params b ++ D → D2 ≡ D1 → s1 ≡ s → s2 ≡ ((x, OfType exn) ∷ s1.0, s1.1) → (IsExp t false D2 s2 h b.ty → ⊥)
        → IsLet t D s b (clean.handle (tree_of (reading t) e) x (tree_of (reading t) h)) → ⊥
    handler-misfits D D1 D2 s s1 s2 b x e h d d2 i j n l = n (uncaught (params b ++ D) D2 s s2 x h b.ty (j ∙ ap (λ (s : Names). ((x, OfType exn) ∷ s.0, s.1)) i) (d2 ∙ d) l.operation.2)

  -- a group

  pub group-fits : (D D' : List Quantified) (s s' : Names) (ps : ℕ) (fs : List Function) → are_new (parameters_at (parameters_of t) ps) D ≡ true → D' ≡ parameters_at (parameters_of t) ps ++ D
      → Gathers t (known_as t Inside) s s' (funs_of (map (function_of (reading t)) fs)) → Each (IsFunction t D' s') fs → IsGroup t D s ps fs
  group-fits D D' s s' ps fs n d g p = record {
    new = n;
    each_new = g.each_new;
    bodies = subst (λ D. FunsFit (table_of t) D (group_knowns own (funs_of (map (function_of (reading t)) fs)) (all t s)) (funs_of (map (function_of (reading t)) fs))) d
        (subst (λ G. FunsFit (table_of t) D' G (funs_of (map (function_of (reading t)) fs))) g.onto_all (functions-fit t D' s' fs p));
  }

  pub group-misfits : (D D' : List Quantified) (s s' : Names) (ps : ℕ) (fs : List Function) → D' ≡ parameters_at (parameters_of t) ps ++ D
      → Gathers t (known_as t Inside) s s' (funs_of (map (function_of (reading t)) fs)) → (Each (IsFunction t D' s') fs → ⊥) → IsGroup t D s ps fs → ⊥
  group-misfits D D' s s' ps fs d g n i = n (fit-functions t D' s' fs
      (subst (λ G. FunsFit (table_of t) D' G (funs_of (map (function_of (reading t)) fs))) (sym g.onto_all)
      (subst (λ D. FunsFit (table_of t) D (group_knowns own (funs_of (map (function_of (reading t)) fs)) (all t s)) (funs_of (map (function_of (reading t)) fs))) (sym d) i.bodies)))

  pub group-brings : (m : Bool) (D : List Quantified) (v : ℕ) (old new : Names) (ps : ℕ) (fs : List Function) (s : StepTree poly) → s ≡ rec_step (parameters_at (parameters_of t) ps) (funs_of (map (function_of (reading t)) fs))
      → IsGroup t D old ps fs → Gathers t (known_as t (Over ps)) old new (funs_of (map (function_of (reading t)) fs)) → Brings t m D v old new (put s)
  group-brings m D v old new ps fs s e i g = subst (λ s. Brings t m D v old new (put s)) (sym e) (record {
    grows = g.grows;
    whole = λ c u _ p. (
      i.new,
      i.each_new,
      i.bodies,
      subst (λ G. ExpFits (table_of t) m D G (group_knowns (known_as t (Over ps)) (funs_of (map (function_of (reading t)) fs)) (local t old)) c u) g.onto_all
          (subst (λ L. ExpFits (table_of t) m D (all t new) L c u) g.onto_local p),
    );
    back = λ c u _ p. subst (λ L. ExpFits (table_of t) m D (all t new) L c u) (sym g.onto_local)
        (subst (λ G. ExpFits (table_of t) m D G (group_knowns (known_as t (Over ps)) (funs_of (map (function_of (reading t)) fs)) (local t old)) c u) (sym g.onto_all) p.3);
  })

  pub group-refuses : (m : Bool) (D : List Quantified) (v : ℕ) (old : Names) (ps : ℕ) (fs : List Function) (s : StepTree poly) → s ≡ rec_step (parameters_at (parameters_of t) ps) (funs_of (map (function_of (reading t)) fs))
      → (IsGroup t D old ps fs → ⊥) → Refuses t m D v old (put s)
  group-refuses m D v old ps fs s e n = subst (λ s. Refuses t m D v old (put s)) (sym e) (record {
    never = λ c u _ p. n (record { new = p.0; each_new = p.1; bodies = p.2 });
  })

  -- a function of a group

  pub function-fits : (D D' : List Quantified) (s s' : Names) (f : Function) (xs : List Parameter) (x : Parameter) (body : Exp) (u v : ℕ) → (function_of (reading t) f).type ≡ type_at t.types u
      → (function_of (reading t) f).function ≡ fun_of (reading t) xs x (tree_of (reading t) body) → over D (type_at t.types u) ≡ true → Enters t D s s' xs x u v → IsExp t false D s' body v → IsFunction t D s f
  function-fits D D' s s' f xs x body u v i j o e p = record {
    type = subst (λ T. over D T ≡ true) (sym i) o;
    function = subst (λ T. FunFits (table_of t) D (all t s) (function_of (reading t) f).function T) (sym i)
        (subst (λ g. FunFits (table_of t) D (all t s) g (type_at t.types u)) (sym j) (e.whole (tree_of (reading t) body) p.fits));
  }

  pub function-was : (D : List Quantified) (s : Names) (f : Function) (xs : List Parameter) (x : Parameter) (body : Exp) (u : ℕ) → (function_of (reading t) f).type ≡ type_at t.types u
      → (function_of (reading t) f).function ≡ fun_of (reading t) xs x (tree_of (reading t) body) → IsFunction t D s f → FunFits (table_of t) D (all t s) (fun_of (reading t) xs x (tree_of (reading t) body)) (type_at t.types u)
  function-was D s f xs x body u i j p = subst (λ g. FunFits (table_of t) D (all t s) g (type_at t.types u)) j (subst (λ T. FunFits (table_of t) D (all t s) (function_of (reading t) f).function T) i p.function)

  -- a test

  pub test-brings : (D D' : List Quantified) (v : ℕ) (old old' new : Names) (a u : ℕ) (c : clean.Case poly) (as_ : _) (s : StepTree poly) → s ≡ test_step (inst a []) (type_at t.types u) c (arms_of (map (arm_of (reading t)) as_))
      → AtomFits (local t old) (inst a []) (type_at t.types u) → Each (IsArm t D old u v) as_ → old' ≡ old → D' ≡ D → Opens t D' old' new c u → Brings t true D v old new (put s)
  test-brings D D' v old old' new a u c as_ s e f ps i d o = subst (λ s. Brings t true D v old new (put s)) (sym e) (record {
    grows = subst (λ s. Grows s new) i o.grows;
    whole = λ b w h p. (
      refl,
      f,
      (
        subst (λ D. CaseFits (table_of t) D (all t old) (local t old) c (type_at t.types u)) d (subst (λ s. CaseFits (table_of t) D' (all t s) (local t s) c (type_at t.types u)) i o.case),
        subst (λ s. ExpFits (table_of t) true D (case_onto c (all t s)) (case_onto c (local t s)) b w) i
            (subst (λ G. ExpFits (table_of t) true D G (case_onto c (local t old')) b w) o.onto_all (subst (λ L. ExpFits (table_of t) true D (all t new) L b w) o.onto_local p)),
        subst (ArmsFit (table_of t) D (all t old) (local t old) (arms_of (map (arm_of (reading t)) as_)) (type_at t.types u)) (sym (h refl)) (arms-fit t D old u v as_ ps),
      ),
    );
    back = λ b w h p. subst (λ L. ExpFits (table_of t) true D (all t new) L b w) (sym o.onto_local)
        (subst (λ G. ExpFits (table_of t) true D G (case_onto c (local t old')) b w) (sym o.onto_all)
        (subst (λ s. ExpFits (table_of t) true D (case_onto c (all t s)) (case_onto c (local t s)) b w) (sym i) p.2.1));
  })

  pub test-refuses : (m : Bool) (D : List Quantified) (v : ℕ) (old : Names) (a u : ℕ) (c : clean.Case poly) (as_ : _) (s : StepTree poly) → s ≡ test_step (inst a []) (type_at t.types u) c (arms_of (map (arm_of (reading t)) as_))
      → (m ≡ true → AtomFits (local t old) (inst a []) (type_at t.types u) → Each (IsArm t D old u v) as_ → CaseFits (table_of t) D (all t old) (local t old) c (type_at t.types u) → ⊥) → Refuses t m D v old (put s)
  test-refuses m D v old a u c as_ s e n = subst (λ s. Refuses t m D v old (put s)) (sym e) (record {
    never = λ b w h p. n p.0 p.1 (fit-arms t D old u v as_ (subst (ArmsFit (table_of t) D (all t old) (local t old) (arms_of (map (arm_of (reading t)) as_)) (type_at t.types u)) (h p.0) p.2.2)) p.2.0;
  })
