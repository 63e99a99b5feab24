-- The world inside a declaration.
use Rattle.std.proofs.Common.{◌≡◌, ◌<◌, ◌≤◌, ◌⊎◌, inl, inr, ◌||◌, ◌&&◌, not, ℕ, zero, suc, Bool, true, false, nat_eq, nat_lt, if◌then◌else◌, List, [], ◌∷◌, ◌++◌, refl, sym, ap, subst, ◌∙◌, arith}
use Rattle.std.proofs.lemmas.Bool.{ltb-true, ltb-false, lt-ltb}
use Rattle.ty_core.specs.Types.{Typ, Typs, var, con, none, more}
use Rattle.ty_core.specs.declared.mark.Mark.{Mark}
use Rattle.ty_core.specs.declared.scheme.Quantified.{Quantified}
use Rattle.ty_solve.specs.Limits.{LimitedAt}
use Rattle.ty_solve.specs.Substitution.{Entry, free, bound, row, Meets, Solves, is_in, is_open}
use Rattle.ty_solve.specs.Weight.{WeighsAt, BelowAt}
use Rattle.ty_solve.proofs.Slots.{seen-past}
use Rattle.ir_poly.specs.Types.{in_scope, admits_in, is_equality, over}
use Rattle.ir_tables.specs.Tables.{parameters_of}
use Rattle.elab_state.specs.States.{made, said_in, limit_in, general_in, all_parameters, dead_level}
use Rattle.elab_state.specs.Generalising.{inside, Generalises}
use Rattle.elab_state.proofs.Generalising.{scope-front, scope-behind}
use Rattle.elab_state.proofs.Solving.{over-more, over-deeper}
use Rattle.elab_state.proofs.Typed.{in-below, over-sub}
use Rattle.elab_state.specs.declared.state.State.{State}
use Rattle.elab_steps.specs.World.{World, Comes}
use Rattle.general_worlds.specs.Tidy.{Ends, mark_in}
use Rattle.general_worlds.specs.Inner.{inner_admits, IsInside, ComesInside}
use Rattle.general_worlds.proofs.Scoping.{scope-either, admits-front, admits-behind, new-beside, last-general, earlier-general, not-in, lighter, over-in}
use Rattle.elab_steps.proofs.Keeping.{limit-in}
use Rattle.general_worlds.proofs.Admitting.{AgreeIn, meets-same}

module _ (l : ℕ) (qs : List Quantified) (S T : State) (E : Ends l qs S T) (W : World) (c : Comes T W) where
  abbrev G : Generalises (made S) (said_in S) (limit_in S) (limit_in T) (general_in S) qs l
  G = E.generalises

  abbrev D : ℕ → List Quantified
  D = W.parameters

  now-general : (v : ℕ) → in_scope qs v ≡ true → in_scope (general_in T) v ≡ true
  now-general v i = subst (λ ps. in_scope (all_parameters ps) v ≡ true) (sym E.lists) (last-general (parameters_of S.tables) qs v i)

  was-general : (v : ℕ) → in_scope (general_in S) v ≡ true → in_scope (general_in T) v ≡ true
  was-general v i = subst (λ ps. in_scope (all_parameters ps) v ≡ true) (sym E.lists) (earlier-general (parameters_of S.tables) qs v i)

  -- the parameters are new
  fresh : (k v : ℕ) → in_scope (D k) v ≡ true → in_scope qs v ≡ false
  fresh k v i = not-in (in_scope qs v) (in_scope (general_in T) v) (c.apart k v i) (now-general v)

  not-before : (v : ℕ) → in_scope (general_in S) v ≡ true → in_scope qs v ≡ false
  not-before v i = by (in_scope qs v) refl
    where
      by : (b : Bool) → in_scope qs v ≡ b → b ≡ false
      by true e = absurd (let a = G.done v i in let d = G.only v e in let f = G.low in omega (arith, a, d, f))
      by false e = refl

  itself-of : (v : ℕ) → in_scope qs v ≡ true → W.value v ≡ var v
  itself-of v i = c.itself v (now-general v i)

  -- what stands for variables of the declaration is over its parameters

  outer-over : (v : ℕ) → v < made S → (limit_in S v).level ≤ l → over (D (limit_in S v).level) (W.value v) ≡ true
  outer-over v lt le =
      subst (λ k. over (D k) (W.value v) ≡ true) (G.outer v le)
      (c.within v (let m = E.made in omega (arith, lt, m)) (let a = G.outer v le in let d = G.low in omega (arith, le, a, d)))

  wider : (v : ℕ) → v < made S → (limit_in S v).level ≤ l → over (D l) (W.value v) ≡ true
  wider v lt le = over-deeper D W.nested (limit_in S v).level l (W.value v) le (outer-over v lt le)

  parameter-over : (v : ℕ) → in_scope qs v ≡ true → over (qs ++ D l) (W.value v) ≡ true
  parameter-over v i = subst (λ t. over (qs ++ D l) t ≡ true) (sym (itself-of v i)) (scope-front qs (D l) v i)

  solved : (v : ℕ) → Meets W.admits W.value (W.value v) (said_in S v)
  solved v = subst (λ s. Meets W.admits W.value (W.value v) (s v)) E.said (c.solves v)

  abbrev weights : ℕ → ℕ
  weights = S.solver.subst.acyclic.0

  at-entry : (v : ℕ) (e : Entry) → said_in S v ≡ e → v < made S → (limit_in S v).level ≡ suc l → WeighsAt weights (weights v) e → BelowAt (made S) e
      → LimitedAt (limit_in S) (limit_in S v) e → Meets W.admits W.value (W.value v) e
      → ((x : ℕ) → weights x < weights v → x < made S → (limit_in S x).level ≤ suc l → over (qs ++ D l) (W.value x) ≡ true) → over (qs ++ D l) (W.value v) ≡ true
  at-entry v (free k) is lt lv w bl li me f = parameter-over v (G.all v lt (ap is_open is) lv)
  at-entry v (row d ks us) is lt lv w bl li me f = parameter-over v (G.all v lt (ap is_open is) lv)
  at-entry v (bound t) is lt lv w bl li me f =
      subst (λ u. over (qs ++ D l) u ≡ true) (sym me) (over-sub (qs ++ D l) W.value t (λ x i.
      let z = lighter weights x t i in let r = (limit-in (limit_in S) (limit_in S v) x t li i).1 in
      f x (omega (arith, z, w)) (in-below (made S) x t i bl) (omega (arith, r, lv))))

  level-over : (k v : ℕ) → weights v < k → v < made S → (limit_in S v).level ≤ suc l → over (qs ++ D l) (W.value v) ≡ true
  level-over zero v w lt le = absurd (omega (arith, w))
  level-over (suc k) v w lt le = by (nat_lt l (limit_in S v).level) refl (level-over k)
    where
      by : (o : Bool) → nat_lt l (limit_in S v).level ≡ o → ((x : ℕ) → weights x < k → x < made S → (limit_in S x).level ≤ suc l → over (qs ++ D l) (W.value x) ≡ true)
          → over (qs ++ D l) (W.value v) ≡ true
      by true e f =
          let a = ltb-true l (limit_in S v).level e in
          at-entry v (said_in S v) refl lt (omega (arith, a, le)) (S.solver.subst.acyclic.1 v) (S.solver.subst.below v) (S.solver.limited v) (solved v)
          (λ x m. f x (omega (arith, m, w)))
      by false e f =
          let a = ltb-false l (limit_in S v).level e in
          over-more (D l) (qs ++ D l) (λ x. scope-behind qs (D l) x) (W.value v) (wider v lt (omega (arith, a)))

  inner-list : (P : List Quantified → Type 0) (k : ℕ) → (l < k → P (qs ++ D l)) → (k ≤ l → P (D k)) → P (inside D l qs k)
  inner-list P k f e = by (nat_lt l k) refl
    where
      by : (o : Bool) → nat_lt l k ≡ o → P (if o then qs ++ D l else D k)
      by true i = f (ltb-true l k i)
      by false i = e (let a = ltb-false l k i in omega (arith, a))

  inner-within : (v : ℕ) → v < made S → (limit_in S v).level < dead_level → over (inside D l qs (limit_in S v).level) (W.value v) ≡ true
  inner-within v lt alive = inner-list (λ r. over r (W.value v) ≡ true) (limit_in S v).level (λ i. by i (G.settled v lt)) (λ i. outer-over v lt i)
    where
      by : l < (limit_in S v).level → ((limit_in S v).level ≤ suc l) ⊎ ((limit_in S v).level ≡ dead_level) → over (qs ++ D l) (W.value v) ≡ true
      by i (inl e) = level-over (suc (weights v)) v (omega arith) lt e
      by i (inr e) = absurd (omega (arith, e, alive))

  inner-nested : (k v : ℕ) → in_scope (inside D l qs k) v ≡ true → in_scope (inside D l qs (suc k)) v ≡ true
  inner-nested k v i = inner-list (λ r. in_scope r v ≡ true) (suc k) (λ o. up o) (λ o. W.nested k v (down o i))
    where
      down : suc k ≤ l → in_scope (inside D l qs k) v ≡ true → in_scope (D k) v ≡ true
      down o j = subst (λ e. in_scope (if e then qs ++ D l else D k) v ≡ true) (at (nat_lt l k) refl) j
        where
          at : (e : Bool) → nat_lt l k ≡ e → nat_lt l k ≡ false
          at true e = absurd (let a = ltb-true l k e in omega (arith, a, o))
          at false e = e

      up : l < suc k → in_scope (qs ++ D l) v ≡ true
      up o = by (nat_lt l k) refl i
        where
          by : (e : Bool) → nat_lt l k ≡ e → in_scope (if e then qs ++ D l else D k) v ≡ true → in_scope (qs ++ D l) v ≡ true
          by true e j = j
          by false e j =
              let a = ltb-false l k e in
              let same : k ≡ l = omega (arith, a, o) in
              scope-behind qs (D l) v (subst (λ m. in_scope (D m) v ≡ true) same j)

  -- who admits equality

  as-marked : (v : ℕ) → in_scope qs v ≡ true → inner_admits W qs v ≡ admits_in qs v
  as-marked v i = ap (λ b. if b then admits_in qs v else W.admits v) i

  as-outside : (v : ℕ) → in_scope qs v ≡ false → inner_admits W qs v ≡ W.admits v
  as-outside v i = ap (λ b. if b then admits_in qs v else W.admits v) i

  inner-admitted : (k v : ℕ) → in_scope (inside D l qs k) v ≡ true → admits_in (inside D l qs k) v ≡ inner_admits W qs v
  inner-admitted k v = inner-list (λ r. in_scope r v ≡ true → admits_in r v ≡ inner_admits W qs v) k (λ o i. by (in_scope qs v) refl i)
      (λ o i. W.admitted k v i ∙ sym (as-outside v (fresh k v i)))
    where
      by : (e : Bool) → in_scope qs v ≡ e → in_scope (qs ++ D l) v ≡ true → admits_in (qs ++ D l) v ≡ inner_admits W qs v
      by true e i = admits-front qs (D l) v e ∙ sym (as-marked v e)
      by false e i = admits-behind qs (D l) v e ∙ W.admitted l v (scope-either qs (D l) v i e) ∙ sym (as-outside v e)

  agrees : (k v : ℕ) → over (D k) (W.value v) ≡ true → AgreeIn W.admits (inner_admits W qs) (W.value v)
  agrees k v o x i = sym (as-outside x (fresh k x (over-in (D k) x (W.value v) o i)))

  agrees-itself : (v : ℕ) → W.value v ≡ var v → in_scope qs v ≡ false → AgreeIn W.admits (inner_admits W qs) (W.value v)
  agrees-itself v e n x i =
      let same : v ≡ x = Rattle.std.proofs.lemmas.Bool.eqb-true v x (subst (λ t. is_in x t ≡ true) e i) in
      subst (λ y. W.admits y ≡ inner_admits W qs y) same (sym (as-outside v n))

  admits-mark : (ps : List Quantified) (v : ℕ) → in_scope ps v ≡ true → admits_in ps v ≡ is_equality (mark_in ps v)
  admits-mark [] v i = cc
  admits-mark (p ∷ ps) v i = by (nat_eq p.variable v) i (admits-mark ps v)
    where
      by : (b : Bool) → (b || in_scope ps v) ≡ true → (in_scope ps v ≡ true → admits_in ps v ≡ is_equality (mark_in ps v))
          → (if b then is_equality p.mark else admits_in ps v) ≡ is_equality (if b then p.mark else mark_in ps v)
      by true i f = refl
      by false i f = f i

  -- a parameter meets what is said of it
  meets-parameter : (v : ℕ) (k : Mark) → in_scope qs v ≡ true → mark_in qs v ≡ k → Meets W.admits W.value (W.value v) (free k)
      → Meets (inner_admits W qs) W.value (W.value v) (free k)
  meets-parameter v Mark.Any i e h = tt
  meets-parameter v Mark.Equality i e h =
      subst (λ t. Rattle.ty_core.specs.Types.admits (inner_admits W qs) t ≡ true) (sym (itself-of v i)) (as-marked v i ∙ admits-mark qs v i ∙ ap is_equality e)
  meets-parameter v (Mark.Class k) i e h = h

  inner-open : (v : ℕ) (e : Entry) → said_in S v ≡ e → is_open e ≡ true → v < made S → Meets W.admits W.value (W.value v) e → Meets (inner_admits W qs) W.value (W.value v) e
  inner-open v e is o lt h = by (in_scope qs v) refl (G.settled v lt) (nat_lt l (limit_in S v).level) refl
    where
      by : (b : Bool) → in_scope qs v ≡ b → ((limit_in S v).level ≤ suc l) ⊎ ((limit_in S v).level ≡ dead_level) → (d : Bool) → nat_lt l (limit_in S v).level ≡ d
          → Meets (inner_admits W qs) W.value (W.value v) e
      by true i s d q =
          let at : e ≡ free (mark_in qs v) = sym is ∙ E.marks v i in
          subst (Meets (inner_admits W qs) W.value (W.value v)) (sym at) (meets-parameter v (mark_in qs v) i refl (subst (Meets W.admits W.value (W.value v)) at h))
      by false i (inr s) d q =
          let g = E.ended v lt (ap is_open is ∙ o) s in
          meets-same W.admits (inner_admits W qs) W.value (W.value v) e (agrees-itself v (c.itself v (was-general v g)) i) h
      by false i (inl s) true q =
          absurd (let a = ltb-true l (limit_in S v).level q in let g = G.all v lt (ap is_open is ∙ o) (omega (arith, a, s)) in (let z = sym i ∙ g in cc))
      by false i (inl s) false q =
          let a = ltb-false l (limit_in S v).level q in
          meets-same W.admits (inner_admits W qs) W.value (W.value v) e (agrees l v (wider v lt (omega (arith, a)))) h

  inner-meets : (v : ℕ) (e : Entry) → said_in S v ≡ e → v < made S → Meets W.admits W.value (W.value v) e → Meets (inner_admits W qs) W.value (W.value v) e
  inner-meets v (free k) is lt h = inner-open v (free k) is refl lt h
  inner-meets v (bound t) is lt h = h
  inner-meets v (row d ks us) is lt h = inner-open v (row d ks us) is refl lt h

  inner-solves : Solves (inner_admits W qs) W.value (said_in S)
  inner-solves v = by (nat_lt v (made S)) refl
    where
      by : (b : Bool) → nat_lt v (made S) ≡ b → Meets (inner_admits W qs) W.value (W.value v) (said_in S v)
      by true e = inner-meets v (said_in S v) refl (ltb-true v (made S) e) (solved v)
      by false e =
          let a = ltb-false v (made S) e in
          subst (Meets (inner_admits W qs) W.value (W.value v)) (sym (seen-past S.solver.subst.types S.solver.subst.slots.items v (omega (arith, a)))) tt

  inner-apart : (k v : ℕ) → in_scope (inside D l qs k) v ≡ true → in_scope (general_in S) v ≡ false
  inner-apart k v = inner-list (λ r. in_scope r v ≡ true → in_scope (general_in S) v ≡ false) k (λ o i. by (in_scope qs v) refl i) (λ o i. outside k i)
    where
      outside : (k : ℕ) → in_scope (D k) v ≡ true → in_scope (general_in S) v ≡ false
      outside k i = not-in (in_scope (general_in S) v) (in_scope (general_in T) v) (c.apart k v i) (was-general v)

      by : (e : Bool) → in_scope qs v ≡ e → in_scope (qs ++ D l) v ≡ true → in_scope (general_in S) v ≡ false
      by true e i = inner (in_scope (general_in S) v) refl
        where
          inner : (b : Bool) → in_scope (general_in S) v ≡ b → b ≡ false
          inner true g = let n = sym (not-before v g) ∙ e in cc
          inner false g = refl
      by false e i = outside l (scope-either qs (D l) v i e)

  inner-inside : IsInside W l qs
  inner-inside = record {
    new = new-beside qs (D l) G.declarable (λ v i. not-in (in_scope (D l) v) false refl (λ o. sym (fresh l v o) ∙ i));
    nested = inner-nested;
    admitted = inner-admitted;
  }

  pub comes-inside : ComesInside S W l qs
  comes-inside = record {
    inside = inner-inside;
    comes = record {
      solves = inner-solves;
      names = λ v lt. subst (λ n. Rattle.core_rules.specs.Objects.Over n (W.value v)) (G.names v) (c.names v (let m = E.made in omega (arith, lt, m)));
      within = inner-within;
      itself = λ v i. c.itself v (was-general v i);
      apart = inner-apart;
      types = λ k lt. subst (λ ts. k < Rattle.std.proofs.Common.length ts → W.raw k ≡ Rattle.ty_table.specs.TypeAt.type_at ts k) E.types (c.types k) lt;
      written = λ k w e. c.written k w (ap (λ ws. Rattle.std.proofs.Common.slice_get ws k) E.written ∙ e);
      namings = λ k r e. c.namings k r (ap (λ ws. Rattle.std.proofs.Common.slice_get ws k) E.namings ∙ e);
      lists = λ k ps e. c.lists k ps (ap (λ ws. Rattle.std.proofs.Common.slice_get ws k) E.lists ∙ first (parameters_of S.tables) k ps e);
      strings = λ k s e. c.strings k s (ap (λ ws. Rattle.std.proofs.Common.slice_get ws k) E.strings ∙ e);
      rows = λ y k row e. c.rows y k row (ap (λ t. Rattle.ir_poly.specs.Types.find t y k) E.rows ∙ e);
    };
  }
    where
      first : (pss : List (List Quantified)) (k : ℕ) (ps : List Quantified) → Rattle.std.proofs.Common.slice_get pss k ≡ Rattle.std.proofs.Common.Some ps
          → Rattle.std.proofs.Common.slice_get (pss ++ qs ∷ []) k ≡ Rattle.std.proofs.Common.Some ps
      first [] k ps e = cc
      first (p ∷ pss) zero ps e = e
      first (p ∷ pss) (suc k) ps e = first pss k ps e
