-- Generic solutions where a `val` declaration ends.
use Rattle.std.proofs.Common.{◌≡◌, ◌<◌, ◌≤◌, ◌⊎◌, inl, inr, ◌||◌, ◌&&◌, not, ℕ, zero, suc, Bool, true, false, nat_eq, nat_lt, if◌then◌else◌, List, [], ◌∷◌, ◌++◌, refl, sym, ap, subst, ◌∙◌, arith}
use Rattle.std.proofs.lemmas.Bool.{ltb-true, ltb-false, lt-ltb, and_parts, and_from}
use Rattle.ty_core.specs.Types.{Typ, Typs, var, con, none, more}
use Rattle.ty_core.specs.declared.scheme.Quantified.{Quantified}
use Rattle.ty_instance.specs.of_ty_solve.Limits.{NoFurther, Limited, AllLimited, LimitedAt, AreLimited, Over}
use Rattle.ty_instance.specs.of_ty_solve.Substitution.{Entry, free, bound, row, Meets, is_in, are_in, is_open}
use Rattle.ty_instance.specs.of_ty_solve.Weight.{weight, weights, WeighsAt, IsAcyclic, AreBelow, BelowAt}
use Rattle.ty_instance.specs.of_ty_solve.declared.limit.Limit.{Limit}
use Rattle.prog_tree.specs.of_ir_poly.Types.{in_scope, admits_in, is_equality, is_declarable, are_new, over}
use Rattle.elab_state.specs.States.{dead_level}
use Rattle.elab_state.specs.Generic.{Generic}
use Rattle.elab_state.specs.Generalising.{inside, Generalises, InnerSolution}
use Rattle.elab_state.proofs.Solving.{over-more, over-deeper}
use Rattle.elab_state.proofs.Typed.{either, in-below, over-sub}

-- parameters in front of others

pub scope-front : (qs rs : List Quantified) (v : ℕ) → in_scope qs v ≡ true → in_scope (qs ++ rs) v ≡ true
scope-front [] rs v h = cc
scope-front (q ∷ qs) rs v h = by (nat_eq q.variable v) h (scope-front qs rs v)
  where
    by : (b : Bool) → (b || in_scope qs v) ≡ true → (in_scope qs v ≡ true → in_scope (qs ++ rs) v ≡ true) → (b || in_scope (qs ++ rs) v) ≡ true
    by true h f = refl
    by false h f = f h

pub scope-behind : (qs rs : List Quantified) (v : ℕ) → in_scope rs v ≡ true → in_scope (qs ++ rs) v ≡ true
scope-behind [] rs v h = h
scope-behind (q ∷ qs) rs v h = by (nat_eq q.variable v) (scope-behind qs rs v h)
  where
    by : (b : Bool) → in_scope (qs ++ rs) v ≡ true → (b || in_scope (qs ++ rs) v) ≡ true
    by true h = refl
    by false h = h

scope-either : (qs rs : List Quantified) (v : ℕ) → in_scope (qs ++ rs) v ≡ true → in_scope qs v ≡ false → in_scope rs v ≡ true
scope-either [] rs v h e = h
scope-either (q ∷ qs) rs v h e = by (nat_eq q.variable v) h e (scope-either qs rs v)
  where
    by : (b : Bool) → (b || in_scope (qs ++ rs) v) ≡ true → (b || in_scope qs v) ≡ false → (in_scope (qs ++ rs) v ≡ true → in_scope qs v ≡ false → in_scope rs v ≡ true)
        → in_scope rs v ≡ true
    by true h e f = cc
    by false h e f = f h e

scope-none : (qs rs : List Quantified) (v : ℕ) → in_scope (qs ++ rs) v ≡ false → in_scope qs v ≡ false
scope-none qs rs v h = by (in_scope qs v) refl
  where
    by : (b : Bool) → in_scope qs v ≡ b → b ≡ false
    by true e = let a = scope-front qs rs v e in cc
    by false e = refl

admits-front : (qs rs : List Quantified) (v : ℕ) → in_scope qs v ≡ true → admits_in (qs ++ rs) v ≡ admits_in qs v
admits-front [] rs v h = cc
admits-front (q ∷ qs) rs v h = by (nat_eq q.variable v) h (admits-front qs rs v)
  where
    by : (b : Bool) → (b || in_scope qs v) ≡ true → (in_scope qs v ≡ true → admits_in (qs ++ rs) v ≡ admits_in qs v)
        → (if b then is_equality q.mark else admits_in (qs ++ rs) v) ≡ (if b then is_equality q.mark else admits_in qs v)
    by true h f = refl
    by false h f = f h

admits-behind : (qs rs : List Quantified) (v : ℕ) → in_scope qs v ≡ false → admits_in (qs ++ rs) v ≡ admits_in rs v
admits-behind [] rs v h = refl
admits-behind (q ∷ qs) rs v h = by (nat_eq q.variable v) h (admits-behind qs rs v)
  where
    by : (b : Bool) → (b || in_scope qs v) ≡ false → (in_scope qs v ≡ false → admits_in (qs ++ rs) v ≡ admits_in rs v)
        → (if b then is_equality q.mark else admits_in (qs ++ rs) v) ≡ admits_in rs v
    by true h f = cc
    by false h f = f h

new-beside : (qs rs : List Quantified) → are_new qs [] ≡ true → ((v : ℕ) → in_scope qs v ≡ true → in_scope rs v ≡ false) → are_new qs rs ≡ true
new-beside [] rs h k = refl
new-beside (q ∷ qs) rs h k =
    let p = and_parts (is_declarable q.mark) (not (in_scope qs q.variable) && are_new qs []) h in
    let r = and_parts (not (in_scope qs q.variable)) (are_new qs []) p.1 in
    and_from (is_declarable q.mark) (not (in_scope rs q.variable) && (not (in_scope qs q.variable) && are_new qs rs)) p.0
    (and_from (not (in_scope rs q.variable)) (not (in_scope qs q.variable) && are_new qs rs) (ap not (k q.variable (here q qs)))
    (and_from (not (in_scope qs q.variable)) (are_new qs rs) r.0 (new-beside qs rs r.1 (λ v i. k v (there q qs v i)))))
  where
    here : (q : Quantified) (qs : List Quantified) → in_scope (q ∷ qs) q.variable ≡ true
    here q qs = ap (λ b. b || in_scope qs q.variable) (Rattle.std.proofs.lemmas.Bool.eq-eqb q.variable q.variable refl)

    there : (q : Quantified) (qs : List Quantified) (v : ℕ) → in_scope qs v ≡ true → in_scope (q ∷ qs) v ≡ true
    there q qs v i = scope-behind (q ∷ []) qs v i

-- variables of a type reach no further than what it stands for

mutual
  limit-in : (b : ℕ → Limit) (k : Limit) (x : ℕ) (t : Typ) → Limited b k t → is_in x t ≡ true → NoFurther (b x) k
  limit-in b k x (var v) h i = subst (λ y. NoFurther (b y) k) (Rattle.std.proofs.lemmas.Bool.eqb-true v x i) h
  limit-in b k x (con c ts) h i = limits-in b k x ts h.1 i

  limits-in : (b : ℕ → Limit) (k : Limit) (x : ℕ) (ts : Typs) → AllLimited b k ts → are_in x ts ≡ true → NoFurther (b x) k
  limits-in b k x none h i = cc
  limits-in b k x (more t ts) h i = elim (either (is_in x t) (are_in x ts) i) [ inl j ↦ limit-in b k x t h.0 j | inr j ↦ limits-in b k x ts h.1 j ]

mutual
  lighter : (w : ℕ → ℕ) (x : ℕ) (t : Typ) → is_in x t ≡ true → w x < weight w t
  lighter w x (var v) i = let e = ap w (Rattle.std.proofs.lemmas.Bool.eqb-true v x i) in omega arith
  lighter w x (con c ts) i = let l = all-lighter w x ts i in omega arith

  all-lighter : (w : ℕ → ℕ) (x : ℕ) (ts : Typs) → are_in x ts ≡ true → w x < suc (weights w ts)
  all-lighter w x none i = cc
  all-lighter w x (more t ts) i = elim (either (is_in x t) (are_in x ts) i) [
    | inl j ↦ (let l = lighter w x t j in omega arith)
    | inr j ↦ (let l = all-lighter w x ts j in omega arith)
  ]

module _ (n : ℕ) (s : ℕ → Entry) (b c : ℕ → Limit) (ps qs : List Quantified) (l : ℕ) (D : ℕ → List Quantified) (g : ℕ → Typ)
    (G : Generalises n s b c ps qs l) (limited : AreLimited b s) (acyclic : IsAcyclic s) (below : AreBelow n s) (h : Generic n s c (ps ++ qs) D g) where
  -- an outer variable
  outer-over : (v : ℕ) → v < n → (b v).level ≤ l → over (D (b v).level) (g v) ≡ true
  outer-over v lt le = subst (λ k. over (D k) (g v) ≡ true) (G.outer v le) (h.within v lt (let a = G.outer v le in let d = G.low in omega arith))

  parameter-over : (v : ℕ) → in_scope qs v ≡ true → over (qs ++ D l) (g v) ≡ true
  parameter-over v i = subst (λ t. over (qs ++ D l) t ≡ true) (sym (h.itself v (scope-behind ps qs v i))) (scope-front qs (D l) v i)

  -- of this declaration, or an outer one, where those that weigh less are so
  at-entry : (v : ℕ) (e : Entry) → s v ≡ e → v < n → (b v).level ≡ suc l → WeighsAt acyclic.0 (acyclic.0 v) e → BelowAt n e → LimitedAt b (b v) e → Meets h.equality g (g v) e
      → ((x : ℕ) → acyclic.0 x < acyclic.0 v → x < n → (b x).level ≤ suc l → over (qs ++ D l) (g x) ≡ true) → over (qs ++ D l) (g v) ≡ true
  at-entry v (free k) is lt lv w bl li me f = parameter-over v (G.all v lt (ap is_open is) lv)
  at-entry v (row d ks us) is lt lv w bl li me f = parameter-over v (G.all v lt (ap is_open is) lv)
  at-entry v (bound t) is lt lv w bl li me f =
      subst (λ u. over (qs ++ D l) u ≡ true) (sym me) (over-sub (qs ++ D l) g t (λ x i.
      let z = lighter acyclic.0 x t i in let r = (limit-in b (b v) x t li i).1 in
      f x (omega arith) (in-below n x t i bl) (omega arith)))

  level-over : (k v : ℕ) → acyclic.0 v < k → v < n → (b v).level ≤ suc l → over (qs ++ D l) (g v) ≡ true
  level-over zero v w lt le = absurd (omega arith)
  level-over (suc k) v w lt le = by (nat_lt l (b v).level) refl (level-over k)
    where
      by : (o : Bool) → nat_lt l (b v).level ≡ o → ((x : ℕ) → acyclic.0 x < k → x < n → (b x).level ≤ suc l → over (qs ++ D l) (g x) ≡ true) → over (qs ++ D l) (g v) ≡ true
      by true e f =
          let a = ltb-true l (b v).level e in
          at-entry v (s v) refl lt (omega arith) (acyclic.1 v) (below v) (limited v) (h.solves v) (λ x m. f x (omega arith))
      by false e f =
          let a = ltb-false l (b v).level e in
          over-more (D l) (qs ++ D l) (λ x. scope-behind qs (D l) x) (g v) (over-deeper D h.nested (b v).level l (g v) (omega arith) (outer-over v lt (omega arith)))

  inner-list : (P : List Quantified → Type 0) (k : ℕ) → (l < k → P (qs ++ D l)) → (k ≤ l → P (D k)) → P (inside D l qs k)
  inner-list P k f e = by (nat_lt l k) refl
    where
      by : (o : Bool) → nat_lt l k ≡ o → P (if o then qs ++ D l else D k)
      by true i = f (ltb-true l k i)
      by false i = e (let a = ltb-false l k i in omega arith)

  inner-within : (v : ℕ) → v < n → (b v).level < dead_level → over (inside D l qs (b v).level) (g v) ≡ true
  inner-within v lt alive = inner-list (λ r. over r (g v) ≡ true) (b v).level (λ i. by i (G.settled v lt)) (λ i. outer-over v lt i)
    where
      by : l < (b v).level → ((b v).level ≤ suc l) ⊎ ((b v).level ≡ dead_level) → over (qs ++ D l) (g v) ≡ true
      by i (inl e) = level-over (suc (acyclic.0 v)) v (omega arith) lt e
      by i (inr e) = absurd (omega arith)

  inner-nested : (k v : ℕ) → in_scope (inside D l qs k) v ≡ true → in_scope (inside D l qs (suc k)) v ≡ true
  inner-nested k v i = inner-list (λ r. in_scope r v ≡ true) (suc k) (λ o. up o) (λ o. h.nested k v (down o i))
    where
      down : suc k ≤ l → in_scope (inside D l qs k) v ≡ true → in_scope (D k) v ≡ true
      down o j = subst (λ e. in_scope (if e then qs ++ D l else D k) v ≡ true) (at (nat_lt l k) refl) j
        where
          at : (e : Bool) → nat_lt l k ≡ e → nat_lt l k ≡ false
          at true e = absurd (let a = ltb-true l k e in omega arith)
          at false e = e

      up : l < suc k → in_scope (qs ++ D l) v ≡ true
      up o = by (nat_lt l k) refl i
        where
          by : (e : Bool) → nat_lt l k ≡ e → in_scope (if e then qs ++ D l else D k) v ≡ true → in_scope (qs ++ D l) v ≡ true
          by true e j = j
          by false e j =
              let a = ltb-false l k e in
              let same : k ≡ l = omega arith in
              scope-behind qs (D l) v (subst (λ m. in_scope (D m) v ≡ true) same j)

  not-before : (v : ℕ) → in_scope qs v ≡ true → in_scope ps v ≡ false
  not-before v i = by (in_scope ps v) refl
    where
      by : (e : Bool) → in_scope ps v ≡ e → e ≡ false
      by true e = absurd (let a = G.done v e in let d = G.only v i in let f = G.low in omega arith)
      by false e = refl

  inner-admitted : (k v : ℕ) → in_scope (inside D l qs k) v ≡ true → h.equality v ≡ admits_in (inside D l qs k) v
  inner-admitted k v = inner-list (λ r. in_scope r v ≡ true → h.equality v ≡ admits_in r v) k (λ o i. by (in_scope qs v) refl i) (λ o i. h.admitted k v i)
    where
      by : (e : Bool) → in_scope qs v ≡ e → in_scope (qs ++ D l) v ≡ true → h.equality v ≡ admits_in (qs ++ D l) v
      by true e i = h.marked v (scope-behind ps qs v e) ∙ admits-behind ps qs v (not-before v e) ∙ sym (admits-front qs (D l) v e)
      by false e i = h.admitted l v (scope-either qs (D l) v i e) ∙ sym (admits-behind qs (D l) v e)

  inner-apart : (k v : ℕ) → in_scope (inside D l qs k) v ≡ true → in_scope ps v ≡ false
  inner-apart k v = inner-list (λ r. in_scope r v ≡ true → in_scope ps v ≡ false) k (λ o i. by (in_scope qs v) refl i) (λ o i. scope-none ps qs v (h.apart k v i))
    where
      by : (e : Bool) → in_scope qs v ≡ e → in_scope (qs ++ D l) v ≡ true → in_scope ps v ≡ false
      by true e i = not-before v e
      by false e i = scope-none ps qs v (h.apart l v (scope-either qs (D l) v i e))

  pub inner-solution : InnerSolution n s b ps qs l D g
  inner-solution = record {
    inner = record {
      equality = h.equality;
      solves = h.solves;
      names = λ v lt. subst (λ k. Over k (g v)) (G.names v) (h.names v lt);
      within = inner-within;
      itself = λ v i. h.itself v (scope-front ps qs v i);
      marked = λ v i. h.marked v (scope-front ps qs v i) ∙ admits-front ps qs v i;
      nested = inner-nested;
      admitted = inner-admitted;
      apart = inner-apart;
    };
    new = new-beside qs (D l) G.declarable (λ v i. fresh v i (in_scope (D l) v) refl);
  }
    where
      fresh : (v : ℕ) → in_scope qs v ≡ true → (e : Bool) → in_scope (D l) v ≡ e → e ≡ false
      fresh v i true e = let a = h.apart l v e in let d = scope-behind ps qs v i in cc
      fresh v i false e = refl
