-- A declaration from where it begins to where it has ended.
use Rattle.std.proofs.Common.{◌≡◌, ◌<◌, ◌≤◌, ◌⊎◌, inl, inr, ℕ, suc, Bool, true, false, nat_lt, List, [], ◌∷◌, ◌++◌, length, take, refl, sym, ap, subst, ◌∙◌, arith}
use Rattle.std.specs.List.{AllByRecursion}
use Rattle.std.proofs.lemmas.Bool.{ltb-true, ltb-false}
use Rattle.ty_core.specs.declared.scheme.Quantified.{Quantified}
use Rattle.ty_table.specs.TypeAt.{type_at}
use Rattle.ty_solve.specs.Limits.{limit_at}
use Rattle.ty_solve.specs.Said.{said}
use Rattle.ty_solve.specs.Substitution.{Solves, is_below, is_in, is_open}
use Rattle.ty_solve.specs.declared.limit.Limit.{Limit}
use Rattle.ir_poly.specs.Types.{find, in_scope, IsConstructor}
use Rattle.ir_tables.specs.Tables.{parameters_of, strings_of}
use Rattle.elab_state.specs.States.{types_in, made, limit_in, general_in, all_parameters, dead_level}
use Rattle.elab_state.specs.declared.state.State.{State}
use Rattle.elab_state.proofs.Typed.{in-below}
use Rattle.elab_steps.specs.Growing.{Begins, Grows, HasGeneral, HasType}
use Rattle.elab_steps.specs.Tidy.{IsTidy, is_parameter}
use Rattle.elab_steps.proofs.Changing.{constructors-same, rows-same}
use Rattle.general_worlds.specs.Tidy.{AreOpen, AreOuter, Ends, Enters}

-- where it begins

limit-same : (R S : State) → Enters R S → (v : ℕ) → limit_in S v ≡ limit_in R v
limit-same R S e v = ap (λ s. limit_at s.limits.items v) e.solver

made-same : (R S : State) → Enters R S → made S ≡ made R
made-same R S e = ap (λ s. length s.subst.slots.items) e.solver

same-general : (R S : State) → Enters R S → (v : ℕ) → in_scope (general_in S) v ≡ in_scope (general_in R) v
same-general R S e v = ap (λ t. in_scope (all_parameters (parameters_of t)) v) e.tables

pub entered-tidy : (l : ℕ) (R S : State) → suc l < dead_level → Enters R S → IsTidy R l → IsTidy S (suc l)
entered-tidy l R S low e t = record {
  settled = λ v lt. settle v (t.settled v (subst (λ n. v < n) (made-same R S e) lt));
  done = λ v i. ap (λ k. k.level) (limit-same R S e v) ∙ t.done v (sym (same-general R S e v) ∙ i);
  ended = λ v lt o d.
      same-general R S e v
      ∙ t.ended v (subst (λ n. v < n) (made-same R S e) lt) (subst (λ s. is_open (said s.subst v) ≡ true) e.solver o) (sym (ap (λ k. k.level) (limit-same R S e v)) ∙ d);
  parameters = λ v i. ap (λ s. is_parameter (said s.subst v)) e.solver ∙ t.parameters v (sym (same-general R S e v) ∙ i);
  low = low;
}
  where
    settle : (v : ℕ) → ((limit_in R v).level ≤ l) ⊎ ((limit_in R v).level ≡ dead_level) → ((limit_in S v).level ≤ suc l) ⊎ ((limit_in S v).level ≡ dead_level)
    settle v (inl h) = inl (let s = ap (λ k. k.level) (limit-same R S e v) in omega (arith, h, s))
    settle v (inr h) = inr (ap (λ k. k.level) (limit-same R S e v) ∙ h)

pub entered-type : (R S : State) → Enters R S → (k : ℕ) → HasType R k → HasType S k
entered-type R S e k h = record {
  held = subst (λ s. k < length s.subst.types) (sym e.solver) h.held;
  below = subst (λ s. is_below (length s.subst.slots.items) (type_at s.subst.types k) ≡ true) (sym e.solver) h.below;
  live = λ v i.
      subst (λ (b : Limit). b.level < dead_level) (sym (limit-same R S e v)) (h.live v (subst (λ s. is_in v (type_at s.subst.types k) ≡ true) e.solver i));
}

pub earlier-outer : (l : ℕ) (R S T : State) → Enters R S → Grows S T → IsTidy R l → AreOuter T l (made R)
earlier-outer l R S T e g t v lt = by (t.settled v lt)
  where
    there : v < made S
    there = subst (λ n. v < n) (sym (made-same R S e)) lt

    by : ((limit_in R v).level ≤ l) ⊎ ((limit_in R v).level ≡ dead_level) → ((limit_in T v).level ≤ l) ⊎ ((limit_in T v).level ≡ dead_level)
    by (inl h) = inl (let f = (g.limits v there).1 in let s = ap (λ k. k.level) (limit-same R S e v) in omega (arith, f, s, h))
    by (inr h) = inr (g.done v there (ap (λ k. k.level) (limit-same R S e v) ∙ h)).level

-- where it has ended

-- a variable that is neither done with nor a parameter is one of the declarations around
pub open-held : (l : ℕ) (qs : List Quantified) (S T : State) → Ends l qs S T → (k : ℕ) → HasType S k → AreOpen S k → HasGeneral T qs k
open-held l qs S T e k h o = record {
  held = subst (λ ts. k < length ts) (sym e.types) h.held;
  below = subst (λ n. is_below n (type_at (types_in T) k) ≡ true) (sym e.made) (subst (λ ts. is_below (made S) (type_at ts k) ≡ true) (sym e.types) h.below);
  live = λ v i out.
      let j : is_in v (type_at (types_in S) k) ≡ true = subst (λ ts. is_in v (type_at ts k) ≡ true) e.types i in
      let lt = in-below (made S) v (type_at (types_in S) k) j h.below in
      by v lt j out (e.generalises.settled v lt) (nat_lt l (limit_in S v).level) refl;
}
  where
    by : (v : ℕ) → v < made S → is_in v (type_at (types_in S) k) ≡ true → in_scope qs v ≡ false → ((limit_in S v).level ≤ suc l) ⊎ ((limit_in S v).level ≡ dead_level)
        → (c : Bool) → nat_lt l (limit_in S v).level ≡ c → (limit_in T v).level < dead_level
    by v lt j out (inr d) c q = absurd (let a = h.live v j in omega (arith, a, d))
    by v lt j out (inl le) true q =
        absurd (let a = ltb-true l (limit_in S v).level q in let i = e.generalises.all v lt (o v j) (omega (arith, a, le)) in (let z = sym out ∙ i in cc))
    by v lt j out (inl le) false q =
        let a = ltb-false l (limit_in S v).level q in
        let s = e.generalises.outer v (omega (arith, a)) in let b = h.live v j in omega (arith, s, b)

begins-after : {A : Type 0} (xs ys zs : List A) (y : List A) → Begins xs ys → zs ≡ ys ++ y → Begins xs zs
begins-after [] ys zs y b e = refl
begins-after (x ∷ xs) [] zs y b e = cc
begins-after (x ∷ xs) (u ∷ ys) zs y b e =
    let p : u ≡ x = cc in let q : take (length xs) ys ≡ xs = cc in
    ap (take (suc (length xs))) e ∙ subst (λ w. w ∷ take (length xs) (ys ++ y) ≡ x ∷ xs) (sym p) (ap (λ ws. x ∷ ws) (begins-after xs ys (ys ++ y) y q refl))

module _ (l : ℕ) (qs : List Quantified) (R S T U : State) (e : Enters R S) (g : Grows S T) (z : Ends l qs T U) (tidy : IsTidy R l) (after : IsTidy U l) where
  there : (v : ℕ) → v < made R → v < made S
  there v lt = subst (λ n. v < n) (sym (made-same R S e)) lt

  outer-stays : (v : ℕ) → v < made R → ((limit_in R v).level ≤ l) ⊎ ((limit_in R v).level ≡ dead_level) → (limit_in U v).level ≤ (limit_in R v).level
  outer-stays v lt (inl h) =
      let f = (g.limits v (there v lt)).1 in let s = ap (λ k. k.level) (limit-same R S e v) in
      let o = z.generalises.outer v (omega (arith, f, s, h)) in omega (arith, f, s, o)
  outer-stays v lt (inr h) =
      let d = (g.done v (there v lt) (ap (λ k. k.level) (limit-same R S e v) ∙ h)).level in let s = z.stay v d in omega (arith, s, h)

  level-is : R.level ≡ l
  level-is = let a = e.level in let b = g.level in let c = z.inside in omega (arith, a, b, c)

  pub declaration-grows : Grows R U
  declaration-grows = record {
    types = subst (λ ts. Begins (types_in R) ts) (sym z.types) (subst (λ s. Begins s.subst.types (types_in T)) e.solver g.types);
    written = subst (λ ws. Begins R.written.items ws) (sym z.written) (subst (λ ws. Begins ws T.written.items) e.written g.written);
    namings = subst (λ ws. Begins R.namings.items ws) (sym z.namings) (subst (λ ws. Begins ws T.namings.items) e.namings g.namings);
    lists = subst (λ t. Begins (parameters_of t) (parameters_of U.tables)) e.tables (begins-after _ _ _ (qs ∷ []) g.lists z.lists);
    strings = subst (λ ws. Begins (strings_of R.tables) ws) (sym z.strings) (subst (λ t. Begins (strings_of t) (strings_of T.tables)) e.tables g.strings);
    rows = λ y c row h. ap (λ t. find t y c) z.rows ∙ g.rows y c row (rows-same R.tables S.tables e.tables y c row h);
    variables = let a = made-same R S e in let b = g.variables in let c = z.made in omega (arith, a, b, c);
    solves = λ m f s. subst (λ x. Solves m f (said x.subst)) e.solver (g.solves m f (subst (Solves m f) z.said s));
    limits = λ v lt. (
      (let a = (g.limits v (there v lt)).0 in let b = ap (λ k. k.names) (limit-same R S e v) in let c = z.generalises.names v in omega (arith, a, b, c)),
      outer-stays v lt (tidy.settled v lt),
    );
    next = let a = e.next in let b = g.next in let c = z.next in omega (arith, a, b, c);
    level = z.level ∙ sym level-is;
    done = λ v lt h.
        let d = g.done v (there v lt) (ap (λ k. k.level) (limit-same R S e v) ∙ h) in
        record { said = ap (λ s. s v) z.said ∙ d.said ∙ ap (λ s. said s.subst v) e.solver; level = z.stay v d.level };
    tidy = λ t. subst (IsTidy U) (sym z.level) after;
    constructors = λ k. subst (AllByRecursion IsConstructor) (sym z.rows) (g.constructors (constructors-same R S e.tables k));
  }
