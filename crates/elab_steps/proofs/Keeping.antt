-- Steps that keep a state tidy.
use Rattle.std.proofs.Common.{◌≡◌, ◌<◌, ◌≤◌, ◌⊎◌, inl, inr, ◌||◌, ℕ, zero, suc, length, Bool, true, false, nat_lt, List, [], ◌∷◌, refl, sym, ap, subst, ◌∙◌, arith}
use Rattle.std.proofs.lemmas.Bool.{eqb-true, eq-eqb, ltb-true, ltb-false}
use Rattle.mlc_names.specs.declared.label.Label.{Label}
use Rattle.ty_core.specs.Types.{Typ, Typs, var, con, none, more}
use Rattle.ty_core.specs.Statics.{replace, replace_all}
use Rattle.ty_table.specs.TypeAt.{type_at}
use Rattle.elab_types.specs.of_ty_solve.Forces.{Beside, Met, LeftAt}
use Rattle.elab_types.specs.of_ty_solve.Limits.{AllLimited, AreLimited, Fall, LeavesLimits, Limited, LimitedAt, NoFurther, limit_at}
use Rattle.elab_types.specs.of_ty_solve.Rows.{At}
use Rattle.elab_types.specs.of_ty_solve.Solve.{LeavesRest, problem}
use Rattle.elab_types.specs.of_ty_solve.Substitution.{Entry, bound, row, are_in, is_in, is_open}
use Rattle.elab_types.specs.of_ty_solve.declared.limit.Limit.{Limit}
use Rattle.elab_state.specs.of_ir_poly.Types.{in_scope}
use Rattle.elab_state.specs.States.{types_in, made, said_in, limit_in, general_in, dead_level}
use Rattle.elab_state.specs.declared.state.State.{State}
use Rattle.elab_state.proofs.Typed.{either}
use Rattle.elab_steps.specs.Growing.{HasType}
use Rattle.elab_steps.specs.Tidy.{IsTidy, StaysDone, is_parameter}

pub or-left : (a b : Bool) → a ≡ true → (a || b) ≡ true
or-left true b e = refl
or-left false b e = cc

pub or-right : (a b : Bool) → b ≡ true → (a || b) ≡ true
or-right true b e = refl
or-right false b e = e

-- a variable of a type with others put for its variables stands in one of these
module _ (P : Type 0) (f : ℕ → Typ) (x : ℕ) where
  mutual
    pub replaced-in : (t : Typ) → is_in x (replace f t) ≡ true → ((v : ℕ) → is_in v t ≡ true → is_in x (f v) ≡ true → P) → P
    replaced-in (var v) i k = k v (eq-eqb v v refl) i
    replaced-in (con y ts) i k = all-replaced-in ts i k

    all-replaced-in : (ts : Typs) → are_in x (replace_all f ts) ≡ true → ((v : ℕ) → are_in v ts ≡ true → is_in x (f v) ≡ true → P) → P
    all-replaced-in none i k = cc
    all-replaced-in (more t ts) i k = by (either (is_in x (replace f t)) (are_in x (replace_all f ts)) i) (replaced-in t) (all-replaced-in ts)
      where
        by : (is_in x (replace f t) ≡ true) ⊎ (are_in x (replace_all f ts) ≡ true)
            → (is_in x (replace f t) ≡ true → ((v : ℕ) → is_in v t ≡ true → is_in x (f v) ≡ true → P) → P)
            → (are_in x (replace_all f ts) ≡ true → ((v : ℕ) → are_in v ts ≡ true → is_in x (f v) ≡ true → P) → P) → P
        by (inl j) first rest = first j (λ v h. k v (or-left (is_in v t) (are_in v ts) h))
        by (inr j) first rest = rest j (λ v h. k v (or-right (is_in v t) (are_in v ts) h))

-- how far variables of a type reach
mutual
  pub limit-in : (b : ℕ → Limit) (k : Limit) (x : ℕ) (t : Typ) → Limited b k t → is_in x t ≡ true → NoFurther (b x) k
  limit-in b k x (var v) h i = subst (λ y. NoFurther (b y) k) (eqb-true v x i) h
  limit-in b k x (con c ts) h i = limits-in b k x ts h.1 i

  limits-in : (b : ℕ → Limit) (k : Limit) (x : ℕ) (ts : Typs) → AllLimited b k ts → are_in x ts ≡ true → NoFurther (b x) k
  limits-in b k x none h i = cc
  limits-in b k x (more t ts) h i = elim (either (is_in x t) (are_in x ts) i) [ inl j ↦ limit-in b k x t h.0 j | inr j ↦ limits-in b k x ts h.1 j ]

-- variables of a part, and of a field
beside-in : (t u : Typ) (ts us : Typs) (x : ℕ) → Beside t u ts us → is_in x t ≡ true → are_in x ts ≡ true
beside-in t u (more y ts) (more z us) x (Beside.here _ _ _ _) i = or-left (is_in x t) (are_in x ts) i
beside-in t u (more y ts) (more z us) x (Beside.later _ _ _ _ _ _ b) i = or-right (is_in x y) (are_in x ts) (beside-in t u ts us x b i)
beside-in t u none us x b i = elim b [ ]
beside-in t u (more y ts) none x b i = elim b [ ]

field-within : (b : ℕ → Limit) (k : Limit) (l : Label) (t : Typ) (ks : List Label) (us : Typs) (x : ℕ) → AllLimited b k us → At l t ks us → is_in x t ≡ true → (b x).level ≤ k.level
field-within b k l t [] us x h a i = absurd a
field-within b k l t (j ∷ ks) none x h a i = absurd a
field-within b k l t (j ∷ ks) (more u us) x h (inl e) i = (limit-in b k x u h.0 (subst (λ y. is_in x y ≡ true) e.1 i)).1
field-within b k l t (j ∷ ks) (more u us) x h (inr a) i = field-within b k l t ks us x h.1 a i

-- a variable that wasn't made belongs to no declaration
limit-past : (ls : List Limit) (x : ℕ) → length ls ≤ x → (limit_at ls x).level ≡ 0
limit-past [] x le = refl
limit-past (k ∷ ls) zero le = absurd (omega (arith, le))
limit-past (k ∷ ls) (suc x) le = limit-past ls x (omega (arith, le))

-- no variable of a type is done with
abbrev AreAlive : (ℕ → Limit) → Typ → Type 0
AreAlive b t = (x : ℕ) → is_in x t ≡ true → (b x).level < dead_level

module _ (s : ℕ → Entry) (b : ℕ → Limit) (a c : Typ) (limited : AreLimited b s) (first : AreAlive b a) (second : AreAlive b c) where
  below : (v : ℕ) (e : Entry) → s v ≡ e → LimitedAt b (b v) e
  below v e is = subst (LimitedAt b (b v)) is (limited v)

  met-alive : (t : Typ) → Met (problem s a c) t → AreAlive b t
  met-alive _ Met.left x i = first x i
  met-alive _ Met.right x i = second x i
  met-alive _ (Met.part h ts t d e) x i = met-alive (con h ts) d x (beside-in t t ts ts x e i)
  met-alive _ (Met.stands v t d e) x i =
      let p = (limit-in b (b v) x t (below v (bound t) e) i).1 in
      let q = met-alive (var v) d v (eq-eqb v v refl) in omega (arith, p, q)
  met-alive _ (Met.field v e ks us l t d is at) x i =
      let p = field-within b (b v) l t ks us x (below v (row e ks us) is) at i in
      let q = met-alive (var v) d v (eq-eqb v v refl) in omega (arith, p, q)

-- Two types made equal, of which no variable is done with: what is done with is not met.
module _ (S T : State) (a b : ℕ) (ta : HasType S a) (tb : HasType S b) (rest : LeavesRest (said_in S) (said_in T) (type_at (types_in S) a) (type_at (types_in S) b))
    (limits : LeavesLimits (said_in S) (limit_in S) (limit_in T) (type_at (types_in S) a) (type_at (types_in S) b)) where
  not-met : (v : ℕ) → (limit_in S v).level ≡ dead_level → Met (problem (said_in S) (type_at (types_in S) a) (type_at (types_in S) b)) (var v) → ⊥
  not-met v e h =
      let lt = met-alive (said_in S) (limit_in S) (type_at (types_in S) a) (type_at (types_in S) b) S.solver.limited ta.live tb.live (var v) h v (eq-eqb v v refl) in
      omega (arith, lt, e)

  said-stays : (v : ℕ) → (limit_in S v).level ≡ dead_level → said_in T v ≡ said_in S v
  said-stays v e = by (rest v)
    where
      by : LeftAt (problem (said_in S) (type_at (types_in S) a) (type_at (types_in S) b)) v (said_in T v) → said_in T v ≡ said_in S v
      by (inl h) = h
      by (inr h) = absurd (not-met v e h.1)

  limit-stays : (v : ℕ) → (limit_in S v).level ≡ dead_level → (limit_in T v).level ≡ dead_level
  limit-stays v e = by (limits v)
    where
      by : (limit_in T v ≡ limit_in S v) ⊎ Met (problem (said_in S) (type_at (types_in S) a) (type_at (types_in S) b)) (var v) → (limit_in T v).level ≡ dead_level
      by (inl h) = ap (λ k. k.level) h ∙ e
      by (inr h) = absurd (not-met v e h)

  pub unified-done : (v : ℕ) → (limit_in S v).level ≡ dead_level → StaysDone S T v
  unified-done v e = record { said = said-stays v e; level = limit-stays v e }

  module _ (l : ℕ) (same : made T ≡ made S) (general : general_in T ≡ general_in S) (fall : Fall (limit_in S) (limit_in T)) (tidy : IsTidy S l) where
    pub unified-tidy : IsTidy T l
    unified-tidy = record {
      settled = λ v lt. settle v (tidy.settled v (subst (λ n. v < n) same lt));
      done = λ v i. (unified-done v (tidy.done v (subst (λ qs. in_scope qs v ≡ true) general i))).level;
      ended = λ v lt o e.
          let d = dead v (subst (λ n. v < n) same lt) e in
          subst (λ qs. in_scope qs v ≡ true) (sym general) (tidy.ended v (subst (λ n. v < n) same lt) (sym (ap is_open (unified-done v d).said) ∙ o) d);
      parameters = λ v i. let j = subst (λ qs. in_scope qs v ≡ true) general i in ap is_parameter (said-stays v (tidy.done v j)) ∙ tidy.parameters v j;
      low = tidy.low;
    }
      where
        settle : (v : ℕ) → ((limit_in S v).level ≤ l) ⊎ ((limit_in S v).level ≡ dead_level) → ((limit_in T v).level ≤ l) ⊎ ((limit_in T v).level ≡ dead_level)
        settle v (inl h) = inl (let f = (fall v).1 in omega (arith, h, f))
        settle v (inr h) = inr (unified-done v h).level

        dead : (v : ℕ) → v < made S → (limit_in T v).level ≡ dead_level → (limit_in S v).level ≡ dead_level
        dead v lt e = by (tidy.settled v lt)
          where
            by : ((limit_in S v).level ≤ l) ⊎ ((limit_in S v).level ≡ dead_level) → (limit_in S v).level ≡ dead_level
            by (inl h) = absurd (let f = (fall v).1 in let low = tidy.low in omega (arith, h, f, e, low))
            by (inr h) = h

-- what a step leaves that changes no variable, and makes such as belong to the declarations around
pub record Makes (S T : State) : Type 0 where
  pub said : (x : ℕ) → x < made S → said_in T x ≡ said_in S x
  pub limits : (x : ℕ) → x < made S → limit_in T x ≡ limit_in S x
  pub new : (x : ℕ) → made S ≤ x → x < made T → (limit_in T x).level ≤ S.level
  pub general : (x : ℕ) → in_scope (general_in T) x ≡ in_scope (general_in S) x
  pub level : T.level ≡ S.level

pub makes-done : (S T : State) → Makes S T → (v : ℕ) → v < made S → (limit_in S v).level ≡ dead_level → StaysDone S T v
makes-done S T m v lt e = record { said = m.said v lt; level = ap (λ k. k.level) (m.limits v lt) ∙ e }

-- what was generalised was made
general-made : (S : State) (l : ℕ) → IsTidy S l → (x : ℕ) → in_scope (general_in S) x ≡ true → x < made S
general-made S l tidy x i = by (nat_lt x (made S)) refl
  where
    by : (c : Bool) → nat_lt x (made S) ≡ c → x < made S
    by true e = ltb-true x (made S) e
    by false e =
        let a = ltb-false x (made S) e in let b = S.solver.each_has_one in
        absurd (let p = limit-past S.solver.limits.items x (omega (arith, a, b)) in let d = tidy.done x i in omega (arith, p, d))

pub makes-tidy : (S T : State) → Makes S T → IsTidy S S.level → IsTidy T T.level
makes-tidy S T m tidy = subst (IsTidy T) (sym m.level) (record {
  settled = λ x lt. settle x lt (nat_lt x (made S)) refl;
  done = λ x i. let j = sym (m.general x) ∙ i in ap (λ k. k.level) (m.limits x (general-made S S.level tidy x j)) ∙ tidy.done x j;
  ended = λ x lt o e. m.general x ∙ end x lt o e (nat_lt x (made S)) refl;
  parameters = λ x i. let j = sym (m.general x) ∙ i in ap is_parameter (m.said x (general-made S S.level tidy x j)) ∙ tidy.parameters x j;
  low = tidy.low;
})
  where
    settle : (x : ℕ) → x < made T → (c : Bool) → nat_lt x (made S) ≡ c → ((limit_in T x).level ≤ S.level) ⊎ ((limit_in T x).level ≡ dead_level)
    settle x lt true e =
        let old = ltb-true x (made S) e in subst (λ k. (k.level ≤ S.level) ⊎ (k.level ≡ dead_level)) (sym (m.limits x old)) (tidy.settled x old)
    settle x lt false e = inl (m.new x (ltb-false x (made S) e) lt)

    end : (x : ℕ) → x < made T → is_open (said_in T x) ≡ true → (limit_in T x).level ≡ dead_level → (c : Bool) → nat_lt x (made S) ≡ c
        → in_scope (general_in S) x ≡ true
    end x lt o e true q =
        let old = ltb-true x (made S) q in tidy.ended x old (sym (ap is_open (m.said x old)) ∙ o) (sym (ap (λ k. k.level) (m.limits x old)) ∙ e)
    end x lt o e false q = absurd (let le = m.new x (ltb-false x (made S) q) lt in let low = tidy.low in omega (arith, le, e, low))

-- a state without variables is tidy, and a tidy one is so inside a declaration more
pub new-tidy : (S : State) (l : ℕ) → l < dead_level → made S ≡ 0 → general_in S ≡ [] → IsTidy S l
new-tidy S l low zero-made empty = record {
  settled = λ v lt. absurd (omega (arith, lt, zero-made));
  done = λ v i. absurd (nothing v i);
  ended = λ v lt o e. absurd (omega (arith, lt, zero-made));
  parameters = λ v i. absurd (nothing v i);
  low = low;
}
  where
    nothing : (v : ℕ) → in_scope (general_in S) v ≡ true → ⊥
    nothing v i = let b = sym (ap (λ qs. in_scope qs v) empty) ∙ i in cc

pub deeper-tidy : (S : State) (l : ℕ) → suc l < dead_level → IsTidy S l → IsTidy S (suc l)
deeper-tidy S l low t = record {
  settled = λ v lt. by (limit_in S v).level (t.settled v lt);
  done = t.done;
  ended = t.ended;
  parameters = t.parameters;
  low = low;
}
  where
    by : (n : ℕ) → (n ≤ l) ⊎ (n ≡ dead_level) → (n ≤ suc l) ⊎ (n ≡ dead_level)
    by n (inl h) = inl (omega (arith, h))
    by n (inr h) = inr h
