-- A type with its bound variables resolved.
use Rattle.std.proofs.Common.{◌≡◌, ◌<◌, ◌≤◌, ◌⊎◌, inl, inr, ℕ, zero, suc, Bool, true, false, nat_lt, List, length, Result, Ok, Err, IfOk, refl, sym, ap, subst, ◌∙◌, arith}
use Rattle.std.proofs.lemmas.Bool.{eqb-true, eq-eqb, ltb-true, ltb-false}
use Rattle.ty_core.specs.Types.{Typ, Typs, var, con, none, more}
use Rattle.ty_table.specs.TypeAt.{type_at}
use Rattle.ty_solve.specs.Limits.{AreLimited, LimitedAt, limit_at}
use Rattle.ty_solve.specs.Weight.{Weighs, WeighsAt}
use Rattle.ty_instance.specs.Images.{Ends as EndsIn, IsResolved, value_of}
use Rattle.ty_solve.specs.Substitution.{Entry, free, bound, row, Fits, FitsAt, Meets, is_below, is_in, are_in, is_open, sub, subs}
use Rattle.ty_solve.proofs.Holding.{type-stays}
use Rattle.ty_instance.proofs.Going.{longer}
use Rattle.ty_solve.specs.declared.limit.Limit.{Limit}
use Rattle.ty_core.specs.declared.scheme.Quantified.{Quantified}
use Rattle.ir_poly.specs.Types.{in_scope}
use Rattle.ir_tables.specs.Tables.{parameters_of}
use Rattle.elab_state.specs.States.{types_in, made, said_in, limit_in, general_in, all_parameters, dead_level}
use Rattle.elab_state.proofs.Typed.{either, in-below}
use Rattle.elab_state.specs.declared.state.State.{State}
use Rattle.elab_steps.specs.Growing.{Always, HasGeneral, HasType}
use Rattle.elab_steps.specs.Tidy.{IsTidy, is_parameter}
use Rattle.elab_steps.specs.World.{type_of}
use Rattle.elab_steps.proofs.Changing.{Tabled}
use Rattle.elab_steps.proofs.Keeping.{limit-in, or-left, or-right}
use Rattle.general_worlds.proofs.Scoping.{lighter}
use Rattle.general_worlds.specs.Tidy.{AreOpen, Ends}
use Rattle.general_vals.specs.Settling.{IsMade, KeepsVariables, Settles}

fits-at : (m : ℕ → Bool) (f : ℕ → Typ) (t : Typ) (e : Entry) → Meets m f t e → FitsAt f t e
fits-at m f t (free k) h = tt
fits-at m f t (bound u) h = h
fits-at m f t (row d ks us) h = tt

-- what resolving answers, in plain lists
pub record Settled (ts us : List Typ) (s : ℕ → Entry) (n ty r : ℕ) : Type 0 where
  pub held : r < length us
  pub same : (f : ℕ → Typ) → Fits f s → sub f (type_at us r) ≡ sub f (type_at ts ty)
  pub opened : (v : ℕ) → is_in v (type_at us r) ≡ true → is_open (s v) ≡ true
  pub below : is_below n (type_at ts ty) ≡ true → is_below n (type_at us r) ≡ true
  pub resolved : IsResolved s (type_at ts ty) (type_at us r)

pub settled-of : {E : Type 0} (ts us : List Typ) (s : ℕ → Entry) (n ty : ℕ) (x : Result ℕ E) → IfOk x (λ r. r < length us)
    → IfOk x (λ r. (f : ℕ → Typ) → Fits f s → sub f (type_at us r) ≡ sub f (type_at ts ty)) → IfOk x (λ r. (v : ℕ) → is_in v (type_at us r) ≡ true → is_open (s v) ≡ true)
    → IfOk x (λ r. is_below n (type_at ts ty) ≡ true → is_below n (type_at us r) ≡ true) → IfOk x (λ r. IsResolved s (type_at ts ty) (type_at us r))
    → IfOk x (Settled ts us s n ty)
settled-of ts us s n ty (Ok r) a b c d e = record { held = a; same = b; opened = c; below = d; resolved = e }
settled-of ts us s n ty (Err e) a b c d f = tt

pub settled-open : (ts us : List Typ) (s t : ℕ → Entry) (n ty r : ℕ) → t ≡ s → Settled ts us s n ty r → (v : ℕ) → is_in v (type_at us r) ≡ true → is_open (t v) ≡ true
settled-open ts us s t n ty r e z v i = subst (λ s. is_open (s v) ≡ true) (sym e) (z.opened v i)

-- a variable of a type with others put for its variables stands in one of these
module _ (P : Type 0) (f : ℕ → Typ) (x : ℕ) where
  mutual
    sub-in : (t : Typ) → is_in x (sub f t) ≡ true → ((v : ℕ) → is_in v t ≡ true → is_in x (f v) ≡ true → P) → P
    sub-in (var v) i k = k v (eq-eqb v v refl) i
    sub-in (con y ts) i k = subs-in ts i k

    subs-in : (ts : Typs) → are_in x (subs f ts) ≡ true → ((v : ℕ) → are_in v ts ≡ true → is_in x (f v) ≡ true → P) → P
    subs-in none i k = cc
    subs-in (more t ts) i k = by (either (is_in x (sub f t)) (are_in x (subs f ts)) i) (sub-in t) (subs-in ts)
      where
        by : (is_in x (sub f t) ≡ true) ⊎ (are_in x (subs f ts) ≡ true) → (is_in x (sub f t) ≡ true → ((v : ℕ) → is_in v t ≡ true → is_in x (f v) ≡ true → P) → P)
            → (are_in x (subs f ts) ≡ true → ((v : ℕ) → are_in v ts ≡ true → is_in x (f v) ≡ true → P) → P) → P
        by (inl j) first rest = first j (λ v h. k v (or-left (is_in v t) (are_in v ts) h))
        by (inr j) first rest = rest j (λ v h. k v (or-right (is_in v t) (are_in v ts) h))

-- what a variable stands for reaches no further than it
module _ (s : ℕ → Entry) (b : ℕ → Limit) (limited : AreLimited b s) (w : ℕ → ℕ) (weighs : Weighs w s) (f : ℕ → Typ) (ends : EndsIn f s) where
  no-further : (k v x : ℕ) → w v < k → is_in x (f v) ≡ true → (b x).level ≤ (b v).level
  no-further zero v x lt i = absurd (omega (arith, lt))
  no-further (suc k) v x lt i = go (s v) (weighs v) (limited v) (subst (λ t. is_in x t ≡ true) (ends v) i) (no-further k)
    where
      here : is_in x (var v) ≡ true → (b x).level ≤ (b v).level
      here j = let e = ap (λ y. (b y).level) (eqb-true v x j) in omega (arith, e)

      go : (e : Entry) → WeighsAt w (w v) e → LimitedAt b (b v) e → is_in x (value_of f v e) ≡ true
          → ((y z : ℕ) → w y < k → is_in z (f y) ≡ true → (b z).level ≤ (b y).level) → (b x).level ≤ (b v).level
      go (free m) h l j rest = here j
      go (row d ks us) h l j rest = here j
      go (bound t) h l j rest = sub-in ((b x).level ≤ (b v).level) f x t j (λ y p q.
          let light = lighter w y t p in
          let a = rest y x (omega (arith, light, h, lt)) q in let c = (limit-in b (b v) y t l p).1 in omega (arith, a, c))

-- variables of a resolved type reach no further than those of the type
reaches : (S : State) (t u : Typ) (P : Type 0) (x : ℕ) → IsResolved (said_in S) t u → is_in x u ≡ true → ((v : ℕ) → is_in v t ≡ true → (limit_in S x).level ≤ (limit_in S v).level → P) → P
reaches S t u P x z i k =
    let w = S.solver.subst.acyclic in
    sub-in P z.values x t (subst (λ y. is_in x y ≡ true) z.is i) (λ v p q.
    k v p (no-further (said_in S) (limit_in S) S.solver.limited w.0 w.1 z.values z.ends (suc (w.0 v)) v x (omega arith) q))

module _ (S T : State) (ty r : ℕ) (a : Tabled S T) (h : IsMade S ty) (z : Settled (types_in S) (types_in T) (said_in S) (made S) ty r) where
  settled-made : IsMade T r
  settled-made = record { held = z.held; below = subst (λ n. is_below n (type_at (types_in T) r) ≡ true) (sym (ap length a.slots)) (z.below h.below) }

  pub settled-settles : Settles S T ty r
  settled-settles = record {
    keeps = record { types = a.types; made = ap length a.slots; said = a.says; limits = λ v. ap (λ ls. limit_at ls v) a.limits };
    is = settled-made;
    resolved = z.resolved;
  }

  pub settled-is : HasType S ty → HasType T r
  settled-is g = record {
    held = settled-made.held;
    below = settled-made.below;
    live = λ x i.
        subst (λ (l : Limit). l.level < dead_level) (ap (λ ls. limit_at ls x) (sym a.limits))
        (reaches S (type_at (types_in S) ty) (type_at (types_in T) r) ((limit_in S x).level < dead_level) x z.resolved i
        (λ v p far. let alive = g.live v p in omega (arith, far, alive)));
  }

  pub settled-same : Always T (λ W. type_of W r ≡ type_of W ty)
  settled-same W c =
      let fits : Fits W.value (said_in S) = λ v. fits-at W.admits W.value (W.value v) (said_in S v) (subst (λ s. Meets W.admits W.value (W.value v) (s v)) a.says (c.solves v)) in
      let le = longer (types_in S) (types_in T) a.types in let lt = h.held in
      ap (sub W.value) (c.types r z.held) ∙ z.same W.value fits
      ∙ ap (sub W.value) (sym (type-stays (types_in S) (types_in T) ty a.types h.held) ∙ sym (c.types ty (omega (arith, le, lt))))

-- more types in the table alone
pub tabled-tidy : (S T : State) → Tabled S T → (l : ℕ) → IsTidy S l → IsTidy T l
tabled-tidy S T a l t = record {
  settled = λ v lt. subst (λ k. (k.level ≤ l) ⊎ (k.level ≡ dead_level)) (sym (limit v)) (t.settled v (before v lt));
  done = λ v i. ap (λ k. k.level) (limit v) ∙ t.done v (subst (λ qs. in_scope qs v ≡ true) general i);
  ended = λ v lt o e.
      subst (λ qs. in_scope qs v ≡ true) (sym general)
      (t.ended v (before v lt) (subst (λ s. is_open (s v) ≡ true) a.says o) (sym (ap (λ k. k.level) (limit v)) ∙ e));
  parameters = λ v i. ap (λ s. is_parameter (s v)) a.says ∙ t.parameters v (subst (λ qs. in_scope qs v ≡ true) general i);
  low = t.low;
}
  where
    limit : (v : ℕ) → limit_in T v ≡ limit_in S v
    limit v = ap (λ ls. limit_at ls v) a.limits

    before : (v : ℕ) → v < made T → v < made S
    before v lt = subst (λ n. v < n) (ap length a.slots) lt

    general : general_in T ≡ general_in S
    general = ap (λ t. all_parameters (parameters_of t)) a.stays.tables

-- behind the end of a declaration
pub settled-held : (l : ℕ) (qs : List Quantified) (R S M T : State) (k r : ℕ) → Ends l qs R S → HasType R k → KeepsVariables S M → Settles M T k r → AreOpen T r → HasGeneral T qs r
settled-held l qs R S M T k r e h m z o = record { held = z.is.held; below = z.is.below; live = alive }
  where
    same : said_in T ≡ said_in R
    same = z.keeps.said ∙ m.said ∙ e.said

    was : said_in M ≡ said_in R
    was = m.said ∙ e.said

    count : made T ≡ made R
    count = z.keeps.made ∙ m.made ∙ e.made

    source : type_at (types_in M) k ≡ type_at (types_in R) k
    source = type-stays (types_in S) (types_in M) k m.types (subst (λ ts. k < length ts) (sym e.types) h.held) ∙ ap (λ ts. type_at ts k) e.types

    resolved : IsResolved (said_in R) (type_at (types_in R) k) (type_at (types_in T) r)
    resolved = subst (λ s. IsResolved s (type_at (types_in R) k) (type_at (types_in T) r)) was
        (subst (λ t. IsResolved (said_in M) t (type_at (types_in T) r)) source z.resolved)

    limit : (x : ℕ) → (limit_in T x).level ≡ (limit_in S x).level
    limit x = ap (λ k. k.level) (z.keeps.limits x ∙ m.limits x)

    by : (x : ℕ) → x < made R → is_open (said_in R x) ≡ true → in_scope qs x ≡ false → (limit_in R x).level < dead_level
        → ((limit_in R x).level ≤ suc l) ⊎ ((limit_in R x).level ≡ dead_level) → (c : Bool) → nat_lt l (limit_in R x).level ≡ c → (limit_in T x).level < dead_level
    by x lt op out low (inr d) c q = absurd (omega (arith, low, d))
    by x lt op out low (inl le) true q =
        absurd (let a = ltb-true l (limit_in R x).level q in let i = e.generalises.all x lt op (omega (arith, a, le)) in (let y = sym out ∙ i in cc))
    by x lt op out low (inl le) false q =
        let a = ltb-false l (limit_in R x).level q in let s = e.generalises.outer x (omega (arith, a)) in let t = limit x in omega (arith, s, t, low)

    alive : (x : ℕ) → is_in x (type_at (types_in T) r) ≡ true → in_scope qs x ≡ false → (limit_in T x).level < dead_level
    alive x i out =
        let lt = in-below (made R) x (type_at (types_in T) r) i (subst (λ n. is_below n (type_at (types_in T) r) ≡ true) count z.is.below) in
        let op = subst (λ s. is_open (s x) ≡ true) same (o x i) in
        let low : (limit_in R x).level < dead_level = reaches R (type_at (types_in R) k) (type_at (types_in T) r) ((limit_in R x).level < dead_level) x resolved i
        (λ v p far. let a = h.live v p in omega (arith, far, a)) in
        by x lt op out low (e.generalises.settled x lt) (nat_lt l (limit_in R x).level) refl
