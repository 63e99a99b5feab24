-- Classes that get their defaults, one variable after the other.
use Rattle.std.proofs.Common.{◌≡◌, ◌<◌, ◌≤◌, ◌+◌, ℕ, zero, suc, Bool, true, false, nat_lt, List, [], ◌∷◌, length, get_or, slice_get, Some, Result, Ok, Err, IfOk, refl, sym, ap, subst, ◌∙◌, arith}
use Rattle.std.proofs.lemmas.Bool.{eqb-true, lt-ltb, ltb-true, ltb-false}
use Rattle.std.proofs.lemmas.Option.{slice_get_within, get_or_from_slice_get}
use mathlib.Core.Logic.{◌⊎◌, inl, inr}
use Rattle.ty_core.specs.Types.{Typ, var, con, none, name}
use Rattle.ty_core.specs.declared.mark.Class.{Class}
use Rattle.ty_core.specs.declared.mark.Mark.{Mark}
use Rattle.ty_core.specs.declared.name.TyName.{TyName}
use Rattle.ty_table.specs.TypeAt.{type_at}
use Rattle.ty_solve.specs.Forces.{Beside, LeftAt, Met}
use Rattle.ty_solve.specs.Limits.{limit_at}
use Rattle.ty_solve.specs.Solve.{LeavesRest, problem}
use Rattle.ty_solve.specs.SlotsOf.{seen}
use Rattle.ty_solve.specs.Substitution.{Entry, free, bound, row, mark, is_below, is_in, sub}
use Rattle.ty_solve.specs.declared.limit.Limit.{Limit}
use Rattle.ty_solve.specs.declared.subst.Slot.{Slot}
use Rattle.elab_state.specs.States.{dead_level, limit_in, made, said_in, types_in}
use Rattle.elab_state.specs.declared.state.State.{State}
use Rattle.elab_steps.specs.Growing.{Always, Grows, HasType}
use Rattle.elab_steps.specs.World.{type_of}
use Rattle.elab_steps.proofs.Changing.{Tabled}
use Rattle.elab_steps.proofs.Growing.{comes_before}
use Rattle.open_variables.proofs.Limits.{limit-there}
use Rattle.run_end.specs.Chosen.{AreChosen, HasDefault, IsChosen, IsNamed, LeavesOthers}

-- what follows of two clauses of an Ok
pub if-both : {A E : Type 0} {P Q R : A → Type 0} (r : Result A E) → ((x : A) → P x → Q x → R x) → IfOk r P → IfOk r Q → IfOk r R
if-both (Ok x) f h k = f x h k
if-both (Err e) f h k = tt

-- the type that is a variable
pub variable-at : (ts : List Typ) (r v : ℕ) → slice_get ts r ≡ Some (var v) → type_at ts r ≡ var v
variable-at ts r v is = get_or_from_slice_get ts r (var v) (var 0) is

pub variable-type : (S T : State) (r v : ℕ) → Tabled S T → slice_get (types_in T) r ≡ Some (var v) → v < made S → (limit_in S v).level < dead_level → HasType T r
variable-type S T r v a is lt live =
    let at = variable-at (types_in T) r v is in
    let same : made T ≡ made S = ap length a.slots in
    record {
      held = slice_get_within (types_in T) r (var v) is;
      below = subst (λ t. is_below (made T) t ≡ true) (sym at) (lt-ltb v (made T) (omega (arith, same, lt)));
      live = λ x i.
          let e : v ≡ x = eqb-true v x (subst (λ t. is_in x t ≡ true) at i) in
          subst (λ n. (limit_at T.solver.limits.items n).level < dead_level) e (subst (λ ls. (limit_at ls v).level < dead_level) (sym a.limits) live);
    }

-- what is met while an open variable is made equal to a type name: these two alone

none-beside : (t u : Typ) → Beside t u none none → ⊥
none-beside t u b = elim b [ ]

module _ (s : ℕ → Entry) (a b : Typ) (v : ℕ) (k : Mark) (y : TyName) (is : a ≡ var v) (named : b ≡ con (name y) none) (f : s v ≡ free k) where
  only-met : (t : Typ) → Met (problem s a b) t → (t ≡ var v) ⊎ (t ≡ con (name y) none)
  only-met _ Met.left = inl is
  only-met _ Met.right = inr named
  only-met _ (Met.part h ts t d i) = by (only-met (con h ts) d)
    where
      by : (con h ts ≡ var v) ⊎ (con h ts ≡ con (name y) none) → (t ≡ var v) ⊎ (t ≡ con (name y) none)
      by (inl e) = cc
      by (inr e) = let z : ts ≡ none = cc in absurd (none-beside t t (subst (λ us. Beside t t us us) z i))
  only-met _ (Met.stands x t d q) = by (only-met (var x) d)
    where
      by : (var x ≡ var v) ⊎ (var x ≡ con (name y) none) → (t ≡ var v) ⊎ (t ≡ con (name y) none)
      by (inl e) = let g : v ≡ x = cc in let z : free k ≡ bound t = sym f ∙ ap s g ∙ q in cc
      by (inr e) = cc
  only-met _ (Met.field x e ks us l t d q i) = by (only-met (var x) d)
    where
      by : (var x ≡ var v) ⊎ (var x ≡ con (name y) none) → (t ≡ var v) ⊎ (t ≡ con (name y) none)
      by (inl p) = let g : v ≡ x = cc in let z : free k ≡ row e ks us = sym f ∙ ap s g ∙ q in cc
      by (inr p) = cc

  leaves : (x : ℕ) (e : Entry) → (x ≡ v → ⊥) → LeftAt (problem s a b) x e → e ≡ s x
  leaves x e ne (inl h) = h
  leaves x e ne (inr h) = by (only-met (var x) h.1)
    where
      by : (var x ≡ var v) ⊎ (var x ≡ con (name y) none) → e ≡ s x
      by (inl p) = let g : x ≡ v = cc in absurd (ne g)
      by (inr p) = cc

pub leaves-others : (S : State) (new : ℕ → Entry) (a b v : ℕ) → LeavesRest (said_in S) new (type_at (types_in S) a) (type_at (types_in S) b)
    → type_at (types_in S) a ≡ var v → IsNamed (type_at (types_in S) b) → (k : Mark) × (said_in S v ≡ free k) → (x : ℕ) → (x ≡ v → ⊥) → new x ≡ said_in S x
leaves-others S new a b v rest is n f x ne =
    leaves (said_in S) (type_at (types_in S) a) (type_at (types_in S) b) v f.0 n.0 is n.1 f.1 x (new x) ne (rest x)

-- the variable stands for the type name then
pub stands-for : (N T : State) (v own ty : ℕ) (y : TyName) → Grows N T → HasType N own → HasType N ty → type_at (types_in N) own ≡ var v
    → type_at (types_in N) ty ≡ con (name y) none → Always T (λ W. type_of W own ≡ type_of W ty) → Always T (λ W. W.value v ≡ con (name y) none)
stands-for N T v own ty y g a b is named e W c =
    let d = comes_before N T W g c in
    ap (sub W.value) (sym (d.types own a.held ∙ is)) ∙ e W c ∙ ap (sub W.value) (d.types ty b.held ∙ named)

-- what is said of variables

pub marked : (e : Entry) (c : Class) → mark e ≡ Mark.Class c → e ≡ free (Mark.Class c)
marked (free k) c e = ap free e
marked (bound t) c e = cc
marked (row b ks us) c e = cc

seen-past : (ts : List Typ) (os : List Slot) (v : ℕ) → length os ≤ v → seen ts os v ≡ free Mark.Any
seen-past ts [] v le = refl
seen-past ts (o ∷ os) zero le = absurd (omega (arith, le))
seen-past ts (o ∷ os) (suc v) le = seen-past ts os v (omega (arith, le))

pub limit-here : (S : State) (v : ℕ) (k : Limit) → v < made S → k ≡ get_or S.solver.limits.items v k → k ≡ limit_in S v
limit-here S v k lt e = let n = S.solver.each_has_one in e ∙ limit-there S.solver.limits.items v k (omega (arith, n, lt))

-- one variable after the other

module _ (S M T : State) (first i : ℕ) (before : Grows S M) (step : Grows M T) (lt : i < made S) (chosen : (v : ℕ) → first ≤ v → v < i → IsChosen S M v)
    (ahead : (v : ℕ) → i ≤ v → said_in M v ≡ said_in S v) (here : IsChosen M T i) (others : LeavesOthers M T i) where
  pub chosen-next : (v : ℕ) → first ≤ v → v < i + 1 → IsChosen S T v
  chosen-next v le l c e live W w = by (nat_lt v i) refl
    where
      by : (b : Bool) → nat_lt v i ≡ b → HasDefault v c W
      by true p = chosen v le (ltb-true v i p) c e live W (comes_before M T W step w)
      by false p =
          let q = ltb-false v i p in
          let s : v ≡ i = omega (arith, q, l) in
          let falls = (before.limits i lt).1 in
          let low : (limit_in S i).level < dead_level = subst (λ x. (limit_in S x).level < dead_level) s live in
          let h = here c (ahead i (omega arith) ∙ subst (λ x. said_in S x ≡ free (Mark.Class c)) s e) (omega (arith, falls, low)) W w in
          subst (λ x. HasDefault x c W) (sym s) h

  pub ahead-next : (v : ℕ) → i + 1 ≤ v → said_in T v ≡ said_in S v
  ahead-next v le = others v (λ e. omega (arith, e, le)) ∙ ahead v (omega (arith, le))

pub chosen-ends : (S T : State) (first i : ℕ) → made S ≤ i → ((v : ℕ) → first ≤ v → v < i → IsChosen S T v) → AreChosen S T first
chosen-ends S T first i le chosen v from c e live = by (nat_lt v i) refl
  where
    by : (b : Bool) → nat_lt v i ≡ b → Always T (HasDefault v c)
    by true p = chosen v from (ltb-true v i p) c e live
    by false p =
        let q = ltb-false v i p in
        let z : free Mark.Any ≡ free (Mark.Class c) = sym (seen-past (types_in S) S.solver.subst.slots.items v (omega (arith, le, q))) ∙ e in
        cc
