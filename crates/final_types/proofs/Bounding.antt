-- Limits of variables, and bounds of the type names in types in the end.
use Rattle.std.proofs.Common.{◌≡◌, ◌<◌, ◌≤◌, ◌^◌, ◌-◌, ℕ, zero, suc, max, Bool, true, false, nat_eq, nat_lt, if◌then◌else◌, List, [], ◌∷◌, length, take, get_or, Option, Some, None, refl, sym, ap, subst, arith}
use Rattle.std.proofs.lemmas.Bool.{lt-ltb, ltb-true, ltb-false}
use Rattle.ty_core.specs.Types.{Symbol, arrow, labels, name, Typ, var, con, Typs, none, more}
use Rattle.ty_core.specs.TypesOf.{head_of}
use Rattle.ty_core.specs.declared.mark.Class.{Class}
use Rattle.ty_core.specs.declared.mark.Mark.{Mark}
use Rattle.ty_core.specs.declared.ty.Head.{Head}
use Rattle.ty_table.specs.TypeAt.{type_at, types_at}
use Rattle.ty_solve.specs.Limits.{SymbolOver, Limited, AllLimited, LimitedAt, limit_at}
use Rattle.ty_solve.specs.Said.{said}
use Rattle.ty_solve.specs.Substitution.{Entry, free, bound, row, sub, subs}
use Rattle.ty_solve.specs.Weight.{weight, weights, WeighsAt}
use Rattle.ty_solve.specs.declared.limit.Limit.{Limit}
use Rattle.ty_solve.specs.declared.solver.Solver.{Solver}
use Rattle.core_rules.specs.Objects as static
use Rattle.elab_state.specs.States.{dead_level}
use Rattle.ty_basis.specs.Types.{unit_type}
use Rattle.final_types.specs.Bounds.{AreBounds, IsBound, bound_in, wider_of, widest}
use Rattle.final_types.specs.Nodes.{default_of, IsEnd, IsPlain, open_by, types_of, value_by}
use Rattle.final_types.proofs.Imaging.{over-upto, symbol-upto}

-- limits

abbrev pub no_limit : Limit
no_limit = record { names = 4; level = 0 }

pub limit-there : (ls : List Limit) (v : ℕ) (d : Limit) → v < length ls → get_or ls v d ≡ limit_at ls v
limit-there [] v d lt = absurd (omega (arith, lt))
limit-there (l ∷ ls) zero d lt = refl
limit-there (l ∷ ls) (suc v) d lt = limit-there ls v d (omega (arith, lt))

pub limit-past : (ls : List Limit) (v : ℕ) → length ls ≤ v → no_limit ≡ limit_at ls v
limit-past [] v le = refl
limit-past (l ∷ ls) zero le = absurd (omega (arith, le))
limit-past (l ∷ ls) (suc v) le = limit-past ls v (omega (arith, le))

-- a variable that is done with was made
pub done-small : (ls : List Limit) (v : ℕ) → length ls ≤ 2 ^ 64 - 1 → (limit_at ls v).level ≡ dead_level → v < 2 ^ 64 - 1
done-small ls v le d = by (nat_lt v (length ls)) refl
  where
    by : (b : Bool) → nat_lt v (length ls) ≡ b → v < 2 ^ 64 - 1
    by true q = let lt = ltb-true v (length ls) q in omega (arith, lt, le)
    by false q =
        let p = ltb-false v (length ls) q in
        let e : 0 ≡ (limit_at ls v).level = ap (λ l. l.level) (limit-past ls v (omega (arith, p))) in
        absurd (omega (arith, e, d))

pub plain-mark : (k : Mark) → ((c : Class) → k ≡ Mark.Class c → ⊥) → IsPlain k
plain-mark Mark.Any h = tt
plain-mark Mark.Equality h = tt
plain-mark (Mark.Class c) h = h c refl

-- the names of what a variable stands for are those of its limit

-- limits and the rules ask the same of names
symbol-over : (n : ℕ) (h : Symbol) → SymbolOver n h → static.SymbolOver n h
symbol-over n arrow o = tt
symbol-over n (labels ls) o = tt
symbol-over n (name y) o = o

default-low : (c : Class) → default_of c < 4
default-low c = go c.int c.word c.char
  where
    go : (i w d : Bool) → (if i then 0 else (if w then 1 else (if d then 2 else 3))) < 4
    go true w d = omega arith
    go false true d = omega arith
    go false false true = omega arith
    go false false false = omega arith

either-over : (n : ℕ) (b : Bool) (v : ℕ) → static.Over n (if b then var v else unit_type)
either-over n true v = tt
either-over n false v = (tt, tt)

open-over : (l : Limit) (n v : ℕ) (k : Mark) → 4 ≤ n → static.Over n (open_by l v k)
open-over l n v Mark.Any le = either-over n (nat_eq l.level dead_level) v
open-over l n v Mark.Equality le = either-over n (nat_eq l.level dead_level) v
open-over l n v (Mark.Class c) le = let a = default-low c in (lt-ltb (default_of c) n (omega (arith, a, le)), tt)

module _ (M : Solver) (g : ℕ → Typ) (end : IsEnd M g) where
  abbrev limit : ℕ → Limit
  limit = limit_at M.limits.items

  abbrev weigh : ℕ → ℕ
  weigh = M.subst.acyclic.0

  abbrev OverBelow : ℕ → Type 0
  OverBelow k = (x : ℕ) → weigh x < k → static.Over (limit x).names (g x)

  mutual
    over-type : (k : ℕ) → OverBelow k → (l : Limit) (t : Typ) → weight weigh t ≤ k → Limited limit l t → static.Over l.names (sub g t)
    over-type k again l (var x) le i = over-upto (limit x).names l.names (g x) i.0 (again x (omega (arith, le)))
    over-type k again l (con c ts) le i = (symbol-over l.names c i.0, all-over-type k again l ts (omega (arith, le)) i.1)

    all-over-type : (k : ℕ) → OverBelow k → (l : Limit) (ts : Typs) → weights weigh ts ≤ k → AllLimited limit l ts → static.AllOver l.names (subs g ts)
    all-over-type k again l none le i = tt
    all-over-type k again l (more t ts) le i = (over-type k again l t (omega (arith, le)) i.0, all-over-type k again l ts (omega (arith, le)) i.1)

  over-entry : (k v : ℕ) (e : Entry) → WeighsAt weigh (weigh v) e → LimitedAt limit (limit v) e → weigh v ≤ k → OverBelow k → static.Over (limit v).names (value_by limit g v e)
  over-entry k v (free j) w i le again = open-over (limit v) (limit v).names v j (M.wide v)
  over-entry k v (bound t) w i le again = over-type k again (limit v) t (omega (arith, w, le)) i
  over-entry k v (row d ks us) w i le again = (tt, all-over-type k again (limit v) us (omega (arith, w, le)) i)

  over-by : (k v : ℕ) → weigh v < k → static.Over (limit v).names (g v)
  over-by zero v lt = absurd (omega (arith, lt))
  over-by (suc k) v lt = subst (static.Over (limit v).names) (sym (end v)) (over-entry k v (said M.subst v) (M.subst.acyclic.1 v) (M.limited v) (omega (arith, lt)) (λ x. over-by k x))

  pub end-over : (v : ℕ) → static.Over (limit v).names (g v)
  end-over v = over-by (suc (weigh v)) v (omega arith)

-- bounds of parts

pub widest-next : (bs : List (Option ℕ)) (o : Option ℕ) (ks : List ℕ) (i d : ℕ) → i < length ks → widest bs o (take (suc i) ks) ≡ wider_of (widest bs o (take i ks)) (bound_in bs (get_or ks i d))
widest-next bs o [] i d lt = absurd (omega (arith, lt))
widest-next bs o (k ∷ ks) zero d lt = refl
widest-next bs o (k ∷ ks) (suc i) d lt = widest-next bs (wider_of o (bound_in bs k)) ks i d (omega (arith, lt))

record IsWider (o p : Option ℕ) (c : ℕ) : Type 0 where
  first : ℕ
  second : ℕ
  is_first : o ≡ Some first
  is_second : p ≡ Some second
  above_first : first ≤ c
  above_second : second ≤ c

wider-some : (o p : Option ℕ) (c : ℕ) → wider_of o p ≡ Some c → IsWider o p c
wider-some None p c e = cc
wider-some (Some a) None c e = cc
wider-some (Some a) (Some b) c e =
    let m : max a b ≡ c = cc in
    record { first = a; second = b; is_first = refl; is_second = refl; above_first = omega (arith, m); above_second = omega (arith, m) }

record IsLeast (o : Option ℕ) (b : ℕ) : Type 0 where
  least : ℕ
  is : o ≡ Some least
  below : least ≤ b

widest-least : (bs : List (Option ℕ)) (o : Option ℕ) (ks : List ℕ) (b : ℕ) → widest bs o ks ≡ Some b → IsLeast o b
widest-least bs o [] b e = record { least = b; is = e; below = omega arith }
widest-least bs o (k ∷ ks) b e =
    let w = widest-least bs (wider_of o (bound_in bs k)) ks b e in
    let i = wider-some o (bound_in bs k) w.least w.is in
    record { least = i.first; is = i.is_first; below = let p = i.above_first in let q = w.below in omega (arith, p, q) }

module _ (M : Solver) (bs : List (Option ℕ)) (are : AreBounds M bs) (g : ℕ → Typ) (end : IsEnd M g) where
  parts-over : (o : Option ℕ) (ks : List ℕ) (b : ℕ) → widest bs o ks ≡ Some b → static.AllOver b (subs g (types_at (types_of M) ks))
  parts-over o [] b e = tt
  parts-over o (k ∷ ks) b e =
      let w = widest-least bs (wider_of o (bound_in bs k)) ks b e in
      let i = wider-some o (bound_in bs k) w.least w.is in (
        over-upto i.second b (sub g (type_at (types_of M) k)) (let p = i.above_second in let q = w.below in omega (arith, p, q)) (subst (λ x. IsBound x (sub g (type_at (types_of M) k))) i.is_second (are k g end)),
        parts-over (wider_of o (bound_in bs k)) ks b e,
      )

  pub apply-bound : (k least : ℕ) (h : Head) (ks : List ℕ) → type_at (types_of M) k ≡ con (head_of h) (types_at (types_of M) ks) → static.SymbolOver least (head_of h)
      → IsBound (widest bs (Some least) ks) (sub g (type_at (types_of M) k))
  apply-bound k least h ks e o = subst (λ t. IsBound (widest bs (Some least) ks) (sub g t)) (sym e) (by (widest bs (Some least) ks) refl)
    where
      by : (r : Option ℕ) → widest bs (Some least) ks ≡ r → IsBound r (con (head_of h) (subs g (types_at (types_of M) ks)))
      by None q = tt
      by (Some b) q =
          let w = widest-least bs (Some least) ks b q in
          let m : least ≡ w.least = let i = w.is in cc in
          (symbol-upto least b (head_of h) (let p = w.below in omega (arith, p, m)) o, parts-over (Some least) ks b q)

pub variable-bound : (M : Solver) (g : ℕ → Typ) → IsEnd M g → (k v : ℕ) → type_at (types_of M) k ≡ var v → static.Over (limit_at M.limits.items v).names (sub g (type_at (types_of M) k))
variable-bound M g end k v e = subst (λ t. static.Over (limit_at M.limits.items v).names (sub g t)) (sym e) (end-over M g end v)
