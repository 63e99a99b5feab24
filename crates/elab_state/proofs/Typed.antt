-- Types of a state.
use Rattle.std.proofs.Common.{◌≡◌, ◌<◌, ◌≤◌, ◌||◌, ◌⊎◌, inl, inr, ℕ, Bool, true, false, List, refl, sym, ap, subst, ◌∙◌, arith}
use Rattle.std.proofs.lemmas.Bool.{eqb-true, eq-eqb, ltb-true, and_parts, and_from}
use Rattle.ty_core.specs.Types.{Typ, Typs, var, con, none, more}
use Rattle.ty_core.specs.declared.scheme.Quantified.{Quantified}
use Rattle.ty_table.specs.TypeAt.{type_at}
use Rattle.ty_instance.specs.of_ty_solve.Limits.{NoFurther}
use Rattle.ty_instance.specs.of_ty_solve.Substitution.{sub, subs, is_in, are_in, is_below, are_below}
use Rattle.ty_instance.specs.of_ty_solve.declared.limit.Limit.{Limit}
use Rattle.ty_instance.proofs.of_ty_solve.Holding.{type-stays}
use Rattle.ty_instance.proofs.of_ty_solve.Look.{below-more}
use Rattle.ty_instance.proofs.Going.{longer}
use Rattle.prog_tree.specs.of_ir_poly.Types.{over, all_over}
use Rattle.elab_state.specs.States.{types_in, made, limit_in, value_in, dead_level, IsType}
use Rattle.elab_state.specs.Generic.{IsGeneric}
use Rattle.elab_state.specs.Steps.{Grows, Extends, Always}
use Rattle.elab_state.specs.declared.state.State.{State}
use Rattle.elab_state.proofs.Extending.{grows-on}
use Rattle.elab_state.proofs.Solving.{over-deeper}

pub either : (a b : Bool) → (a || b) ≡ true → (a ≡ true) ⊎ (b ≡ true)
either true b h = inl refl
either false b h = inr h

-- a variable of a type whose variables are below n
mutual
  pub in-below : (n v : ℕ) (t : Typ) → is_in v t ≡ true → is_below n t ≡ true → v < n
  in-below n v (var x) i b = subst (λ y. y < n) (eqb-true x v i) (ltb-true x n b)
  in-below n v (con c ts) i b = ins-below n v ts i b

  ins-below : (n v : ℕ) (ts : Typs) → are_in v ts ≡ true → are_below n ts ≡ true → v < n
  ins-below n v none i b = cc
  ins-below n v (more t ts) i b =
      let p = and_parts (is_below n t) (are_below n ts) b in
      elim (either (is_in v t) (are_in v ts) i) [ inl j ↦ in-below n v t j p.0 | inr j ↦ ins-below n v ts j p.1 ]

-- what is over parameters in each of a type's variables is so in the type
mutual
  pub over-sub : (qs : List Quantified) (g : ℕ → Typ) (t : Typ) → ((v : ℕ) → is_in v t ≡ true → over qs (g v) ≡ true) → over qs (sub g t) ≡ true
  over-sub qs g (var v) h = h v (eq-eqb v v refl)
  over-sub qs g (con c ts) h = overs-sub qs g ts h

  overs-sub : (qs : List Quantified) (g : ℕ → Typ) (ts : Typs) → ((v : ℕ) → are_in v ts ≡ true → over qs (g v) ≡ true) → all_over qs (subs g ts) ≡ true
  overs-sub qs g none h = refl
  overs-sub qs g (more t ts) h =
      and_from (over qs (sub g t)) (all_over qs (subs g ts)) (over-sub qs g t (λ v i. h v (or-left (is_in v t) (are_in v ts) i)))
      (overs-sub qs g ts (λ v i. h v (or-right (is_in v t) (are_in v ts) i)))
    where
      or-left : (a b : Bool) → a ≡ true → (a || b) ≡ true
      or-left true b e = refl
      or-left false b e = cc

      or-right : (a b : Bool) → b ≡ true → (a || b) ≡ true
      or-right true b e = refl
      or-right false b e = e

falls : (a b : Limit) (l : ℕ) → NoFurther a b → b.level ≤ l → a.level ≤ l
falls a b l h k = let x = h.1 in omega arith

pub type-later : (l k : ℕ) (S T : State) → Extends l S T → IsType S l k → IsType T l k
type-later l k S T e h =
    let same : type_at (types_in T) k ≡ type_at (types_in S) k = type-stays (types_in S) (types_in T) k e.grows.types h.held in
    record {
      held = let a = longer (types_in S) (types_in T) e.grows.types in let b = h.held in omega arith;
      below = ap (is_below (made T)) same ∙ below-more (made S) (made T) e.variables (type_at (types_in S) k) h.below;
      shallow = λ v i.
          let j : is_in v (type_at (types_in S) k) ≡ true = sym (ap (is_in v) same) ∙ i in
          falls (limit_in T v) (limit_in S v) l (e.limits v (in-below (made S) v (type_at (types_in S) k) j h.below) (h.shallow v j)) (h.shallow v j);
    }

pub value-over : (l k : ℕ) (S : State) (D : ℕ → List Quantified) (g : ℕ → Typ) → l < dead_level → IsGeneric S D g → IsType S l k → over (D l) (value_in S g k) ≡ true
value-over l k S D g lt h t = over-sub (D l) g (type_at (types_in S) k) (λ v i.
    let s = t.shallow v i in
    over-deeper D h.nested (limit_in S v).level l (g v) s (h.within v (in-below (made S) v (type_at (types_in S) k) i t.below) (omega arith)))

pub value-stays : (l k : ℕ) (S T : State) (g : ℕ → Typ) → Grows S T → IsType S l k → value_in T g k ≡ value_in S g k
value-stays l k S T g e h = ap (sub g) (type-stays (types_in S) (types_in T) k e.types h.held)

pub always-later : (l : ℕ) (S T : State) (P : State → (ℕ → List Quantified) → (ℕ → Typ) → Type 0) → Extends l S T → Always S P → Always T P
always-later l S T P e h later k D g c = h later (grows-on S T later e.grows k) D g (e.narrows D g c)
