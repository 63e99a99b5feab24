-- A settled type stands for the same in all worlds.
use Rattle.std.proofs.Common.{◌≡◌, ◌<◌, ◌≤◌, ℕ, zero, suc, length, refl, sym, ap, ap₂, subst, ◌∙◌, arith}
use mathlib.Core.Logic.{inl, inr}
use Rattle.ty_core.specs.Types.{Typ, var, con, Typs, none, more}
use Rattle.ty_table.specs.TypeAt.{type_at}
use Rattle.ty_solve.specs.Substitution.{Entry, free, bound, row, is_open, sub, subs, Meets}
use Rattle.ty_solve.specs.Weight.{weight, weights, WeighsAt}
use Rattle.ir_poly.specs.Types.{in_scope}
use Rattle.elab_state.specs.States.{general_in, said_in, types_in}
use Rattle.elab_state.specs.declared.state.State.{State}
use Rattle.elab_steps.specs.World.{World, Comes, type_of}
use Rattle.open_variables.specs.Open.{Among, Occurs, IsClosed}
use Rattle.run_end.specs.Settled.{IsSettledType}

among-light : (w : ℕ → ℕ) (t : Typ) (ts : Typs) → Among t ts → weight w t ≤ weights w ts
among-light w t none a = absurd a
among-light w t (more u ts) (inl e) = let q : weight w t ≡ weight w u = ap (weight w) e in omega (arith, q)
among-light w t (more u ts) (inr a) = let q = among-light w t ts a in omega (arith, q)

all-same : (f g : ℕ → Typ) (ts : Typs) → ((t : Typ) → Among t ts → sub f t ≡ sub g t) → subs f ts ≡ subs g ts
all-same f g none h = refl
all-same f g (more t ts) h = ap₂ more (h t (inl refl)) (all-same f g ts (λ u a. h u (inr a)))

module _ (S : State) (W V : World) (c : Comes S W) (d : Comes S V) where
  abbrev w : ℕ → ℕ
  w = S.solver.subst.acyclic.0

  abbrev IsShut : Typ → Type 0
  IsShut = IsClosed (said_in S) (in_scope (general_in S))

  -- a variable, where the same holds of what it stands for
  variable-same : (v : ℕ) (e : Entry) → said_in S v ≡ e → IsShut (var v) → ((t : Typ) → weight w t < weight w (var v) → IsShut t → sub W.value t ≡ sub V.value t)
      → W.value v ≡ V.value v
  variable-same v (free k) e h below = let i = h v Occurs.itself (ap is_open e) in c.itself v i ∙ sym (d.itself v i)
  variable-same v (row b ks us) e h below = let i = h v Occurs.itself (ap is_open e) in c.itself v i ∙ sym (d.itself v i)
  variable-same v (bound t) e h below =
      let m : w v ≡ suc (weight w t) = subst (WeighsAt w (w v)) e (S.solver.subst.acyclic.1 v) in
      let p : W.value v ≡ sub W.value t = subst (Meets W.admits W.value (W.value v)) e (c.solves v) in
      let q : V.value v ≡ sub V.value t = subst (Meets V.admits V.value (V.value v)) e (d.solves v) in
      p ∙ below t (omega (arith, m)) (λ x o i. h x (Occurs.through v t e o) i) ∙ sym q

  same : (n : ℕ) (t : Typ) → weight w t < n → IsShut t → sub W.value t ≡ sub V.value t
  same zero t lt h = absurd (omega (arith, lt))
  same (suc n) (var v) lt h = variable-same v (said_in S v) refl h (λ t l i. same n t (omega (arith, lt, l)) i)
  same (suc n) (con y ts) lt h =
      ap (con y) (all-same W.value V.value ts (λ t a. same n t (let l = among-light w t ts a in omega (arith, lt, l)) (λ x o i. h x (Occurs.part y ts t a o) i)))

pub settled-one : (S : State) (k : ℕ) → k < length (types_in S) → IsSettledType S k → (W V : World) → Comes S W → Comes S V → type_of W k ≡ type_of V k
settled-one S k lt h W V c d =
    let t = type_at (types_in S) k in
    ap (sub W.value) (c.types k lt) ∙ same S W V c d (suc (weight S.solver.subst.acyclic.0 t)) t (omega arith) h ∙ ap (sub V.value) (sym (d.types k lt))
