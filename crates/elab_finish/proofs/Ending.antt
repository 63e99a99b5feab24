-- The tables at the end.
use Rattle.std.proofs.Common.{◌≡◌, ◌<◌, ◌≤◌, ℕ, zero, suc, Bool, true, false, nat_eq, nat_lt, if◌then◌else◌, List, [], ◌∷◌, ◌++◌, length, take, refl, ap, ◌∙◌, arith}
use Rattle.std.specs.Prelude.{slice_get, slice_index_or}
use Rattle.std.proofs.lemmas.Bool.{eqb-true, eq-eqb, ltb-true, ltb-false}
use Rattle.ty_core.specs.Types.{Typ, var}
use Rattle.ty_core.specs.declared.mark.Mark.{Mark}
use Rattle.ty_table.specs.TypeAt.{type_at}
use Rattle.ty_solve.specs.Limits.{limit_at}
use Rattle.ty_solve.specs.Substitution.{Entry, free, bound, row, is_open}
use Rattle.ty_solve.specs.declared.limit.Limit.{Limit}
use Rattle.ir_poly.specs.Types.{in_scope}
use Rattle.elab_state.specs.Readings.{type_if}
use Rattle.elab_state.specs.States.{made, said_in, limit_in, general_in, dead_level}
use Rattle.elab_state.specs.declared.naming.Naming.{Naming}
use Rattle.elab_state.specs.declared.naming.Written.{Written}
use Rattle.elab_state.specs.declared.state.State.{State}
use Rattle.elab_steps.specs.Tidy.{IsTidy}
use Rattle.elab_worlds.specs.Final.{unit_type, final_at, IsFinal}
use Rattle.final_types.specs.Ended.{IsEnded}
use Rattle.final_types.specs.Nodes.{IsEnd, value_by}
use Rattle.final_types.specs.declared.finish.Finished.{Finished}
use Rattle.elab_finish.specs.Finished.{IsFinished}

limit-past : (ls : List Limit) (x : ℕ) → length ls ≤ x → (limit_at ls x).level ≡ 0
limit-past [] x le = refl
limit-past (k ∷ ls) zero le = absurd (omega (arith, le))
limit-past (k ∷ ls) (suc x) le = limit-past ls x (omega (arith, le))

-- a variable was generalised exactly where it is done with, if it is open

module _ (S : State) (l : ℕ) (t : IsTidy S l) where
  done-general : (v : ℕ) → is_open (said_in S v) ≡ true → in_scope (general_in S) v ≡ nat_eq (limit_in S v).level dead_level
  done-general v o = by (in_scope (general_in S) v) (nat_eq (limit_in S v).level dead_level) refl refl
    where
      made-is : (limit_in S v).level ≡ dead_level → v < made S
      made-is d = at (nat_lt v (made S)) refl
        where
          at : (c : Bool) → nat_lt v (made S) ≡ c → v < made S
          at true e = ltb-true v (made S) e
          at false e =
              let a = ltb-false v (made S) e in let b = S.solver.each_has_one in
              absurd (let p = limit-past S.solver.limits.items v (omega (arith, a, b)) in omega (arith, p, d))

      by : (a b : Bool) → in_scope (general_in S) v ≡ a → nat_eq (limit_in S v).level dead_level ≡ b → a ≡ b
      by true true e f = refl
      by false false e f = refl
      by true false e f = let d = t.done v e in let g = eq-eqb (limit_in S v).level dead_level d in cc
      by false true e f = let d = eqb-true (limit_in S v).level dead_level f in let g = t.ended v (made-is d) o d in cc

  pub final-end : (g : ℕ → Typ) → IsFinal S g → IsEnd S.solver g
  final-end g h v = h v ∙ by (said_in S v) refl
    where
      by : (e : Entry) → said_in S v ≡ e → final_at (general_in S) g v e ≡ value_by (limit_at S.solver.limits.items) g v e
      by (free Mark.Any) is = ap (λ b. if b then var v else unit_type) (done-general v (ap is_open is))
      by (free Mark.Equality) is = ap (λ b. if b then var v else unit_type) (done-general v (ap is_open is))
      by (free (Mark.Class c)) is = refl
      by (bound u) is = refl
      by (row e ks us) is = refl

-- so what is said of tables for the end of the solver is so for what is final
pub ended-finished : (S : State) (l : ℕ) → IsTidy S l → (f : Finished) → IsEnded S f → IsFinished S f
ended-finished S l t f e = record {
  types = λ g h. e.types g (final-end S l t g h);
  exn = e.exn;
  initial = e.initial;
  constructors = e.constructors;
  parameters = e.parameters;
  strings = e.strings;
}
