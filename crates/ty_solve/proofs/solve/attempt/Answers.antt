use Rattle.std.proofs.Common.{◌≤◌, ◌↔◌, ℕ, subst, List}
use Rattle.ty_table.specs.of_ty_core.Types.{Typ}
use Rattle.ty_table.specs.TypeAt.{type_at}
use Rattle.ty_solve.specs.Substitution.{sub}
use Rattle.ty_solve.specs.SlotsOf.{seen}
use Rattle.std.proofs.Common.{IsTrue}
use Rattle.ty_table.specs.of_ty_core.Types.{nodes}
use Rattle.ty_solve.specs.Substitution.{Resolves}
use Rattle.ty_solve.specs.Solve.{node_limit}
use Rattle.ty_solve.specs.Weight.{IsAcyclic, AreInhabited}
use Rattle.ty_solve.proofs.Turns.{early}
use Rattle.ty_solve.proofs.Solvable.{solvable, large}
use Rattle.ty_solve.proofs.solve.attempt.Goals as goal

pub returns-in-Err-clause-cause : goal.returns-in-Err-clause-cause
returns-in-Err-clause-cause c = early (seen c.args.s.now.types c.args.s.now.slots.items) (type_at c.args.s.now.types c.args.a) (type_at c.args.s.now.types c.args.b) c.in-Err.refused c.in-Err.ensures.cause

pub returns-else-branch-clause-cause : goal.returns-else-branch-clause-cause
returns-else-branch-clause-cause c =
    let t = c.in-Ok.ensures.types in
    record {
      after = seen c.args.s.now.types c.solve.new.s.slots.items;
      general = c.in-Ok.ensures.general;
      solvable = solvable (seen c.args.s.now.types c.solve.new.s.slots.items) (subst (λ (x : List Typ). IsAcyclic (seen x c.solve.new.s.slots.items)) t c.solve.new.s.acyclic) (subst (λ (x : List Typ). AreInhabited (seen x c.solve.new.s.slots.items)) t c.solve.new.s.inhabited);
      large = λ f h. large _ _ c.if-branch.false (subst (λ (x : List Typ). (f : ℕ → Typ) → Resolves f (seen x c.solve.new.s.slots.items) → IsTrue c.in_ok-is_small-in-Ok.field-0 ↔ (nodes (sub f (type_at x c.args.a)) ≤ node_limit)) t c.in_ok-is_small-in-Ok.ensures f h);
    }
