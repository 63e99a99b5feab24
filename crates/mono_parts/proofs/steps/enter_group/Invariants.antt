use Rattle.std.proofs.Common.{◌≤◌, length, drop}
use Rattle.ir_tables.specs.Tables.{parameters_of, parameters_at}
use Rattle.monomorphise.specs.Monomorphise.{units}
use Rattle.mono_parts.proofs.Scopes.{GroupEntered}
use Rattle.mono_parts.proofs.steps.enter_group.Given as goal

abbrev pub invariant-loop-left : goal.invariant-loop-left
invariant-loop-left l = record {
  within : l.left ≤ length l.functions;
  entered : GroupEntered l.fn.tables (units (parameters_at (parameters_of l.fn.tables) l.parameters)) l.fn.copier l.copier (drop l.left l.functions);
}

abbrev pub decreases-loop-left : goal.decreases-loop-left
decreases-loop-left l = l.left
