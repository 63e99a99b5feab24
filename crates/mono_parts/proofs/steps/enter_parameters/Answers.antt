use Rattle.std.proofs.Common.{[]}
use Rattle.mono_state.specs.Seen.{seen}
use Rattle.mono_state.proofs.Going.{goes-then}
use Rattle.mono_parts.proofs.Lists.{entered-next, entered-all}
use Rattle.mono_parts.proofs.steps.enter_parameters.Goals as goal

pub enter_variable-requires : goal.enter_variable-requires
enter_variable-requires c = (c.loop-i.invariant.goes []).open_

pub loop-i-preserved : goal.loop-i-preserved
loop-i-preserved c = record {
  goes = λ sources. goes-then sources c.args.copier.now c.loop-i.copier c.enter_variable.new.copier (c.loop-i.invariant.goes sources) (c.in_ok-enter_variable.ensures.goes sources);
  entered = λ ss H.
      entered-next c.args.parameters.now c.loop-i.i _ (seen ss H c.args.copier.now) (seen ss H c.loop-i.copier) (seen ss H c.enter_variable.new.copier) c.loop-i-test.true (c.loop-i.invariant.entered ss H)
      (c.in_ok-enter_variable.ensures.entered ss H);
}

pub returns-clause-entered : goal.returns-clause-entered
returns-clause-entered c = λ ss H. entered-all c.args.parameters.now c.loop-i.i (seen ss H c.args.copier.now) (seen ss H c.loop-i.copier) c.loop-i-test.false (c.loop-i.invariant.entered ss H)
