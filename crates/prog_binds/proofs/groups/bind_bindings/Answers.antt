use Rattle.prog_known.proofs.ListLemmas.{drop-next-is}
use Rattle.prog_known.proofs.OntoLemmas.{as-onto, run-starts, run-more, run-ends}
use Rattle.prog_binds.specs.Chains.{next_bind_step}
use Rattle.prog_binds.proofs.Onward.{binds-run}
use Rattle.prog_binds.proofs.groups.bind_bindings.Goals as goal

pub loop-i-init : goal.loop-i-init
loop-i-init c = run-starts c.args.tables.now (next_bind_step c.args.tables.now c.args.parameters) c.args.binds.now c.args.variables.now

pub loop-i-preserved : goal.loop-i-preserved
loop-i-preserved c = run-more c.args.tables.now (next_bind_step c.args.tables.now c.args.parameters) c.args.binds.now c.args.variables.now c.loop-i.variables c.bind_binding.new.variables c.loop-i.i _
    (drop-next-is c.args.binds.now c.loop-i.i c.index-binds-i.result c.loop-i-test.true c.index-binds-i.is) c.loop-i.invariant c.in_ok-bind_binding.ensures

pub returns : goal.returns
returns c = as-onto c.args.tables.now c.args.variables.now c.loop-i.variables _ _ (binds-run c.args.tables.now c.args.parameters c.args.binds.now)
    (run-ends c.args.tables.now (next_bind_step c.args.tables.now c.args.parameters) c.args.binds.now c.args.variables.now c.loop-i.variables c.loop-i.i c.loop-i-test.false c.loop-i.invariant)
