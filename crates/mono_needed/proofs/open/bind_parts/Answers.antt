use Rattle.std.proofs.Common.{arith}
use Rattle.mono_needed.proofs.Arguments.{all-left, binding-begins, binding-goes, binding-found}
use Rattle.mono_needed.proofs.open.bind_parts.Goals as goal

pub loop-i-init : goal.loop-i-init
loop-i-init c = binding-begins c.truncate.new.self c.args.parts.now (all-left c.args.slots.now c.truncate.new.self c.truncate.ensures)

pub loop-i-preserved : goal.loop-i-preserved
loop-i-preserved c = binding-goes c.loop-i.slots c.bind.new.self c.args.parts.now c.loop-i.i _ c.loop-i-test.true c.in_ok-bind.ensures.bound c.loop-i.invariant

pub returns-clause-slots : goal.returns-clause-slots
returns-clause-slots c = λ v. binding-found c.loop-i.slots c.args.parts.now c.loop-i.i v (omega arith) c.loop-i.invariant

pub returns-clause-held : goal.returns-clause-held
returns-clause-held c = c.loop-i.invariant.held
