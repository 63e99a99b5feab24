use Rattle.elab_context.proofs.of_elab_steps.Growing.{type_later}
use Rattle.use_elab.proofs.Making.{type-at, among-later, writes_more}
use Rattle.use_elab.proofs.writing.write_all.Goals as goal

pub write-requires-clause-held : goal.write-requires-clause-held
write-requires-clause-held c =
    (type_later c.args.state.now c.loop-i.state _ c.loop-i.invariant.grows (type-at c.args.state.now c.args.types.now c.loop-i.i 0 c.requires.types c.loop-i-test.true)).held

pub write-requires-clause-among : goal.write-requires-clause-among
write-requires-clause-among c = among-later c.args.state.now c.loop-i.state c.args.naming c.loop-i.invariant.grows c.requires.among

pub loop-i-preserved : goal.loop-i-preserved
loop-i-preserved c =
    writes_more c.args.state.now c.loop-i.state c.write.new.state c.args.naming c.args.types.now c.loop-i.i 0 c.loop-i.written.items c.push.new.self.items c.in_ok-number.number
    c.loop-i-test.true c.loop-i.invariant c.in_ok-number.ensures.grows c.in_ok-number.ensures.is c.in_ok-number.ensures.next c.in_ok-push.ensures.items
