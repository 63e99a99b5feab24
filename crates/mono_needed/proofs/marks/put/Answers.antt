use Rattle.std.proofs.Common.{true, false, refl}
use Rattle.mono_needed.proofs.Marking.{marked-same, marked-put, mark-is, key-old, key-new}
use Rattle.mono_needed.proofs.marks.put.Goals as goal

pub returns-then-there-clause-marked : goal.returns-then-there-clause-marked
returns-then-there-clause-marked c = marked-same c.args.needed.now.items c.args.marks.now.items c.reach.new.marks.items c.requires c.in_ok-reach.ensures.same

pub returns-then-there-clause-put : goal.returns-then-there-clause-put
returns-then-there-clause-put c = key-old c.args.needed.now.items c.args.number
    (mark-is c.args.needed.now.items c.args.marks.now.items c.reach.new.marks.items c.args.number _ true c.requires c.in_ok-reach.ensures.same c.in_ok-reach.ensures.reaches c.index-there.ensures c.if-there.true)

pub returns-clause-marked : goal.returns-clause-marked
returns-clause-marked c = marked-put c.args.needed.now.items c.push.new.self.items c.reach.new.marks.items _ c.args.number
    (marked-same c.args.needed.now.items c.args.marks.now.items c.reach.new.marks.items c.requires c.in_ok-reach.ensures.same) c.in_ok-reach.ensures.reaches c.in_ok-push.ensures.items refl

pub returns-clause-put : goal.returns-clause-put
returns-clause-put c = key-new c.args.needed.now.items c.push.new.self.items c.args.number
    (mark-is c.args.needed.now.items c.args.marks.now.items c.reach.new.marks.items c.args.number _ false c.requires c.in_ok-reach.ensures.same c.in_ok-reach.ensures.reaches c.index-there.ensures c.if-there.false) c.in_ok-push.ensures.items
