use Rattle.std.proofs.Common.{arith}
use Rattle.mono_sets.proofs.Keeping.{keeps-pop, same-lengths, mapped-pop}
use Rattle.mono_sets.proofs.sets.Sets.pop.Goals as goal

pub returns-clause-kept : goal.returns-clause-kept
returns-clause-kept c =
    let n = same-lengths c.args.self.now.lists.items c.args.self.now.serials.items c.args.self.now.next c.args.self.now.held.keys c.requires in
    keeps-pop c.args.self.now.lists.items c.pop-last.new.self.items c.args.self.now.serials.items c.pop-serial.new.self.items c.args.self.now.next _ _ c.args.self.now.held.keys c.pop-last.ensures.rest c.pop-serial.ensures.rest (omega (arith, n, c.args.self.now.lists.ok.0, c.args.self.now.serials.ok.0)) c.requires

pub returns-clause-popped : goal.returns-clause-popped
returns-clause-popped c = mapped-pop c.args.self.now.lists.items c.pop-last.new.self.items c.pop-last.result c.pop-last.ensures.items
