use Rattle.mono_sets.specs.Kept.{lists_of}
use Rattle.mono_sets.proofs.Keeping.{got-index, serial-within, keeps-new, keeps-old, pushed-one}
use Rattle.mono_sets.proofs.sets.Sets.add.Goals as goal

pub returns-in_ok-push-clause-kept : goal.returns-in_ok-push-clause-kept
returns-in_ok-push-clause-kept c = (keeps-new (lists_of c.args.self.now) c.args.self.now.serials.items c.args.self.now.next c.args.self.now.held.keys c.insert.new.self.keys c.args.at c.index-serial.result.now c.args.number
    (got-index c.args.self.now.serials.items c.args.at c.index-serial.result.now c.index-serial.ensures (serial-within (lists_of c.args.self.now) c.args.self.now.serials.items c.args.self.now.next c.args.at c.args.self.now.held.keys c.requires.kept c.requires.within)) c.requires.kept c.in_ok-new.ensures.keys
    _ c.in_ok-new.new c.in_ok-new.ensures.added c.if-new.true (pushed-one c.args.self.now.lists.items c.args.at c.args.number c.index_mut.result.now c.push.new.self c.requires.within c.index_mut.ensures.value c.in_ok-push.ensures.items)).0

pub returns-in_ok-push-clause-added : goal.returns-in_ok-push-clause-added
returns-in_ok-push-clause-added c = (keeps-new (lists_of c.args.self.now) c.args.self.now.serials.items c.args.self.now.next c.args.self.now.held.keys c.insert.new.self.keys c.args.at c.index-serial.result.now c.args.number
    (got-index c.args.self.now.serials.items c.args.at c.index-serial.result.now c.index-serial.ensures (serial-within (lists_of c.args.self.now) c.args.self.now.serials.items c.args.self.now.next c.args.at c.args.self.now.held.keys c.requires.kept c.requires.within)) c.requires.kept c.in_ok-new.ensures.keys
    _ c.in_ok-new.new c.in_ok-new.ensures.added c.if-new.true (pushed-one c.args.self.now.lists.items c.args.at c.args.number c.index_mut.result.now c.push.new.self c.requires.within c.index_mut.ensures.value c.in_ok-push.ensures.items)).1

pub returns-else-new-clause-kept : goal.returns-else-new-clause-kept
returns-else-new-clause-kept c = (keeps-old (lists_of c.args.self.now) c.args.self.now.serials.items c.args.self.now.next c.args.self.now.held.keys c.insert.new.self.keys c.args.at c.index-serial.result.now c.args.number
    (got-index c.args.self.now.serials.items c.args.at c.index-serial.result.now c.index-serial.ensures (serial-within (lists_of c.args.self.now) c.args.self.now.serials.items c.args.self.now.next c.args.at c.args.self.now.held.keys c.requires.kept c.requires.within)) c.requires.kept c.in_ok-new.ensures.keys
    c.in_ok-new.new c.in_ok-new.ensures.added c.if-new.false).0

pub returns-else-new-clause-added : goal.returns-else-new-clause-added
returns-else-new-clause-added c = (keeps-old (lists_of c.args.self.now) c.args.self.now.serials.items c.args.self.now.next c.args.self.now.held.keys c.insert.new.self.keys c.args.at c.index-serial.result.now c.args.number
    (got-index c.args.self.now.serials.items c.args.at c.index-serial.result.now c.index-serial.ensures (serial-within (lists_of c.args.self.now) c.args.self.now.serials.items c.args.self.now.next c.args.at c.args.self.now.held.keys c.requires.kept c.requires.within)) c.requires.kept c.in_ok-new.ensures.keys
    c.in_ok-new.new c.in_ok-new.ensures.added c.if-new.false).1
