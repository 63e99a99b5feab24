use Rattle.std.proofs.Common.{arith}
use Rattle.mono_sets.specs.Kept.{lists_of}
use Rattle.mono_sets.proofs.Keeping.{keeps-push, pushed-none}
use Rattle.mono_sets.proofs.sets.Sets.push.Goals as goal

pub returns-clause-kept : goal.returns-clause-kept
returns-clause-kept c = keeps-push (lists_of c.args.self.now) _ c.args.self.now.serials.items c.push-2.new.self.items c.args.self.now.next _ c.args.self.now.held.keys (pushed-none c.args.self.now.lists.items c.push.new.self.items c.new.result c.in_ok-push.ensures.items c.new.ensures.items) c.in_ok-push-2.ensures.items (omega arith) c.requires

pub returns-clause-pushed : goal.returns-clause-pushed
returns-clause-pushed c = pushed-none c.args.self.now.lists.items c.push.new.self.items c.new.result c.in_ok-push.ensures.items c.new.ensures.items
