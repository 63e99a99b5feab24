use Rattle.std.proofs.Common.{nat_eq}
use Rattle.indexmap.specs.IndexMap.{get}
use Rattle.mono_number.specs.declared.walk.After.TheVariants as after
use Rattle.mono_number.proofs.Given.{if-ok}
use Rattle.mono_number.proofs.Moving.{at-after}
use Rattle.mono_number.proofs.walk.follow.Goals as goal

pub returns-in-Ends : goal.returns-in-Ends
returns-in-Ends c = if-ok _ _ c.finish.result (λ u h. at-after c.args.limit (get nat_eq c.args.known.now) c.args.after after.Ends c.args.walk.now c.finish.new.walk c.in-Ends.is h) c.finish.ensures

pub returns-in-Enters : goal.returns-in-Enters
returns-in-Enters c = if-ok _ _ c.enter.result (λ u h. at-after c.args.limit (get nat_eq c.args.known.now) c.args.after (after.Enters c.in-Enters.around) c.args.walk.now c.enter.new.walk c.in-Enters.is (h (get nat_eq c.args.known.now))) c.enter.ensures

pub returns-in-Binds : goal.returns-in-Binds
returns-in-Binds c = if-ok _ _ c.bind.result (λ u h. at-after c.args.limit (get nat_eq c.args.known.now) c.args.after (after.Binds c.in-Binds.copy) c.args.walk.now c.bind.new.walk c.in-Binds.is (h (get nat_eq c.args.known.now))) c.bind.ensures
