use Rattle.closure_parts.proofs.Putting.{turn-pushed, turn-none}
use Rattle.closure_parts.proofs.operation.push_turn.Goals as goal

pub returns-in_ok-push-in-Some : goal.returns-in_ok-push-in-Some
returns-in_ok-push-in-Some c = turn-pushed c.args.steps.now.items c.push.new.self.items c.args.place c.in-Some.place c.in-Some.is c.in_ok-push-in-Some.ensures.items

pub returns-in-None : goal.returns-in-None
returns-in-None c = turn-none c.args.steps.now.items c.args.place c.in-None.is
