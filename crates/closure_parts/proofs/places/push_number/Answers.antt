use Rattle.std.proofs.Common.{reverse}
use Rattle.closure_parts.proofs.Finding.{number-one, number-none}
use Rattle.closure_parts.proofs.places.push_number.Goals as goal

pub returns-in_ok-push-in-Some : goal.returns-in_ok-push-in-Some
returns-in_ok-push-in-Some c = number-one (reverse c.args.constructors.now) c.args.i c.in-Some.number c.args.numbers.now.items c.push.new.self.items c.number_at.result c.number_at.ensures c.in-Some.is c.in_ok-push-in-Some.ensures.items

pub returns-in-None : goal.returns-in-None
returns-in-None c = number-none (reverse c.args.constructors.now) c.args.i c.args.numbers.now.items c.number_at.result c.number_at.ensures c.in-None.is
