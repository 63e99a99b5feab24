use Rattle.std.proofs.Common.{refl, false}
use Rattle.pattern_tests.specs.Parts.{pair_fields, pair_pattern}
use Rattle.pattern_tests.proofs.Doing.{done-then}
use Rattle.pattern_tests.proofs.parts.push_pair.Goals as goal

pub returns : goal.returns
returns c = λ p q. done-then (c.in_ok-a.ensures (pair_pattern c.args.pair p q)) (c.in_ok-push_record.ensures false (pair_fields c.args.pair p q) (λ R. refl))
