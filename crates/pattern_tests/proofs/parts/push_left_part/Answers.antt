use Rattle.pattern_tests.proofs.parts.push_left_part.Goals as goal

pub returns : goal.returns
returns c = λ p. c.in_ok-a.ensures p
