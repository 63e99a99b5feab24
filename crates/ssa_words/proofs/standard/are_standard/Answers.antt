use Rattle.std.proofs.Common.{◌<◌, arith}
use Rattle.std.proofs.lemmas.List.Elements.{All-from_get_or}
use Rattle.ssa_words.proofs.standard.are_standard.Goals as goal

pub returns : goal.returns
returns c = λ _. All-from_get_or (λ i. i < 119) c.args.found.now 0 (λ k lt. c.loop-i.invariant k (omega (arith, lt, c.loop-i-test.false)))
