use Rattle.std.proofs.Common.{arith}
use Rattle.ir_code.proofs.Cuts.{fit_words}
use Rattle.ir_code.proofs.write.put_words.Goals as goal

pub returns-clause-are_words : goal.returns-clause-are_words
returns-clause-are_words c = fit_words c.args.words.now (λ i. omega (arith, c.type_inv.words i))
