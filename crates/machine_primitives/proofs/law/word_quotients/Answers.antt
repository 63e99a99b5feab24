use Rattle.machine_primitives.proofs.Rows.{word_quotients}
use Rattle.machine_primitives.proofs.law.word_quotients.Goals as goal

pub returns : goal.returns
returns c = word_quotients c.control.ensures c.memory.ensures c.arithmetic.ensures c.begins.ensures
