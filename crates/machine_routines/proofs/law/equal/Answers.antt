use Rattle.machine_routines.proofs.Compares.{answers}
use Rattle.machine_routines.proofs.law.equal.Goals as goal

pub returns : goal.returns
returns c = λ shapes start most code fits stands lay f behind back frame above v u t q a b l r m free show low hv hu e.
    answers c.control.ensures c.memory.ensures c.arithmetic.ensures c.begins.ensures shapes start most code fits stands lay f behind back frame above v u t q
    a b l r m free show low hv hu e
