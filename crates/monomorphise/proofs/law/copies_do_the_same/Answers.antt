use Rattle.monomorphise.proofs.Keeps.{run-refines}
use Rattle.monomorphise.proofs.law.copies_do_the_same.Goals as goal

pub returns : goal.returns
returns g c = record { same = λ reflexive initial e e' s copy m never. run-refines _ reflexive initial m copy never }
