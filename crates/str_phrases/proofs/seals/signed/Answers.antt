use Rattle.str_phrases.proofs.seals.signed.Goals as goal

pub returns-in-Some : goal.returns-in-Some
returns-in-Some g c = rw c.in-Some.is c.constrained.ensures
