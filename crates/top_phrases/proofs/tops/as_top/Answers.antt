use Rattle.top_phrases.proofs.tops.as_top.Goals as goal

pub returns-in-Some : goal.returns-in-Some
returns-in-Some g c = rw c.in-Some.is c.one_top.ensures
