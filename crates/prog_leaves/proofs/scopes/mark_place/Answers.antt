use Rattle.prog_leaves.proofs.scopes.mark_place.Goals as goal

pub returns : goal.returns
returns c = record { parameters = c.len.ensures; variables = c.len-2.ensures }
