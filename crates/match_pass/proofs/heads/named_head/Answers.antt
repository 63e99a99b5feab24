use Rattle.match_pass.proofs.heads.named_head.Goals as goal

pub returns : goal.returns
returns c = record { work = c.bind_parameters.new.work; before = c.in_ok-before.ensures; last = c.in_ok-bound.ensures }
