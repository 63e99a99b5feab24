use Rattle.match_pass.proofs.heads.unnamed_head.Goals as goal

pub returns : goal.returns
returns c =
    let p = c.in_ok-bound.ensures in
    record { work = c.bind_parameters.new.work; before = c.in_ok-before.ensures; keeps = p.keeps; next = p.next; variable = p.variable; type = p.ty }
