use Rattle.str_phrases.proofs.Making.{local-made}
use Rattle.str_phrases.proofs.plain.mixed_local.Goals as goal

pub returns-clause-list : goal.returns-clause-list
returns-clause-list g c = λ of.
    let first = (rw c.in_ok-second.ensures.second at c.mixed.ensures) of in
    let second = rw c.in_ok-second.ensures.first at ((rw c.in_ok-outer.ensures.second at c.mixed-2.ensures) of) in
    local-made of c.args.place c.args.first c.args.second c.in_ok-second.outer.items c.in_ok-outer.inner.items c.local.result first second (rw c.in_ok-outer.ensures.first at (c.local.ensures of))
