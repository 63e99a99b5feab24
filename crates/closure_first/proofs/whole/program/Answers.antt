use Rattle.mono_bound.specs.Reads.{mono_of}
use Rattle.closure_bodies.specs.of_closure_parts.Indexed.{texts_of}
use Rattle.closure_first.proofs.Making.{program-made}
use Rattle.closure_first.proofs.whole.program.Goals as goal

pub returns-clause-made : goal.returns-clause-made
returns-clause-made c = λ n F T h.
    program-made (texts_of c.args.rest.strings.items) c.args.rest.initial.items c.args.types.now c.args.rest.expansion n F T (mono_of c.args.types.now (texts_of c.args.rest.strings.items) c.args.body.now) _ _ _ c.requires
    (c.in_ok-funs.ensures.sets (texts_of c.args.rest.strings.items) n F T h) (c.in_ok-funs.ensures.funs (texts_of c.args.rest.strings.items) n F T h)
