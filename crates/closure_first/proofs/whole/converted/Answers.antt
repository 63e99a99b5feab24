use Rattle.first_form.specs.Programs.{program_of}
use Rattle.closure_bodies.proofs.of_closure_parts.Operating.{if-ok}
use Rattle.closure_first.proofs.Making.{converted-from}
use Rattle.closure_first.proofs.whole.converted.Goals as goal

pub returns-clause-made : goal.returns-clause-made
returns-clause-made c =
    if-ok _ _ c.program.result
    (λ to p F h.
    converted-from c.in_ok-setting.setting c.args.types.now c.args.body.now c.deref.result.now c.args.rest.strings.items c.args.rest.initial.items c.args.rest.expansion F (program_of to) c.deref.ensures.value
    (c.in_ok-setting.ensures F c.args.rest.initial.items c.args.rest.expansion h) p)
    c.program.ensures.made
