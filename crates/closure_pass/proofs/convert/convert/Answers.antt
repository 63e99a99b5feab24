use Rattle.std.proofs.Common.{subst}
use Rattle.first_form.specs.Programs.{program_of}
use Rattle.closure_first.specs.of_closure_parts.Indexed.{texts_of}
use Rattle.closure_formed.specs.Tables.{AreBytes}
use Rattle.closure_pass.specs.Given.{given, texts}
use Rattle.closure_pass.proofs.Keeping.{program-made, constants, same-outcome, formed, kept-dense, kept-exceptions, kept-small}
use Rattle.closure_pass.proofs.convert.convert.Goals as goal

pub returns-in-Ok-clause-made : goal.returns-in-Ok-clause-made
returns-in-Ok-clause-made c = λ F h.
    program-made c.args.types.now (texts_of c.args.strings.items) c.args.body.now c.args.initial.items c.args.expansion c.trees_read_same.ensures F (texts_of c.in_ok-rest.rest.strings.items)
    c.in_ok-rest.rest.initial.items c.in_ok-rest.rest.expansion (program_of c.in-Ok.to) c.in_ok-rest.ensures.strings c.in_ok-rest.ensures.initial c.in_ok-rest.ensures.expansion (c.in-Ok.ensures.made F h)

pub returns-in-Ok-clause-same : goal.returns-in-Ok-clause-same
returns-in-Ok-clause-same c = λ r s.
    let ss = texts_of c.args.strings.items in
    same-outcome (program_of c.in-Ok.to) s.whole (texts ss) (given c.args.initial.items c.args.types.now c.args.expansion ss c.args.body.now) (returns-in-Ok-clause-made c s.whole s.has) r
    (constants c.args.types.now ss c.args.body.now c.args.initial.items c.args.expansion c.trees_read_same.ensures (λ us h. c.constants_are_held.ensures c.args.types.now us h)) s.solves

pub returns-in-Ok-clause-well_formed : goal.returns-in-Ok-clause-well_formed
returns-in-Ok-clause-well_formed c = λ r t F h o.
    let ss = texts_of c.args.strings.items in
    formed (program_of c.in-Ok.to) F (texts ss) (given c.args.initial.items c.args.types.now c.args.expansion ss c.args.body.now) (returns-in-Ok-clause-made c F h) c.conversions_are_well_formed.ensures.explicit r
    (constants c.args.types.now ss c.args.body.now c.args.initial.items c.args.expansion c.trees_read_same.ensures (λ us h. c.constants_are_held.ensures c.args.types.now us h)) t
    (subst AreBytes c.in_ok-rest.ensures.strings c.in_ok-rest.ensures.bytes) o

pub returns-in-Ok-clause-dense : goal.returns-in-Ok-clause-dense
returns-in-Ok-clause-dense c = λ F h o.
    let ss = texts_of c.args.strings.items in
    kept-dense (program_of c.in-Ok.to) F (texts ss) (given c.args.initial.items c.args.types.now c.args.expansion ss c.args.body.now) (returns-in-Ok-clause-made c F h) o

pub returns-in-Ok-clause-exceptions : goal.returns-in-Ok-clause-exceptions
returns-in-Ok-clause-exceptions c = λ i F h.
    let ss = texts_of c.args.strings.items in
    kept-exceptions (program_of c.in-Ok.to) F (texts ss) (given c.args.initial.items c.args.types.now c.args.expansion ss c.args.body.now) (returns-in-Ok-clause-made c F h) c.conversions_make_no_more.ensures.conversion i

pub returns-in-Ok-clause-small : goal.returns-in-Ok-clause-small
returns-in-Ok-clause-small c = λ F h.
    let ss = texts_of c.args.strings.items in
    kept-small (program_of c.in-Ok.to) F (texts ss) (given c.args.initial.items c.args.types.now c.args.expansion ss c.args.body.now) (returns-in-Ok-clause-made c F h) c.conversions_are_small.ensures.nodes
