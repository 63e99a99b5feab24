use Rattle.std.proofs.Common.{◌∙◌}
use Rattle.mono_form.specs.of_mono_operations.Reads.{strings_of}
use Rattle.first_form.specs.Programs as target
use Rattle.mono_form.specs.Programs as source
use Rattle.closure_formed.specs.of_closure_whole.Rising.{rising}
use Rattle.closure_first.proofs.of_closure_parts.Operating.{if-ok}
use Rattle.closure_pass.specs.Given.{given, texts}
use Rattle.closure_pass.proofs.Passing.{now-ready, whole-made, whole-same, whole-dense, whole-exceptions}
use Rattle.closure_pass.proofs.pass.convert_program.Goals as goal

pub returns-clause-made : goal.returns-clause-made
returns-clause-made c =
    let p = c.args.program in
    let t = p.tables in
    let ss = strings_of t in
    if-ok _ _ c.convert.result
    (λ to h.
    whole-made t.types ss t.initial.items p.expansion p.body c.in_ok-body.body (c.in_ok-body.ensures ss) (texts ss) (target.program_of to)
    (h (rising (given t.initial.items t.types p.expansion ss c.in_ok-body.body)) (c.in_ok-flow.ensures.rising ss t.initial.items p.expansion)))
    c.convert.ensures.made

pub returns-clause-same : goal.returns-clause-same
returns-clause-same c = λ w.
    let p = c.args.program in
    let t = p.tables in
    let ss = strings_of t in
    let r = now-ready t.types ss t.initial.items p.expansion p.body c.in_ok-body.body (c.in_ok-body.ensures ss) w.program in
    if-ok _ _ c.convert.result
    (λ to h turns. h turns ∙ whole-same t.types ss t.initial.items p.expansion p.body c.in_ok-body.body (c.in_ok-body.ensures ss) turns w.program)
    (c.convert.ensures.same r (c.in_ok-flow.ensures.solves ss t.initial.items p.expansion r.formed))

pub returns-clause-well_formed : goal.returns-clause-well_formed
returns-clause-well_formed c = λ w.
    let p = c.args.program in
    let t = p.tables in
    let ss = strings_of t in
    let q = given t.initial.items t.types p.expansion ss c.in_ok-body.body in
    let r = now-ready t.types ss t.initial.items p.expansion p.body c.in_ok-body.body (c.in_ok-body.ensures ss) w.program in
    c.convert.ensures.well_formed r w.parts (rising q) (c.in_ok-flow.ensures.rising ss t.initial.items p.expansion) (c.conversions_are_well_formed.ensures.rising q r.formed)

pub returns-clause-dense : goal.returns-clause-dense
returns-clause-dense c =
    if-ok _ _ c.convert.result (λ to h. whole-dense (texts (strings_of c.args.program.tables)) (source.program_of c.args.program) (target.program_of to) h) (returns-clause-made c)

pub returns-clause-exceptions : goal.returns-clause-exceptions
returns-clause-exceptions c = λ w.
    let ss = strings_of c.args.program.tables in
    if-ok _ _ c.convert.result
    (λ to h. whole-exceptions (texts ss) (source.program_of c.args.program) (target.program_of to) h c.conversions_make_no_more.ensures.whole w.initial) (returns-clause-made c)
