use Rattle.ir_prog.proofs.Formed.{carried, not-carried, not-initial}
use Rattle.ir_prog.proofs.form.is_well_formed.Goals as goal

pub returns : goal.returns
returns c = carried c.args.program.now c.has_initial-named.result c.in_ok-so.so c.has_initial-named.ensures c.if-not-named.false (c.is_named-carries.ensures.0 c.if-not-carries.false)
    c.in_ok-so.ensures

pub returns-then-not-named : goal.returns-then-not-named
returns-then-not-named c = not-initial c.args.program.now c.has_initial-named.result c.has_initial-named.ensures c.if-not-named.true

pub returns-then-not-carries : goal.returns-then-not-carries
returns-then-not-carries c = not-carried c.args.program.now c.is_named-carries.result c.is_named-carries.ensures c.if-not-carries.true

pub is_program-requires : goal.is_program-requires
is_program-requires c = c.is_named-carries.ensures.0 c.if-not-carries.false
