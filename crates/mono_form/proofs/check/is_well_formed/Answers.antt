use Rattle.mono_form.proofs.Checks.{no-basis, no-table, no-parts, not-once, well-formed, sound}
use Rattle.mono_form.proofs.check.is_well_formed.Goals as goal

pub returns-then-not-has_basis-clause-is : goal.returns-then-not-has_basis-clause-is
returns-then-not-has_basis-clause-is c = no-basis c.args.program.now c.has_basis.result c.has_basis.ensures c.if-not-has_basis.true

pub returns-then-not-is_table-clause-is : goal.returns-then-not-is_table-clause-is
returns-then-not-is_table-clause-is c = no-table c.args.program.now c.is_table.result c.is_table.ensures c.if-not-is_table.true

pub returns-then-not-has_parts-clause-is : goal.returns-then-not-has_parts-clause-is
returns-then-not-has_parts-clause-is c = no-parts c.args.program.now c.has_parts.result c.has_parts.ensures c.if-not-has_parts.true

pub returns-then-not-once-clause-is : goal.returns-then-not-once-clause-is
returns-then-not-once-clause-is c = not-once c.args.program.now c.in_ok-once.once c.in_ok-once.ensures c.if-not-once.true

pub returns-clause-is : goal.returns-clause-is
returns-clause-is c = well-formed c.args.program.now c.has_basis.result c.is_table.result c.has_parts.result c.in_ok-once.once c.in_ok-yes.yes c.has_basis.ensures c.if-not-has_basis.false c.is_table.ensures c.if-not-is_table.false
    c.has_parts.ensures c.if-not-has_parts.false
    c.in_ok-once.ensures c.if-not-once.false c.in_ok-yes.ensures

pub returns-clause-sound : goal.returns-clause-sound
returns-clause-sound c = λ y. sound c.args.program.now ((well-formed c.args.program.now c.has_basis.result c.is_table.result c.has_parts.result c.in_ok-once.once c.in_ok-yes.yes c.has_basis.ensures c.if-not-has_basis.false c.is_table.ensures c.if-not-is_table.false
    c.has_parts.ensures c.if-not-has_parts.false
    c.in_ok-once.ensures c.if-not-once.false c.in_ok-yes.ensures).0 y)
