use Rattle.ir_tests.proofs.Checks.{no-basis, no-table, not-once, well-formed}
use Rattle.ir_tests.proofs.check.is_well_formed.Goals as goal

pub returns-then-not-has_basis : goal.returns-then-not-has_basis
returns-then-not-has_basis c = no-basis c.args.program.now c.has_basis.result c.has_basis.ensures c.if-not-has_basis.true

pub returns-then-not-is_table : goal.returns-then-not-is_table
returns-then-not-is_table c = no-table c.args.program.now c.is_table.result c.is_table.ensures.fits c.if-not-is_table.true

pub returns-then-not-once : goal.returns-then-not-once
returns-then-not-once c = not-once c.args.program.now c.in_ok-once.once c.in_ok-once.ensures c.if-not-once.true

pub returns : goal.returns
returns c = well-formed c.args.program.now c.has_basis.result c.is_table.result c.in_ok-once.once c.in_ok-yes.yes c.has_basis.ensures c.if-not-has_basis.false c.is_table.ensures.fits c.if-not-is_table.false
    c.in_ok-once.ensures c.if-not-once.false c.in_ok-yes.ensures
