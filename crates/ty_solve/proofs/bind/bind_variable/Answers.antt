use Rattle.ty_table.specs.TypeAt.{type_at}
use Rattle.ty_solve.specs.SlotsOf.{seen}
use Rattle.std.proofs.Common.{sym, ◌∙◌}
use Rattle.std.proofs.Common.{◌∙◌, sym}
use Rattle.ty_table.specs.TypeAt.{type_at}
use Rattle.ty_solve.specs.SlotsOf.{seen}
use Rattle.ty_solve.proofs.Circular.{circular}
use Rattle.ty_solve.proofs.Turns.{none-of, some-of, some-in}
use Rattle.ty_solve.proofs.bind.bind_variable.Goals as goal

pub returns-then-branch-clause-cause : goal.returns-then-branch-clause-cause
returns-then-branch-clause-cause c = circular (seen c.args.s.now.types c.args.s.now.slots.items) c.args.s.now.acyclic c.args.s.now.inhabited c.args.v (type_at c.args.s.now.types c.args.t) c.requires.binds.walked c.requires.binds.unlike (λ f h. sym c.if-branch.true ∙ c.in_ok-occurs.ensures f h)

pub bind_free-requires-clause-is_free : goal.bind_free-requires-clause-is_free
bind_free-requires-clause-is_free c = none-of _ _ _ c.in-None.is c.in_ok-own_row.ensures.own c.requires.binds.is_open

pub bind_row-requires-clause-is_row : goal.bind_row-requires-clause-is_row
bind_row-requires-clause-is_row c = some-of _ _ _ c.in-Some.row c.in-Some.is c.in_ok-own_row.ensures.own

pub bind_row-requires-clause-row_held : goal.bind_row-requires-clause-row_held
bind_row-requires-clause-row_held c = some-in _ _ c.in-Some.row c.in-Some.is c.in_ok-own_row.ensures.held
