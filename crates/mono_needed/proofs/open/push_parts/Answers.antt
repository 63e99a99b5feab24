use Rattle.std.proofs.Common.{length, ap}
use Rattle.ty_core.specs.TypesOf.{head_of}
use Rattle.ty_table.specs.TypeAt.{type_at}
use Rattle.ir_tables.specs.Rows.{constructors_at}
use Rattle.mono_needed.proofs.Arguments.{opens-variable, opens-record, opens-datatype}
use Rattle.mono_needed.proofs.open.push_parts.Goals as goal

pub returns-in-Var-clause-opens : goal.returns-in-Var-clause-opens
returns-in-Var-clause-opens c = opens-variable (constructors_at c.args.sources.now c.args.constructors.now) c.args.closed.now (type_at c.args.closed.now c.args.t) c.in-Var.field-0 c.args.found.now.items c.in-Var.ensures

pub push_arguments-requires-clause-held : goal.push_arguments-requires-clause-held
push_arguments-requires-clause-held c = c.in_ok-bind_parts-in-Named.ensures.held (length c.args.closed.now) c.in-Apply.ensures.1

pub returns-in_ok-extend_from_slice-in-Record-clause-opens : goal.returns-in_ok-extend_from_slice-in-Record-clause-opens
returns-in_ok-extend_from_slice-in-Record-clause-opens c = opens-record (constructors_at c.args.sources.now c.args.constructors.now) c.args.closed.now (type_at c.args.closed.now c.args.t) (head_of c.in-Apply.head.now) c.in-Record.field-0.items c.in-Apply.parts.now c.args.found.now.items c.extend_from_slice.new.self.items
    c.in-Apply.ensures (ap head_of c.in-Record.is) c.in_ok-extend_from_slice-in-Record.ensures.items

pub returns-in_ok-push_arguments-in-Named-clause-opens : goal.returns-in_ok-push_arguments-in-Named-clause-opens
returns-in_ok-push_arguments-in-Named-clause-opens c = opens-datatype (constructors_at c.args.sources.now c.args.constructors.now) c.args.closed.now c.push_arguments.new.closed (type_at c.args.closed.now c.args.t) (head_of c.in-Apply.head.now) c.in-Named.name c.bind_parts.new.slots c.in-Apply.parts.now c.args.found.now.items c.push_arguments.new.found.items
    c.in-Apply.ensures (ap head_of c.in-Named.is) c.in_ok-bind_parts-in-Named.ensures.slots c.in_ok-push_arguments-in-Named.ensures.opens
