use Rattle.std.proofs.Common.{nat_eq}
use Rattle.indexmap.specs.IndexMap.{get}
use Rattle.datatype_forms.proofs.Stepping.{program_row}
use Rattle.datatype_forms.proofs.rows.add_row.Goals as goal

pub returns : goal.returns
returns c =
    program_row c.args.state.now c.program_argument.new.state c.push_row.new.state c.args.names.now (get nat_eq c.program_argument.new.known) c.args.datatype c.args.number c.args.argument c.in_ok-argument.argument
    c.in_ok-argument.ensures c.in_ok-push_row.ensures
