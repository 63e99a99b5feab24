use Rattle.prog_exps.proofs.of_prog_parts.Truths.{two}
use Rattle.std.proofs.Common.{refl}
use Rattle.ir_prog.specs.Programs.{prog_of}
use Rattle.ir_prog.proofs.Formed.{formed}
use Rattle.ir_prog.proofs.form.is_program.Goals as goal

pub returns : goal.returns
returns c = formed (prog_of c.args.program.now) c.both-2.result c.has_tables-tables.result c.in_ok-typed.typed c.in_ok-once.once (two c.both-2.ensures refl c.both.ensures) c.has_tables-tables.ensures c.in_ok-typed.ensures c.in_ok-once.ensures
