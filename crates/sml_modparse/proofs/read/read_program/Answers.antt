use Rattle.sml_modparse.proofs.Whole.{program-is}
use Rattle.sml_modparse.proofs.read.read_program.Goals as goal

pub returns-in-Ok-clause-read : goal.returns-in-Ok-clause-read
returns-in-Ok-clause-read c =
    let g = c.in-Ok.ensures.gives in
    program-is c.reads_sources.ensures.sound c.args.it c.args.fix.now c.in_ok-after.after c.read_tops.new.fix c.args.source.now c.args.tokens.now c.as_slice-tokens.result.now c.in-Ok.tops.items g.got c.in_ok-after.ensures c.as_slice-tokens.ensures g.is g.same
