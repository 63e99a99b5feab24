use Rattle.std.proofs.Common.{arith}
use Rattle.sml_parser.proofs.ReadForms.{core-is}
use Rattle.sml_parser.proofs.read.read_core.Goals as goal

pub returns-in-empty-clause-read : goal.returns-in-empty-clause-read
returns-in-empty-clause-read c =
    let g = c.in-Ok.ensures.gives in
    let l = c.in-empty.len_below in
    core-is c.reads_exactly.ensures.sound c.args.fix.now c.in_ok-after.after c.read_decs.new.fix c.args.source.now c.args.tokens.now c.as_slice-tokens.result.now c.in-Ok.got.it.items c.in-Ok.got.depth c.in-Ok.got.rest.now g.got
    c.in_ok-after.ensures c.as_slice-tokens.ensures (omega arith) g.is g.same
