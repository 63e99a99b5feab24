use Rattle.std.proofs.Common.{◌<◌, All, subst}
use Rattle.std.proofs.lemmas.List.Elements.{All-append}
use Rattle.prog_tree.specs.Readings.{reading}
use Rattle.ir_tables.specs.Tables.{initial_of}
use Rattle.match_pass.specs.of_ir_prog.Programs.{exceptions}
use Rattle.back_end.specs.Keeping.{dec_keeps}
use Rattle.back_end.proofs.Naming.{both-true, body-keeps}
use Rattle.back_end.proofs.named.is_named.Goals as goal

pub returns : goal.returns
returns c = λ yes.
    let n = c.args.limit in
    let p = c.args.program.now in
    let b = both-true _ _ _ c.both.ensures yes in
    All-append (λ i. i < n) (initial_of p.tables) (exceptions p)
    (subst (All (λ i. i < n)) c.deref.ensures.value (c.are_below.ensures b.0))
    (body-keeps n p.body.items (subst (All (dec_keeps n)) c.deref-2.ensures.value (c.in_decs.ensures b.1)) (reading p.tables))
