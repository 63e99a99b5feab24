use Rattle.std.proofs.Common.{refl, ap, ◌∙◌}
use Rattle.match_compile.specs.Compile.{compile}
use Rattle.prog_tree.specs.Readings.{reading}
use Rattle.prog_tree.specs.TreeOf.{body_of}
use Rattle.ir_prog.specs.Programs as source
use Rattle.ir_tests.specs.declared.program.Program.{Program}
use Rattle.match_pass.proofs.Passed.{program-is, same-outcome, bound-once, formed, no-exception, same-size}
use Rattle.match_pass.proofs.pass.compile_program.Goals as goal

pub returns-clause-built : goal.returns-clause-built
returns-clause-built c =
    let m = c.in_ok-made.ensures in
    program-is c.in_ok-made.made.tables _ (source.prog_of c.args.program) m.initial m.constructors (m.tests ∙ ap (λ l. compile (body_of (reading c.args.program.tables) l)) c.deref.ensures.value)

pub returns-clause-same : goal.returns-clause-same
returns-clause-same c =
    let q : Program = record { tables = c.in_ok-made.made.tables; exn = c.args.program.exn; body = c.in_ok-made.made.body } in
    same-outcome c.args.program q (returns-clause-built c) (c.programs_are_kept.ensures.same (source.prog_of c.args.program))

pub returns-clause-once : goal.returns-clause-once
returns-clause-once c =
    let q : Program = record { tables = c.in_ok-made.made.tables; exn = c.args.program.exn; body = c.in_ok-made.made.body } in
    bound-once c.args.program q (returns-clause-built c) (c.variables_are_bound.ensures.once (source.body_in c.args.program))

pub returns-clause-well_formed : goal.returns-clause-well_formed
returns-clause-well_formed c = λ w.
    formed c.args.program _ (returns-clause-built c) c.in_ok-made.ensures.types refl (c.typing_is_kept.ensures (source.body_in c.args.program))
    (c.variables_are_bound.ensures.once (source.body_in c.args.program)) (c.variables_are_bound.ensures.local (source.body_in c.args.program)) w

pub returns-clause-exceptions : goal.returns-clause-exceptions
returns-clause-exceptions c =
    let q : Program = record { tables = c.in_ok-made.made.tables; exn = c.args.program.exn; body = c.in_ok-made.made.body } in
    no-exception c.args.program q (returns-clause-built c) (c.programs_are_kept.ensures.exceptions (source.prog_of c.args.program))

pub returns-clause-size : goal.returns-clause-size
returns-clause-size c =
    let q : Program = record { tables = c.in_ok-made.made.tables; exn = c.args.program.exn; body = c.in_ok-made.made.body } in
    same-size c.args.program q (returns-clause-built c)
