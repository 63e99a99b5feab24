use Rattle.std.proofs.Common.{ap, ◌∙◌}
use Rattle.ir_tables.specs.Rows.{constructors_at}
use Rattle.monomorphise.specs.Table.{enter_all}
use Rattle.plain_tree.specs.TreeOf.{case_of}
use Rattle.mono_state.specs.Seen.{copy_reading, sign_of}
use Rattle.mono_enter.specs.Scanning.{wants}
use Rattle.mono_enter.specs.Walked.{held, around_in}
use Rattle.mono_enter.proofs.Keeping.{if-ok}
use Rattle.mono_enter.proofs.walk.want_word.Goals as goal

pub returns-in-Some-clause-entered : goal.returns-in-Some-clause-entered
returns-in-Some-clause-entered c =
    if-ok _ _ c.want_case.result
    (λ u h strings lists copies.
    ap (λ w. enter_all (constructors_at c.args.tables.now.sources.now c.args.tables.now.constructors.now) c.args.types.now (wants (sign_of strings (held c.args.tables.now.closed.now lists copies) w) (around_in c.args.tables.now.closed.now c.args.stand.now))) c.in-Arm.is
    ∙ ap (enter_all (constructors_at c.args.tables.now.sources.now c.args.tables.now.constructors.now) c.args.types.now)
    (c.in-Some.ensures c.args.tables.now.closed.now (case_of (copy_reading strings (held c.args.tables.now.closed.now lists copies)) c.in-Arm.case))
    ∙ h strings lists copies)
    c.want_case.ensures.entered

pub returns-in-None-clause-entered : goal.returns-in-None-clause-entered
returns-in-None-clause-entered c = λ strings lists copies.
    ap (λ w. enter_all (constructors_at c.args.tables.now.sources.now c.args.tables.now.constructors.now) c.args.types.now (wants (sign_of strings (held c.args.tables.now.closed.now lists copies) w) (around_in c.args.tables.now.closed.now c.args.stand.now))) c.in-Arm.is
    ∙ ap (enter_all (constructors_at c.args.tables.now.sources.now c.args.tables.now.constructors.now) c.args.types.now)
    (c.in-None.ensures c.args.tables.now.closed.now (case_of (copy_reading strings (held c.args.tables.now.closed.now lists copies)) c.in-Arm.case))
