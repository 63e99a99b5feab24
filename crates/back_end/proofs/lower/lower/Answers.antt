use Rattle.std.proofs.Common.{◌≡◌, ◌<◌, sym, ap, ◌∙◌, subst}
use Rattle.mlc_runs.specs.Outcome.{Outcome, wrong}
use Rattle.mlc_runs.specs.Passes.{greatest_expansion}
use Rattle.match_pass.specs.of_ir_prog.Programs as source
use Rattle.match_pass.specs.of_ir_prog.Programs.{tests_in}
use Rattle.monomorphise.specs.Laws.{monomorphise}
use Rattle.closure_pass.specs.of_mono_form.Programs as copied
use Rattle.mono_pass.specs.of_mono_operations.Reads.{strings_of}
use Rattle.closure_pass.specs.Given.{texts}
use Rattle.first_form.specs.Programs as first
use Rattle.ssa_form.specs.Programs.{program_of}
use Rattle.back_end.proofs.Lowering.{ssa-made, within, all-there}
use Rattle.back_end.proofs.Refusing.{large-by-pass, not-large, not-long}
use Rattle.back_end.proofs.lower.lower.Goals as goal

pub returns-in_err-tests-clause-too_large : goal.returns-in_err-tests-clause-too_large
returns-in_err-tests-clause-too_large c = not-large c.from_residual.result c.in_err-tests.field-0.0 c.from_residual.ensures.1 c.in_err-tests.ensures.memory _

pub returns-in_err-tests-clause-not_long : goal.returns-in_err-tests-clause-not_long
returns-in_err-tests-clause-not_long c = not-long c.from_residual.result c.in_err-tests.field-0.0 c.from_residual.ensures.1

pub returns-in_err-copies-clause-too_large : goal.returns-in_err-copies-clause-too_large
returns-in_err-copies-clause-too_large c =
    large-by-pass c.from_residual-in_err-copies.result c.in_err-copies.field-0.0 c.from_residual-in_err-copies.ensures.1 _
    (λ b. subst (λ n. greatest_expansion < n) c.in_ok-tests.ensures.size (c.in_err-copies.ensures.too_large b))

pub returns-in_err-copies-clause-not_long : goal.returns-in_err-copies-clause-not_long
returns-in_err-copies-clause-not_long c = not-long c.from_residual-in_err-copies.result c.in_err-copies.field-0.0 c.from_residual-in_err-copies.ensures.1

pub returns-in_err-first-clause-too_large : goal.returns-in_err-first-clause-too_large
returns-in_err-first-clause-too_large c = not-large c.from_residual-in_err-first.result c.in_err-first.field-0.0 c.from_residual-in_err-first.ensures.1 c.in_err-first.ensures.memory _

pub returns-in_err-first-clause-not_long : goal.returns-in_err-first-clause-not_long
returns-in_err-first-clause-not_long c = not-long c.from_residual-in_err-first.result c.in_err-first.field-0.0 c.from_residual-in_err-first.ensures.1

pub returns-in_err-ssa-clause-too_large : goal.returns-in_err-ssa-clause-too_large
returns-in_err-ssa-clause-too_large c = not-large c.from_residual-in_err-ssa.result c.in_err-ssa.field-0.0 c.from_residual-in_err-ssa.ensures.1 c.in_err-ssa.ensures.memory _

pub returns-in_err-ssa-clause-not_long : goal.returns-in_err-ssa-clause-not_long
returns-in_err-ssa-clause-not_long c = not-long c.from_residual-in_err-ssa.result c.in_err-ssa.field-0.0 c.from_residual-in_err-ssa.ensures.1

pub returns-clause-built : goal.returns-clause-built
returns-clause-built c =
    let t = c.in_ok-tests.ensures in
    let m = c.in_ok-copies.ensures in
    ssa-made c.args.program (copied.program_of c.in_ok-copies.copies) (ap monomorphise (sym t.built) ∙ m.made) (strings_of c.in_ok-copies.copies.tables)
    (first.program_of c.in_ok-first.first) (program_of c.in_ok-ssa.ssa) (m.strings ∙ t.strings) c.in_ok-first.ensures.made c.in_ok-ssa.ensures.built

pub returns-clause-same : goal.returns-clause-same
returns-clause-same c = λ w turns.
    let t = c.in_ok-tests.ensures in
    let m = c.in_ok-copies.ensures in
    c.in_ok-ssa.ensures.same turns ∙ (c.in_ok-first.ensures.same (m.well_formed (t.well_formed w)) turns ∙ (m.same (t.well_formed w) turns ∙ t.same turns))

pub returns-clause-never_wrong : goal.returns-clause-never_wrong
returns-clause-never_wrong c = λ w turns h.
    let t = c.in_ok-tests.ensures in
    let m = c.in_ok-copies.ensures in
    m.never_wrong (t.well_formed w) turns (subst (λ (o : Outcome). o.end ≡ wrong) (sym (m.same (t.well_formed w) turns ∙ t.same turns)) h)

pub returns-clause-well_formed : goal.returns-clause-well_formed
returns-clause-well_formed c = λ w.
    c.in_ok-ssa.ensures.well_formed (c.in_ok-first.ensures.well_formed (c.in_ok-copies.ensures.well_formed (c.in_ok-tests.ensures.well_formed w)))

pub returns-clause-exceptions : goal.returns-clause-exceptions
returns-clause-exceptions c =
    let m = c.in_ok-copies.ensures in
    all-there c.args.program (copied.program_of c.in_ok-copies.copies) (ap monomorphise (sym c.in_ok-tests.ensures.built) ∙ m.made)
    (texts (strings_of c.in_ok-copies.copies.tables)) (first.program_of c.in_ok-first.first) (program_of c.in_ok-ssa.ssa) c.in_ok-first.ensures.made
    c.in_ok-ssa.ensures.built (c.counts_are_kept.ensures.exceptions (source.body_in c.args.program)) c.copies_make_no_more.ensures
    c.conversions_make_no_more.ensures.whole c.ssa_build_keeps.ensures.exceptions

pub returns-clause-within : goal.returns-clause-within
returns-clause-within c =
    within c.args.program (copied.program_of c.in_ok-copies.copies) (ap monomorphise (sym c.in_ok-tests.ensures.built) ∙ c.in_ok-copies.ensures.made)
    c.expansion_is_counted.ensures.counted
