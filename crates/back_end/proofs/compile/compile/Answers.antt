use Rattle.std.proofs.Common.{◌≡◌, ◌+◌, ◌*◌, ◌^◌, ◌<◌, ◌≤◌, length, IsSomeAnd}
use Rattle.mlc_runs.specs.Passes.{greatest_expansion}
use Rattle.match_pass.specs.of_ir_prog.Programs.{expansion}
use Rattle.ssa_form.specs.Programs.{program_of}
use Rattle.machine_emit.specs.of_image_law.ImageOf.{IsImageOf}
use Rattle.machine_emit.specs.of_image_size.Size.{parts, words}
use Rattle.machine_emit.specs.Contract.{IsTooLong}
use Rattle.back_end.specs.Lowered.{identifiers, ssa_of}
use Rattle.back_end.specs.declared.refused.CompileRefused.TheVariants.{TooLarge, TooLong}
use Rattle.back_end.proofs.Imaging.{does, not-long, of-form, small}
use Rattle.back_end.proofs.Lowering.{contained}
use Rattle.back_end.proofs.Refusing.{long-by-emit, not-large-by-emit, passed-on}
use Rattle.back_end.proofs.compile.compile.Goals as goal

pub emit-requires : goal.emit-requires
emit-requires c = contained (λ i. i < length c.args.names.now) (identifiers c.args.program) _ c.requires.named c.in_ok-ssa.ensures.exceptions

pub returns-in_err-ssa-clause-expansion : goal.returns-in_err-ssa-clause-expansion
returns-in_err-ssa-clause-expansion c =
    passed-on c.from_residual.result c.in_err-ssa.field-0.0 c.from_residual.ensures.1 (λ x. x ≡ TooLarge → greatest_expansion < expansion c.args.program)
    c.in_err-ssa.ensures.too_large

pub returns-in_err-ssa-clause-too_long : goal.returns-in_err-ssa-clause-too_long
returns-in_err-ssa-clause-too_long c =
    passed-on c.from_residual.result c.in_err-ssa.field-0.0 c.from_residual.ensures.1
    (λ x. x ≡ TooLong → IsSomeAnd (ssa_of c.args.program) (IsTooLong c.args.names.now)) (λ b. absurd (c.in_err-ssa.ensures.not_long b))

pub returns-in_err-ssa-clause-large : goal.returns-in_err-ssa-clause-large
returns-in_err-ssa-clause-large c =
    passed-on c.from_residual.result c.in_err-ssa.field-0.0 c.from_residual.ensures.1
    (λ x. x ≡ TooLong → IsSomeAnd (ssa_of c.args.program) (λ p. 2 ^ 20 < parts c.args.names.now p)) (λ b. absurd (c.in_err-ssa.ensures.not_long b))

pub returns-in_err-image-clause-expansion : goal.returns-in_err-image-clause-expansion
returns-in_err-image-clause-expansion c = not-large-by-emit c.from_residual-in_err-image.result c.in_err-image.field-0.0 c.from_residual-in_err-image.ensures.1 _

pub returns-in_err-image-clause-too_long : goal.returns-in_err-image-clause-too_long
returns-in_err-image-clause-too_long c =
    long-by-emit c.from_residual-in_err-image.result c.in_err-image.field-0.0 c.from_residual-in_err-image.ensures.1 _
    (λ b. of-form (ssa_of c.args.program) (program_of c.in_ok-ssa.ssa) (IsTooLong c.args.names.now) c.in_ok-ssa.ensures.built (c.in_err-image.ensures.too_long b))

pub returns-in_err-image-clause-large : goal.returns-in_err-image-clause-large
returns-in_err-image-clause-large c =
    long-by-emit c.from_residual-in_err-image.result c.in_err-image.field-0.0 c.from_residual-in_err-image.ensures.1 _
    (λ b. of-form (ssa_of c.args.program) (program_of c.in_ok-ssa.ssa) (λ p. 2 ^ 20 < parts c.args.names.now p) c.in_ok-ssa.ensures.built (c.in_err-image.ensures.large b))

pub returns-clause-runs : goal.returns-clause-runs
returns-clause-runs c = λ w.
    let l = c.in_ok-ssa.ensures in
    does c.args.names.now c.args.program (program_of c.in_ok-ssa.ssa) c.in_ok-image.image (l.well_formed w) (l.same w) (l.never_wrong w) c.in_ok-image.ensures.runs

pub returns-clause-never_wrong : goal.returns-clause-never_wrong
returns-clause-never_wrong c = λ w. c.in_ok-ssa.ensures.never_wrong w

pub returns-clause-image : goal.returns-clause-image
returns-clause-image c =
    of-form (ssa_of c.args.program) (program_of c.in_ok-ssa.ssa) (λ p. IsImageOf c.args.names.now p c.in_ok-image.image) c.in_ok-ssa.ensures.built
    c.in_ok-image.ensures.image

pub returns-clause-size : goal.returns-clause-size
returns-clause-size c =
    of-form (ssa_of c.args.program) (program_of c.in_ok-ssa.ssa) (λ p. words c.in_ok-image.image ≤ 42 + 44 * parts c.args.names.now p) c.in_ok-ssa.ensures.built
    (small c.args.names.now (program_of c.in_ok-ssa.ssa) c.in_ok-image.image c.in_ok-image.ensures.image c.images_are_small.ensures.words)

pub returns-clause-short : goal.returns-clause-short
returns-clause-short c =
    not-long c.args.names.now (program_of c.in_ok-ssa.ssa) c.in_ok-image.image c.in_ok-image.ensures.image c.in_ok-image.ensures.short

pub returns-clause-within : goal.returns-clause-within
returns-clause-within c = c.in_ok-ssa.ensures.within
