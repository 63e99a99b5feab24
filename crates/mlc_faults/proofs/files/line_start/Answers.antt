use Rattle.std.proofs.Common.{◌≡◌, ◌<◌, ◌-◌, false, length, arith, get_or}
use Rattle.std.proofs.lemmas.List.Sums.{suffix_len_is}
use Rattle.std.proofs.lemmas.Grind.{common_steps}
use Rattle.std.specs.List.{suffix_len}
use Rattle.mlc_faults.specs.Files.{is_in_line}
use Rattle.mlc_faults.proofs.files.line_start.Goals as goal

pub returns-else-before-start-ne10 : goal.returns-else-before-start-ne10
returns-else-before-start-ne10 c =
    let newline : 0 < c.loop-start.start → is_in_line (get_or c.args.before.now (c.loop-start.start - 1) 0) ≡ false = λ h. grind (arith, common_steps) in
    let last : suffix_len is_in_line c.args.before.now ≡ length c.args.before.now - c.loop-start.start = suffix_len_is is_in_line c.args.before.now c.loop-start.start 0 c.loop-start.invariant.0 c.loop-start.invariant.1 newline in
    omega (arith, last, c.loop-start.invariant.0)

pub returns-after-loop-start : goal.returns-after-loop-start
returns-after-loop-start c =
    let none : 0 < c.loop-start.start → is_in_line (get_or c.args.before.now (c.loop-start.start - 1) 0) ≡ false = λ h. absurd (omega arith) in
    let last : suffix_len is_in_line c.args.before.now ≡ length c.args.before.now - c.loop-start.start = suffix_len_is is_in_line c.args.before.now c.loop-start.start 0 c.loop-start.invariant.0 c.loop-start.invariant.1 none in
    omega (arith, last, c.loop-start.invariant.0)
