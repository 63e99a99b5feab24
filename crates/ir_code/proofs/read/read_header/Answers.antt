use Rattle.std.proofs.Common.{◌≡◌, ◌+◌, ◌*◌, Some, arith, refl, sym, ap, ◌∙◌}
use Rattle.ir_code.specs.ImageBytes.{words, unknown_from}
use Rattle.ir_code.proofs.Checks.{fails_short, fails_magic, fails_version, fails_size, fails_length, none_fails, goes_on, past_header}
use Rattle.ir_code.proofs.read.read_header.Goals as goal

pub returns-then-len-lt16-clause-refused : goal.returns-then-len-lt16-clause-refused
returns-then-len-lt16-clause-refused c = fails_short c.args.bytes.now c.if-len-lt16.true

pub returns-then-not-starts_with-clause-refused : goal.returns-then-not-starts_with-clause-refused
returns-then-not-starts_with-clause-refused c = fails_magic c.args.bytes.now c.if-len-lt16.false (sym c.starts_with.ensures.value ∙ c.if-not-starts_with.true)

pub returns-then-version-ne1-clause-refused : goal.returns-then-version-ne1-clause-refused
returns-then-version-ne1-clause-refused c =
    fails_version c.args.bytes.now c.read_word-magic.result.0 c.read_word-version.result.0 (words c.read_word-version.result.1.now) c.if-len-lt16.false (sym c.starts_with.ensures.value ∙ c.if-not-starts_with.false)
    (rw (c.read_word-magic.ensures.as_words, c.read_word-version.ensures.as_words) refl) c.if-version-ne1.true

pub returns-then-count-clause-refused : goal.returns-then-count-clause-refused
returns-then-count-clause-refused c =
    fails_size c.args.bytes.now c.read_word-magic.result.0 c.read_word-constants.result.0 c.read_word-code.result.0 (words c.read_word-code.result.1.now) c.if-len-lt16.false (sym c.starts_with.ensures.value ∙ c.if-not-starts_with.false)
    (rw (c.read_word-magic.ensures.as_words, c.read_word-version.ensures.as_words, c.read_word-constants.ensures.as_words, c.read_word-code.ensures.as_words, c.if-version-ne1.false) refl) c.if-count.true

pub returns-then-len-whole-clause-refused : goal.returns-then-len-whole-clause-refused
returns-then-len-whole-clause-refused c =
    let k = c.read_word-constants.result.0 in
    let n = c.read_word-code.result.0 in
    let whole : 16 + 4 * k + 16 * n ≡ 16 + 4 * (k + 4 * n) = omega arith in
    fails_length c.args.bytes.now c.read_word-magic.result.0 k n (words c.read_word-code.result.1.now) c.if-len-lt16.false (sym c.starts_with.ensures.value ∙ c.if-not-starts_with.false)
    (rw (c.read_word-magic.ensures.as_words, c.read_word-version.ensures.as_words, c.read_word-constants.ensures.as_words, c.read_word-code.ensures.as_words, c.if-version-ne1.false) refl) c.if-count.false
    (λ e. c.if-len-whole.true (e ∙ whole)) ∙ ap Some (rw whole (sym c.min.ensures))

pub returns-clause-passed : goal.returns-clause-passed
returns-clause-passed c =
    none_fails c.args.bytes.now c.read_word-magic.result.0 c.read_word-constants.result.0 c.read_word-code.result.0 (words c.read_word-code.result.1.now) c.if-len-lt16.false (sym c.starts_with.ensures.value ∙ c.if-not-starts_with.false)
    (rw (c.read_word-magic.ensures.as_words, c.read_word-version.ensures.as_words, c.read_word-constants.ensures.as_words, c.read_word-code.ensures.as_words, c.if-version-ne1.false) refl) c.if-count.false (omega arith)

pub returns-clause-goes_on : goal.returns-clause-goes_on
returns-clause-goes_on c =
    let k = c.read_word-constants.result.0 in
    let n = c.read_word-code.result.0 in
    goes_on c.args.bytes.now c.read_word-magic.result.0 c.read_word-version.result.0 k n (words c.read_word-code.result.1.now)
    (rw (c.read_word-magic.ensures.as_words, c.read_word-version.ensures.as_words, c.read_word-constants.ensures.as_words, c.read_word-code.ensures.as_words) refl)
    (none_fails c.args.bytes.now c.read_word-magic.result.0 k n (words c.read_word-code.result.1.now) c.if-len-lt16.false (sym c.starts_with.ensures.value ∙ c.if-not-starts_with.false)
    (rw (c.read_word-magic.ensures.as_words, c.read_word-version.ensures.as_words, c.read_word-constants.ensures.as_words, c.read_word-code.ensures.as_words, c.if-version-ne1.false) refl) c.if-count.false (omega arith))
    ∙ ap (unknown_from (16 + 4 * k)) (past_header c.read_word-magic.result.0 c.read_word-version.result.0 k n (4 * k) c.args.bytes.now c.read_word-magic.result.1.now c.read_word-version.result.1.now
    c.read_word-constants.result.1.now c.read_word-code.result.1.now c.read_word-magic.ensures.parts c.read_word-version.ensures.parts c.read_word-constants.ensures.parts c.read_word-code.ensures.parts)
