use Rattle.std.proofs.Common.{◌*◌, ◌+◌, ◌<◌, length, drop, arith}
use Rattle.sml_lexer.proofs.NumberLemmas.{at_least, one_more}
use Rattle.sml_lexer.proofs.numbers.digits_value.Goals as goal

pub returns-then-value-from : goal.returns-then-value-from
returns-then-value-from c =
    let base = c.args.base in
    let digits = c.args.digits.now in
    let i = c.loop-c.c-index in
    let within : i < length digits = omega arith in
    let step = one_more base c.loop-c.value digits i within in
    let least = at_least base (c.loop-c.value * base + c.digit_value.result) (drop (i + 1) digits) c.requires.low in
    grind (arith, step, least)
