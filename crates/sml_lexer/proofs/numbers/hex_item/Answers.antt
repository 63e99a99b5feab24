use Rattle.std.proofs.Common.{ap, ◌+◌, ◌≤◌, false, length, arith}
use Rattle.std.proofs.Common.{length-drop}
use Rattle.sml_lexer.specs.declared.chars.Class.TheVariants.{HexDigit}
use Rattle.sml_lexer.proofs.NumberLemmas.{digits_are_run}
use Rattle.sml_lexer.proofs.numbers.hex_item.Goals as goal

pub returns : goal.returns
returns c =
    let within : c.args.from + c.run_len-len.result ≤ length c.args.text.now = omega (arith, ap length c.rest-digits.ensures, length-drop c.args.from c.args.text.now) in
    digits_are_run c.args.is_negative false 16 HexDigit c.args.text.now c.rest-digits.result.now c.front.result.now c.args.from c.run_len-len.result c.int_item.result c.rest-digits.ensures c.run_len-len.ensures.longest c.front.ensures (c.int_item.ensures c.args.text.now within)
