use Rattle.std.proofs.Common.{length, length-drop, arith, ap}
use Rattle.sml_lexer.proofs.NumberLemmas.{decimal_is_run}
use Rattle.sml_lexer.proofs.numbers.decimal_item.Goals as goal

pub returns : goal.returns
returns c = decimal_is_run c.args.is_negative c.is_plain-plain.result c.goes_on_as_real.result c.args.text.now c.rest-digits.result.now c.front.result.now c.rest.result.now c.args.from c.run_len-len.result c.int_item.result c.rest-digits.ensures c.run_len-len.ensures.longest c.front.ensures c.rest.ensures c.goes_on_as_real.ensures c.if-goes_on_as_real.false c.is_plain-plain.ensures (c.int_item.ensures c.args.text.now (omega (arith, ap length c.rest-digits.ensures, length-drop c.args.from c.args.text.now)))
