use Rattle.std.proofs.Common.{◌+◌, ◌≤◌, length, ap, arith, length-drop}
use Rattle.sml_lexer.proofs.NumberLemmas.{word_is_run}
use Rattle.sml_lexer.proofs.numbers.word_at.Goals as goal

pub returns : goal.returns
returns c =
    let within : c.args.from + c.run_len-len.result ≤ length c.args.text.now = omega (arith, ap length c.rest-digits.ensures, length-drop c.args.from c.args.text.now) in
    word_is_run c.args.base c.args.class c.args.text.now c.rest-digits.result.now c.front.result.now c.args.from c.run_len-len.result c.word_item.result c.rest-digits.ensures c.run_len-len.ensures.longest c.front.ensures (c.word_item.ensures c.args.text.now within)
