use Rattle.std.proofs.Common.{◌≡◌, ◌+◌, ◌==◌, false, Some, None, ap, sym, ◌∙◌, get_or, drop, arith, rules, length, ◌<◌}
use Rattle.sml_lexer.specs.Strings.{next_piece, quoted}
use Rattle.sml_lexer.proofs.StringLemmas.{breaks, goes_on}
use Rattle.sml_lexer.proofs.strings.quoted.Goals as goal

pub loop-at-preserved : goal.loop-at-preserved
loop-at-preserved c =
    let text = c.args.text.now in
    let at = c.loop-at.at in
    let within : at < length text = omega arith in
    let read : next_piece (drop at text) ≡ Some c.in-Some.piece = ap next_piece (sym c.rest.ensures) ∙ sym c.in-Some.ensures.same in
    let no_quote : (get_or text at 0 == 34) ≡ false = search (rules, c.if-text-at-eq34.false) in
    record {
      same = c.loop-at.invariant.same ∙ goes_on c.loop-at.value.items text at c.in-Some.piece within no_quote read c.in-Some.ensures.some ∙ ap (λ v. quoted 0 v (drop (at + c.in-Some.piece.len) text)) (sym c.in_ok-push_piece-in-Some.ensures);
      forward = omega (arith, c.loop-at.invariant.forward);
    }

pub returns-in-None-clause-same : goal.returns-in-None-clause-same
returns-in-None-clause-same c =
    let text = c.args.text.now in
    let at = c.loop-at.at in
    let within : at < length text = omega arith in
    let read : next_piece (drop at text) ≡ None = ap next_piece (sym c.rest.ensures) ∙ sym c.in-None.ensures.same in
    let no_quote : (get_or text at 0 == 34) ≡ false = search (rules, c.if-text-at-eq34.false) in
    sym (c.loop-at.invariant.same ∙ breaks c.loop-at.value.items text at within no_quote read)
