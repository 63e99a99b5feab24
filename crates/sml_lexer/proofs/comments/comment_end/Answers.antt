use Rattle.std.proofs.Common.{◌≡◌, ◌+◌, ◌<◌, ◌==◌, true, false, get_or, length, sym, ◌∙◌, arith, rules}
use Rattle.sml_lexer.specs.Comments.{closes, opens}
use Rattle.sml_lexer.proofs.CommentLemmas.{closes_one, opens_one, passes, stays_open}
use Rattle.sml_lexer.proofs.comments.comment_end.Goals as goal

pub loop-at-preserved-then-opens : goal.loop-at-preserved-then-opens
loop-at-preserved-then-opens c =
    let text = c.args.text.now in
    let at = c.loop-at.at in
    let within : at + 1 < length text = omega arith in
    let is_open : opens (get_or text at 0) (get_or text (at + 1) 0) ≡ true = sym c.opens.ensures ∙ c.if-opens.true in
    record {
      same = c.loop-at.invariant.same ∙ opens_one c.loop-at.open_ones text at within is_open;
      forward = omega (arith, c.loop-at.invariant.forward);
      some_open = omega arith;
      few_open = omega (arith, c.loop-at.invariant.few_open);
    }

pub loop-at-preserved-then-closes : goal.loop-at-preserved-then-closes
loop-at-preserved-then-closes c =
    let text = c.args.text.now in
    let at = c.loop-at.at in
    let within : at + 1 < length text = omega arith in
    let no_open : opens (get_or text at 0) (get_or text (at + 1) 0) ≡ false = sym c.opens.ensures ∙ c.if-opens.false in
    let is_close : closes (get_or text at 0) (get_or text (at + 1) 0) ≡ true = sym c.closes.ensures ∙ c.if-closes.true in
    let not_last : (c.loop-at.open_ones == 1) ≡ false = search (rules, c.if-open_ones-eq1.false) in
    record {
      same = c.loop-at.invariant.same ∙ closes_one c.loop-at.open_ones text at within no_open is_close not_last;
      forward = omega (arith, c.loop-at.invariant.forward);
      some_open = search (rules, c.loop-at.invariant.some_open);
      few_open = omega (arith, c.loop-at.invariant.few_open);
    }

pub loop-at-preserved : goal.loop-at-preserved
loop-at-preserved c =
    let text = c.args.text.now in
    let at = c.loop-at.at in
    let within : at + 1 < length text = omega arith in
    let no_open : opens (get_or text at 0) (get_or text (at + 1) 0) ≡ false = sym c.opens.ensures ∙ c.if-opens.false in
    let no_close : closes (get_or text at 0) (get_or text (at + 1) 0) ≡ false = sym c.closes.ensures ∙ c.if-closes.false in
    record {
      same = c.loop-at.invariant.same ∙ passes c.loop-at.open_ones text at within no_open no_close;
      forward = omega (arith, c.loop-at.invariant.forward);
      some_open = c.loop-at.invariant.some_open;
      few_open = omega (arith, c.loop-at.invariant.few_open);
    }

pub returns-else-at-text-clause-same : goal.returns-else-at-text-clause-same
returns-else-at-text-clause-same c =
    sym (c.loop-at.invariant.same ∙ stays_open c.loop-at.open_ones c.args.text.now c.loop-at.at (omega arith))
