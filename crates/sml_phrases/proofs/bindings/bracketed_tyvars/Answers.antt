use Rattle.std.proofs.Common.{arith}
use Rattle.sml_grammar.specs.Answer.{whole}
use Rattle.sml_grammar.specs.Bindings.{tyvar_turn}
use Rattle.sml_grammar.specs.Terminals.{place_at, no_state}
use Rattle.phrase_base.specs.Left.{left}
use Rattle.sml_phrases.proofs.BindLists.{tyvars-start, tyvars-none, tyvars-open, tyvars-more, tyvars-last}
use Rattle.sml_phrases.proofs.bindings.bracketed_tyvars.Goals as goal

pub tyvars-init : goal.tyvars-init
tyvars-init c = record { going = tyvars-start (left c.args.source.now c.args.tokens.now) c.new-tyvars.result.items c.new-tyvars.ensures.items; short = omega arith }

pub returns-in_default : goal.returns-in_default
returns-in_default c = record { gives = tyvars-none (left c.args.source.now c.tyvars.rest.now) c.tyvars.tyvars.items (whole tyvar_turn no_state (left c.args.source.now c.args.tokens.now)) c.in_default.ensures c.tyvars.invariant.going }

pub returns-in_default-after_word-2 : goal.returns-in_default-after_word-2
returns-in_default-after_word-2 c = record {
  gives = tyvars-open (left c.args.source.now c.tyvars.rest.now) c.tyvars.tyvars.items (whole tyvar_turn no_state (left c.args.source.now c.args.tokens.now))
      (record { place = place_at (left c.args.source.now c.tyvars.rest.now); it = c.in-Some.tyvar }) (left c.args.source.now c.in-Some.after.now) c.in-Some.ensures c.in_default-after_word.ensures c.in_default-after_word-2.ensures c.tyvars.invariant.going;
}

pub returns-in_default-after_word : goal.returns-in_default-after_word
returns-in_default-after_word c =
    let h = tyvars-last (left c.args.source.now c.tyvars.rest.now) c.tyvars.tyvars.items (whole tyvar_turn no_state (left c.args.source.now c.args.tokens.now))
    (record { place = place_at (left c.args.source.now c.tyvars.rest.now); it = c.in-Some.tyvar }) (left c.args.source.now c.in-Some.after.now) c.args.source.now (left c.args.source.now c.args.tokens.now) c.push.new.self.items c.in-Some-after_word-2.closed.now
    c.in-Some.ensures c.in_default-after_word.ensures c.in-Some-after_word-2.ensures c.in_ok-push.ensures.items c.tyvars.invariant.short c.tyvars.invariant.going in
    record { gives = record { got = h.got; is = h.is; same = h.same } }

pub tyvars-preserved : goal.tyvars-preserved
tyvars-preserved c =
    let h = tyvars-more (left c.args.source.now c.tyvars.rest.now) c.tyvars.tyvars.items (whole tyvar_turn no_state (left c.args.source.now c.args.tokens.now))
    (record { place = place_at (left c.args.source.now c.tyvars.rest.now); it = c.in-Some.tyvar }) (left c.args.source.now c.in-Some.after.now) c.push.new.self.items c.in-Some.ensures c.in-Some-after_word.ensures c.in_ok-push.ensures.items c.tyvars.invariant.going in
    let a = h.short in let b = c.tyvars.invariant.short in
    record { going = h.going; short = omega arith }
