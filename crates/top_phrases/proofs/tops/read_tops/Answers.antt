use Rattle.std.proofs.Common.{◌≡◌, ◌<◌, true, false, length, sym, ◌∙◌, rules}
use Rattle.std.proofs.lemmas.Result.{err_from_is_err_and}
use Rattle.phrase_base.specs.Left.{left}
use Rattle.top_phrases.proofs.Reading.{tops-start, tops-end, tops-pass, tops-fail, tops-more, tops-stale, exps-fail, exps-more, none-left, some-left}
use Rattle.top_phrases.proofs.tops.read_tops.Goals as goal

pub tops-init : goal.tops-init
tops-init g c = tops-start g.R.CoreReader.dec_of c.args.it c.args.source.now c.args.n c.args.fix.now (left c.args.source.now c.args.tokens.now) c.new-tops.result.items c.new-tops.ensures.items

pub returns-then-is_empty : goal.returns-then-is_empty
returns-then-is_empty g c =
    let yes : c.is_empty.result ≡ true = search rules in
    let h = tops-end g.R.CoreReader.dec_of c.args.it c.args.source.now c.args.n c.args.fix.now c.tops.fix c.tops.fresh c.tops.rest.now c.tops.tops.items _ c.tops.invariant (none-left (length c.tops.rest.now) (sym c.is_empty.ensures ∙ yes)) in
    record { gives = record { got = h.got; is = h.is; same = h.same } }

pub tops-preserved-in-Some : goal.tops-preserved-in-Some
tops-preserved-in-Some g c =
    let no : c.is_empty.result ≡ false = search rules in
    let s = c.args.source.now in
    tops-pass g.R.CoreReader.dec_of c.args.it s c.args.n c.args.fix.now c.tops.fix c.tops.fresh c.tops.rest.now c.tops.tops.items _ c.tops.invariant (some-left (length c.tops.rest.now) (sym c.is_empty.ensures ∙ no)) (left s c.in-Some.next.now) c.in-Some.ensures

pub returns-in_err-front : goal.returns-in_err-front
returns-in_err-front g c =
    let no : c.is_empty.result ≡ false = search rules in
    let yes : c.begins_top.result ≡ true = search rules in
    let p = err_from_is_err_and c.from_residual.result c.from_residual.ensures.1 in
    record {
      gives = rw (p.1, p.2) (tops-fail g.R.CoreReader.dec_of c.args.it c.args.source.now c.args.n c.args.fix.now c.tops.fix c.tops.fresh c.tops.rest.now c.tops.tops.items _ c.tops.invariant (some-left (length c.tops.rest.now) (sym c.is_empty.ensures ∙ no)) c.in_default.ensures
          c.in_err-front.field-0.0 (sym c.begins_top.ensures ∙ yes) (rw c.in_err-front.ensures.second at c.read_top.ensures.gives));
    }

pub tops-preserved-then-begins_top : goal.tops-preserved-then-begins_top
tops-preserved-then-begins_top g c =
    let no : c.is_empty.result ≡ false = search rules in
    let yes : c.begins_top.result ≡ true = search rules in
    let w = rw c.in_ok-front.ensures.second at c.read_top.ensures.gives in
    tops-more g.R.CoreReader.dec_of c.args.it c.args.source.now c.args.n c.args.fix.now c.tops.fix c.tops.fresh c.tops.rest.now c.tops.tops.items _ c.tops.invariant (some-left (length c.tops.rest.now) (sym c.is_empty.ensures ∙ no)) c.in_default.ensures c.read_top.new.fix w.got
    c.in_ok-front.got.it c.in_ok-front.got.rest.now c.in_ok-tops.tops.items (sym c.begins_top.ensures ∙ yes) w.is w.same (rw c.in_ok-front.ensures.first at (c.in_ok-tops.ensures g.R.CoreReader.dec_of))

pub returns-then-not-fresh : goal.returns-then-not-fresh
returns-then-not-fresh g c =
    let no : c.is_empty.result ≡ false = search rules in
    let other : c.begins_top.result ≡ false = search rules in
    let stale : c.tops.fresh ≡ false = search rules in
    record { gives = tops-stale g.R.CoreReader.dec_of c.args.it c.args.source.now c.args.n c.args.fix.now c.tops.fix c.tops.fresh c.tops.rest.now c.tops.tops.items _ c.tops.invariant (some-left (length c.tops.rest.now) (sym c.is_empty.ensures ∙ no)) c.in_default.ensures (sym c.begins_top.ensures ∙ other) stale }

pub returns-in_err-start : goal.returns-in_err-start
returns-in_err-start g c =
    let no : c.is_empty.result ≡ false = search rules in
    let other : c.begins_top.result ≡ false = search rules in
    let fresh : c.tops.fresh ≡ true = search rules in
    let p = err_from_is_err_and c.from_residual-in_err-start.result c.from_residual-in_err-start.ensures.1 in
    record {
      gives = rw (p.1, p.2) (exps-fail g.R.CoreReader.dec_of c.args.it c.args.source.now c.args.n c.args.fix.now c.tops.fix c.tops.fresh c.tops.rest.now c.tops.tops.items _ c.tops.invariant (some-left (length c.tops.rest.now) (sym c.is_empty.ensures ∙ no)) c.in_default.ensures
          c.in_err-start.field-0.0 (sym c.begins_top.ensures ∙ other) fresh (rw c.in_err-start.ensures.second at c.read_exp_top.ensures.gives));
    }

pub tops-preserved : goal.tops-preserved
tops-preserved g c =
    let no : c.is_empty.result ≡ false = search rules in
    let other : c.begins_top.result ≡ false = search rules in
    let fresh : c.tops.fresh ≡ true = search rules in
    let w = rw c.in_ok-start.ensures.second at c.read_exp_top.ensures.gives in
    rw fresh (exps-more g.R.CoreReader.dec_of c.args.it c.args.source.now c.args.n c.args.fix.now c.tops.fix c.tops.fresh c.tops.rest.now c.tops.tops.items _ c.tops.invariant (some-left (length c.tops.rest.now) (sym c.is_empty.ensures ∙ no)) c.in_default.ensures c.tops.fix w.got
    c.in_ok-start.exp.it c.in_ok-start.exp.rest.now c.in_ok-tops-2.tops.items (sym c.begins_top.ensures ∙ other) fresh w.is w.same (rw c.in_ok-start.ensures.first at (c.in_ok-tops-2.ensures g.R.CoreReader.dec_of)))
