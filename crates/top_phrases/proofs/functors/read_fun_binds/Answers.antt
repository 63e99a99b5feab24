use Rattle.std.proofs.Common.{refl, arith}
use Rattle.std.proofs.lemmas.Result.{err_from_is_err_and}
use Rattle.phrase_base.specs.Left.{left}
use Rattle.sig_phrases.proofs.Separated.{list-start, list-fail, list-more, list-last}
use Rattle.top_phrases.specs.TopsRead.{read_fun_binds}
use Rattle.top_phrases.proofs.Bindings.{funs-form}
use Rattle.top_phrases.proofs.functors.read_fun_binds.Goals as goal

pub binds-init : goal.binds-init
binds-init g c = record {
  going = list-start (funs-form g.R.CoreReader.dec_of c.args.source.now.file c.args.n c.args.fix.now) c.args.source.now c.args.n (left c.args.source.now c.args.tokens.now) c.new-binds.result.items c.new-binds.ensures.items;
  short = omega arith;
}

pub returns-in_err-front : goal.returns-in_err-front
returns-in_err-front g c =
    let s = c.args.source.now in
    let p = err_from_is_err_and c.from_residual.result c.from_residual.ensures.1 in
    record { gives = rw (p.1, p.2) (list-fail (funs-form g.R.CoreReader.dec_of c.args.source.now.file c.args.n c.args.fix.now) s c.args.n (left s c.binds.rest.now) c.binds.binds.items c.binds.deepest _ c.in_err-front.field-0.0 (rw c.in_err-front.ensures.second at c.fun_bind.ensures.gives) c.binds.invariant.going) }

pub returns-in_default : goal.returns-in_default
returns-in_default g c =
    let s = c.args.source.now in
    let r = rw c.in_ok-front.ensures.second at c.fun_bind.ensures.gives in
    let h = list-last (funs-form g.R.CoreReader.dec_of c.args.source.now.file c.args.n c.args.fix.now) s c.args.n (left s c.binds.rest.now) c.binds.binds.items c.binds.deepest (read_fun_binds c.args.n c.args.fix.now (left s c.args.tokens.now)) c.in_ok-binds.binds.items c.max-deepest.result c.in_ok-front.got.it c.in_ok-front.got.depth c.in_ok-front.got.rest.now
    r.got r.is r.same (rw c.in_ok-front.ensures.first at c.in_ok-binds.ensures) c.max-deepest.ensures c.binds.invariant.going (left s c.args.tokens.now) c.in_default.ensures c.binds.invariant.short in
    record { gives = record { got = h.got; is = h.is; same = h.same } }

pub binds-preserved : goal.binds-preserved
binds-preserved g c =
    let s = c.args.source.now in
    let r = rw c.in_ok-front.ensures.second at c.fun_bind.ensures.gives in
    let h = list-more (funs-form g.R.CoreReader.dec_of c.args.source.now.file c.args.n c.args.fix.now) s c.args.n (left s c.binds.rest.now) c.binds.binds.items c.binds.deepest (read_fun_binds c.args.n c.args.fix.now (left s c.args.tokens.now)) c.in_ok-binds.binds.items c.max-deepest.result c.in_ok-front.got.it c.in_ok-front.got.depth c.in_ok-front.got.rest.now
    r.got r.is r.same (rw c.in_ok-front.ensures.first at c.in_ok-binds.ensures) c.max-deepest.ensures c.binds.invariant.going _ c.in-Some.ensures in
    let a = h.short in let b = c.binds.invariant.short in
    record { going = h.going; short = omega arith }

pub binds-smaller : goal.binds-smaller
binds-smaller g c =
    let s = c.args.source.now in
    let r = rw c.in_ok-front.ensures.second at c.fun_bind.ensures.gives in
    let h = list-more (funs-form g.R.CoreReader.dec_of c.args.source.now.file c.args.n c.args.fix.now) s c.args.n (left s c.binds.rest.now) c.binds.binds.items c.binds.deepest (read_fun_binds c.args.n c.args.fix.now (left s c.args.tokens.now)) c.in_ok-binds.binds.items c.max-deepest.result c.in_ok-front.got.it c.in_ok-front.got.depth c.in_ok-front.got.rest.now
    r.got r.is r.same (rw c.in_ok-front.ensures.first at c.in_ok-binds.ensures) c.max-deepest.ensures c.binds.invariant.going _ c.in-Some.ensures in
    h.short
