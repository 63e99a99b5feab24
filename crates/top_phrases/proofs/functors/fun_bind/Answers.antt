use Rattle.std.proofs.Common.{refl, ◌∙◌, ap}
use Rattle.phrase_base.specs.Left.{left}
use Rattle.top_phrases.proofs.Bindings.{fun-done}
use Rattle.top_phrases.proofs.functors.fun_bind.Goals as goal

pub returns : goal.returns
returns g c =
    let s = c.args.source.now in
    let a = c.in_ok-taken.ensures.gives _ c.place_at-bracket.ensures in
    let w2 = rw c.in_ok-first.ensures.second at c.past-2.ensures.word in
    let b = rw c.in_ok-second.ensures.second at c.read_sign.ensures.gives in
    let w3 = rw c.in_ok-third.ensures.second at c.past-3.ensures.word in
    let d = rw c.in_ok-parts.ensures.second at c.read_str.ensures.gives in
    let kept = c.in_ok-parts.ensures.first ∙ c.in_ok-third.ensures.first in
    let first = c.in_ok-second.ensures.first ∙ c.in_ok-first.ensures.first in
    let made = rw c.in_ok-kept.ensures.second at c.signed.ensures in
    let h = fun-done g.R.CoreReader.dec_of s c.args.n c.args.fix.now (left s c.args.tokens.now) (left s c.in-Some.found.1.now) (left s c.in_ok-inner.inner.now) c.in-Some.found.0 c.in_ok-taken.taken.rest.now c.in_ok-first.closed.now c.in_ok-second.sign.rest.now c.in_ok-third.body.now c.in_ok-parts.str.rest.now
    c.in-Some.ensures c.in_ok-inner.ensures.word c.in_ok-taken.taken.it c.in_ok-taken.taken.depth a.got a.is a.same w2 c.in_ok-second.sign.it c.in_ok-second.sign.depth b.got b.is b.same w3 c.in_ok-parts.str.it c.in_ok-parts.str.depth d.got d.is d.same
    c.place_at-place.result c.place_at-body_place.result c.functor.result c.max-depth.result c.place_at-place.ensures c.place_at-body_place.ensures
    (rw (kept, first) at (rw (made g.R.CoreReader.dec_of, c.in_ok-kept.ensures.first) at (c.functor.ensures g.R.CoreReader.dec_of))) (rw (kept, first) at (rw c.max-inner_depth.ensures at c.max-depth.ensures)) in
    record { gives = record { got = h.got; is = h.is; same = h.same } }
