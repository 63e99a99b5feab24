use Rattle.std.proofs.Common.{refl, ◌∙◌}
use Rattle.sml_grammar.specs.Terminals.{place_at}
use Rattle.phrase_base.specs.Left.{left}
use Rattle.spec_phrases.proofs.WhereParts.{where-one}
use Rattle.spec_phrases.proofs.lists.where_type.Goals as goal

pub returns : goal.returns
returns g c =
    let s = c.args.source.now in
    let i = left s c.args.tokens.now in
    let v = c.in_ok-head.ensures.gives in
    let q = rw c.in_ok-vars.ensures.second at c.tycon.ensures.gives in
    let w2 = rw c.in_ok-parts.ensures.second at c.past-2.ensures.word in
    let t = rw c.in_ok-parts-2.ensures.second at c.read_ty.ensures.gives in
    let parts = c.in_ok-parts-2.ensures.first ∙ c.in_ok-parts.ensures.first in
    let kept = c.in_ok-vars.ensures.first in
    let own = c.own_place-tyvars_place.ensures (place_at i) c.place_at-place.ensures in
    let whole = c.as_slice.ensures.value in
    let h = where-one s c.args.n i (left s c.in_ok-inner.inner.now) (left s c.in_ok-parts.bound.now) c.in_ok-head.head.rest.now c.in_ok-vars.con.rest.now c.in_ok-parts-2.ty.rest.now
    c.in_ok-inner.ensures.word c.in_ok-head.head.it.items v.got v.is v.same c.in_ok-vars.con.it c.in_ok-vars.con.depth q.got q.is q.same w2 c.in_ok-parts-2.ty.it c.in_ok-parts-2.ty.depth t.got t.is t.same
    _ (rw (parts, kept, own, whole, c.place_at-place.ensures) refl) in
    record { gives = record { got = h.got; is = h.is; same = h.same } }
