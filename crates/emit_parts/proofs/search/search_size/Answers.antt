use Rattle.std.proofs.Common.{◌≡◌, ◌∙◌, ◌*◌, ap, sym, length, arith}
use Rattle.emit_code.specs.Tags.{each}
use Rattle.emit_parts.proofs.Searches.{search-long, times-swap}
use Rattle.emit_parts.proofs.search.search_size.Goals as goal

pub returns-in-Ok : goal.returns-in-Ok
returns-in-Ok c fuel other set h le =
    let s = search-long c.args.tests other fuel set (omega (arith, c.if-count-eq0.false, h)) (omega (arith, h, le)) in
    let e : each c.args.tests * length set ≡ c.in-Some.size =
    ap (λ z. each c.args.tests * z) h ∙ times-swap (each c.args.tests) c.args.count ∙ ap (λ z. c.args.count * z) (sym c.share.ensures.value) ∙ sym c.in-Some.ensures.1 in
    omega (arith, s, e, c.in-Ok.ensures)
