use Rattle.std.proofs.Common.{◌-◌, ap, ◌∙◌, arith}
use Rattle.closure_parts.specs.Indexed.{Kept}
use Rattle.closure_parts.proofs.Finding.{texts-next}
use Rattle.closure_parts.proofs.TextMap.{texts-updated}
use Rattle.closure_parts.proofs.places.first_texts.Goals as goal

pub loop-left-preserved : goal.loop-left-preserved
loop-left-preserved c =
    let w = c.loop-left.invariant.within in
    let q = c.loop-left-test.true in
    record {
      within = omega (arith, w);
      placed = texts-next c.args.strings.now c.loop-left.left (c.loop-left.left - 1) c.in_ok-text.text c.index-strings-left.result c.loop-left.first.entries c.insert.new.self.entries (omega (arith, q)) (omega (arith, w, q))
          (c.in_ok-text.ensures.items ∙ c.deref.ensures.value ∙ ap (λ (v : Kept). v.items) c.index-strings-left.is) (texts-updated c.loop-left.first.entries c.insert.new.self.entries c.in_ok-text.text (c.loop-left.left - 1) c.in_ok-insert.ensures.updates.1 c.in_ok-insert.ensures.updates.3)
          c.loop-left.invariant.placed;
    }
