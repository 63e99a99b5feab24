use Rattle.std.proofs.Common.{ap, ◌∙◌}
use Rattle.ir_known.specs.Knows.{marks_of}
use Rattle.match_names.specs.of_match_compile.Compile.{standing}
use Rattle.match_types.proofs.Seeing.{keeps-on}
use Rattle.match_types.proofs.Standing.{images-more}
use Rattle.match_types.proofs.types.images.Goals as goal

pub loop-v-preserved : goal.loop-v-preserved
loop-v-preserved c =
    let e = c.in_ok-k.ensures in
    let h = c.loop-v.invariant in
    record {
      images = images-more c.loop-v.work.tables.types c.standing_for.new.work.tables.types (marks_of c.args.work.now.scope) c.loop-v.made.items c.push.new.self.items c.loop-v.v c.in_ok-k.k e.keeps.types e.keeps.longer
          h.images (e.is ∙ ap (λ s. standing (marks_of s) c.loop-v.v) h.keeps.scope) e.held c.in_ok-push.ensures.items;
      next = e.next ∙ h.next;
      keeps = keeps-on _ _ _ h.keeps e.keeps;
    }
