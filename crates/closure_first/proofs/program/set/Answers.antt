use Rattle.std.proofs.Common.{refl, ◌∙◌}
use Rattle.closure_first.proofs.Listing.{set-next, set-all}
use Rattle.closure_first.proofs.program.set.Goals as goal

pub loop-i-preserved : goal.loop-i-preserved
loop-i-preserved c = λ types strings n F T h.
    set-next n c.args.functions.now c.loop-i.i _ _ c.of-tag.result c.in_ok-function.function c.loop-i.made.items c.push.new.self.items c.loop-i-test.true refl (c.of-tag.ensures ∙ h.tags _) (c.in_ok-function.ensures ∙ h.functions _) c.in_ok-push.ensures.items
    (c.loop-i.invariant types strings n F T h)

pub returns : goal.returns
returns c = λ types strings n F T h. set-all n c.args.functions.now c.loop-i.i c.loop-i.made.items c.loop-i-test.false (c.loop-i.invariant types strings n F T h)
