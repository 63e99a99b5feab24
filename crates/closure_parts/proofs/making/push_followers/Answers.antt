use Rattle.std.proofs.Common.{◌≡◌, ◌-◌, take, refl, sym, ap, ap₂, ◌∙◌, arith}
use Rattle.capture_scope.specs.Seen.{members_of}
use Rattle.closure_parts.specs.Pieces.{a_make, followers}
use Rattle.closure_parts.specs.Puts.{before}
use Rattle.closure_parts.proofs.Closures.{follower-next}
use Rattle.closure_parts.proofs.making.push_followers.Goals as goal

pub loop-left-preserved : goal.loop-left-preserved
loop-left-preserved c =
    let w = c.loop-left.invariant.within in
    let q = c.loop-left-test.true in
    record {
      within = omega (arith, w);
      put = λ n t.
          follower-next n c.args.first c.args.others.now c.loop-left.left (c.loop-left.left - 1) _ _ c.args.steps.now.items c.loop-left.steps.items c.push_let.new.steps.items c.in_ok-name.name _ (omega (arith, q)) (omega (arith, w, q)) refl
          c.in_ok-name.ensures (c.in_ok-made.ensures ∙ ap₂ a_make (c.of.ensures ∙ t _) c.in_ok-holder.ensures) c.in_ok-push_let.ensures (c.loop-left.invariant.put n t);
    }

pub returns : goal.returns
returns c = λ n t e.
    let h = c.loop-left-test.false in
    let z : c.loop-left.left ≡ 0 = omega (arith, h) in
    sym (ap (λ i. before c.loop-left.steps.items (followers n c.args.first (members_of (take i c.args.others.now)) e)) z) ∙ c.loop-left.invariant.put n t e
