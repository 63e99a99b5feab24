use Rattle.std.proofs.Common.{◌+◌, ◌++◌, ◌∷◌, [], refl, ap, ◌∙◌}
use Rattle.eta_parts.proofs.Parts.{part-next, number-next, count-next, all-parts, part-let}
use Rattle.eta_parts.proofs.functions.push_parts.Goals as goal

pub loop-i-preserved : goal.loop-i-preserved
loop-i-preserved c = record {
  steps =
      part-next c.args.parts.now c.loop-i.i _ 0 c.args.next.now c.loop-i.next c.take_numbers.new.next c.loop-i-test.true refl c.in_ok-variable.ensures.next c.args.tuple.ty c.args.tuple.variable c.args.steps.now.items c.loop-i.steps.items
      c.push.new.self.items _ c.in_ok-push.ensures.items
      (λ types strings. part-let types strings c.args.tuple.ty c.args.tuple.variable c.value.result c.in_ok-variable.variable c.loop-i.next _ c.in_ok-label.label (c.loop-i.i + 1) c.value.ensures.variable c.in_ok-variable.ensures.first c.value.ensures.ty c.in_ok-label.ensures)
      c.loop-i.invariant.steps;
  variables =
      number-next c.args.parts.now c.loop-i.i _ 0 c.args.next.now c.loop-i.next c.take_numbers.new.next c.loop-i-test.true refl c.in_ok-variable.ensures.next c.loop-i.variables.items c.push-in-loop-i.new.self.items
      (c.in_ok-push-2.ensures.items ∙ ap (λ n. c.loop-i.variables.items ++ n ∷ []) c.in_ok-variable.ensures.first) c.loop-i.invariant.variables;
  news = count-next c.args.parts.now c.loop-i.i _ 0 c.args.next.now c.loop-i.next c.take_numbers.new.next c.loop-i-test.true refl c.in_ok-variable.ensures.next _ c.loop-i.invariant.news;
}

pub returns-clause-steps : goal.returns-clause-steps
returns-clause-steps c = all-parts c.args.tuple.ty c.args.tuple.variable c.args.parts.now c.loop-i.i c.args.next.now c.loop-i.next c.args.steps.now.items c.loop-i.steps.items c.loop-i-test.false c.loop-i.invariant.steps
