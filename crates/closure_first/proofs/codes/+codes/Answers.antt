use Rattle.std.proofs.Common.{◌-◌, [], refl, arith, ap, ◌∙◌}
use Rattle.capture_scope.specs.Seen.{members_of}
use Rattle.closure_meaning.specs.Convert.{codes_arms}
use Rattle.closure_bodies.proofs.of_closure_parts.Operating.{if-ok}
use Rattle.closure_bodies.specs.of_closure_steps.Reads.{arms_in}
use Rattle.closure_first.specs.Codes.{in_order}
use Rattle.closure_first.proofs.Adding.{adds-as, order-next, order-done, back-next, back-done}
use Rattle.closure_first.proofs.Walking.{of_exp, of_front, of_back, of_arm, arms-codes, steps-node, switch-node, first-node, group-next, group-done, alone-pushed, member-pushed, front-fn, front-block, front-handle, front-group, back-test}
use Rattle.closure_first.proofs.codes.+codes.Goals as goal

-- Lists

pub push_all-loop-i-preserved : goal.push_all-loop-i-preserved
push_all-loop-i-preserved t c = λ strings n F T h.
    order-next (of_exp n c.args.types.now strings F T) c.args.attempts.now c.args.found.now.items c.loop-i.i c.index-attempts-i.result c.index-attempts-i.result c.loop-i.found.items c.push_codes.new.found.items c.loop-i-test.true
    c.index-attempts-i.is (c.in_ok-push_codes.ensures strings n F T h) (c.loop-i.invariant strings n F T h)

pub push_all-returns : goal.push_all-returns
push_all-returns t c = λ strings n F T h.
    order-done (of_exp n c.args.types.now strings F T) c.args.attempts.now c.args.found.now.items c.loop-i.i c.loop-i.found.items c.loop-i-test.false (c.loop-i.invariant strings n F T h)

pub push_arms-loop-i-preserved : goal.push_arms-loop-i-preserved
push_arms-loop-i-preserved t c = λ strings n F T h.
    order-next (of_arm n c.args.types.now strings F T) c.args.arms.now c.args.found.now.items c.loop-i.i c.index-arms-i.result c.index-arms-i.result c.loop-i.found.items c.push_codes.new.found.items c.loop-i-test.true
    c.index-arms-i.is (c.in_ok-push_codes.ensures strings n F T h) (c.loop-i.invariant strings n F T h)

pub push_arms-returns : goal.push_arms-returns
push_arms-returns t c = λ strings n F T h.
    adds-as c.args.found.now.items c.loop-i.found.items (in_order (of_arm n c.args.types.now strings F T) c.args.arms.now) (codes_arms n c.args.types.now F T (arms_in c.args.types.now strings c.args.arms.now))
    (arms-codes n c.args.types.now strings F T c.args.arms.now)
    (order-done (of_arm n c.args.types.now strings F T) c.args.arms.now c.args.found.now.items c.loop-i.i c.loop-i.found.items c.loop-i-test.false (c.loop-i.invariant strings n F T h))

pub push_fronts-loop-i-preserved : goal.push_fronts-loop-i-preserved
push_fronts-loop-i-preserved t c = λ strings n F T h.
    order-next (of_front n c.args.types.now strings F T) c.args.steps.now c.args.found.now.items c.loop-i.i c.index-steps-i.result c.index-steps-i.result c.loop-i.found.items c.push_front.new.found.items c.loop-i-test.true
    c.index-steps-i.is (c.in_ok-push_front.ensures strings n F T h) (c.loop-i.invariant strings n F T h)

pub push_fronts-returns : goal.push_fronts-returns
push_fronts-returns t c = λ strings n F T h.
    order-done (of_front n c.args.types.now strings F T) c.args.steps.now c.args.found.now.items c.loop-i.i c.loop-i.found.items c.loop-i-test.false (c.loop-i.invariant strings n F T h)

pub push_backs-loop-left-preserved : goal.push_backs-loop-left-preserved
push_backs-loop-left-preserved t c = record {
  within = let w = c.loop-left.invariant.within in omega (arith, w);
  found = λ strings n F T h.
      let w = c.loop-left.invariant.within in
      let q = c.loop-left-test.true in
      back-next (of_back n c.args.types.now strings F T) c.args.steps.now c.args.found.now.items c.loop-left.left (c.loop-left.left - 1) c.index-steps-left.result c.index-steps-left.result c.loop-left.found.items
      c.push_back.new.found.items (omega (arith, q)) (omega (arith, w, q)) c.index-steps-left.is (c.in_ok-push_back.ensures strings n F T h) (c.loop-left.invariant.found strings n F T h);
}

pub push_backs-returns : goal.push_backs-returns
push_backs-returns t c = λ strings n F T h.
    back-done (of_back n c.args.types.now strings F T) c.args.steps.now c.args.found.now.items c.loop-left.found.items c.loop-left.left (let q = c.loop-left-test.false in omega (arith, q)) (c.loop-left.invariant.found strings n F T h)

-- Expressions

pub push_codes-returns-in_ok-push_codes-in-Steps : goal.push_codes-returns-in_ok-push_codes-in-Steps
push_codes-returns-in_ok-push_codes-in-Steps t c =
    if-ok _ _ c.push_backs.result
    (λ u p strings n F T h.
    steps-node n c.args.types.now strings F T c.args.e.now c.in-Steps.steps c.in-Steps.rest c.deref.result.now c.deref-in-Steps-2.result.now c.deref-in-Steps.result.now c.args.found.now.items c.push_fronts.new.found.items
    c.push_codes.new.found.items c.push_backs.new.found.items c.in-Steps.is c.deref.ensures.value c.deref-in-Steps.ensures c.deref-in-Steps-2.ensures.value (c.in_ok-push_fronts-in-Steps.ensures strings n F T h)
    (c.in_ok-push_codes-in-Steps.ensures strings n F T h) (p strings n F T h))
    c.push_backs.ensures

pub push_codes-returns-in-Switch : goal.push_codes-returns-in-Switch
push_codes-returns-in-Switch t c =
    if-ok _ _ c.push_arms.result
    (λ u p strings n F T h.
    switch-node n c.args.types.now strings F T c.args.e.now c.in-Switch.atom c.in-Switch.ty c.in-Switch.arms c.deref-in-Switch.result.now c.args.found.now.items c.push_arms.new.found.items c.in-Switch.is
    c.deref-in-Switch.ensures.value (p strings n F T h))
    c.push_arms.ensures

pub push_codes-returns-in_ok-push_codes-in-First : goal.push_codes-returns-in_ok-push_codes-in-First
push_codes-returns-in_ok-push_codes-in-First t c = λ strings n F T h.
    first-node n c.args.types.now strings F T c.args.e.now c.in-First.attempts c.in-First.last c.deref-in-First.result.now c.deref-in-First-2.result.now c.args.found.now.items c.push_all.new.found.items
    c.push_codes-in-First.new.found.items c.in-First.is c.deref-in-First.ensures.value c.deref-in-First-2.ensures (c.in_ok-push_all-in-First.ensures strings n F T h) (c.in_ok-push_codes-in-First.ensures strings n F T h)

-- Functions

pub push_alone-returns : goal.push_alone-returns
push_alone-returns t c =
    if-ok _ _ c.push_codes.result
    (λ u p strings n F T h.
    alone-pushed n c.args.types.now strings F T c.number_of-leader.result c.args.parameters.now c.args.last c.args.body.now c.args.found.now.items c.push_heads.new.found.items c.push_codes.new.found.items
    c.number_of-leader.ensures
    (c.in_ok-push_heads.ensures.codes strings n F T h c.number_of-leader.result [] (c.in_ok-scope.ensures c.args.types.now strings n F T h)) (p strings n F T h))
    c.push_codes.ensures

pub push_member-returns-clause-scope : goal.push_member-returns-clause-scope
push_member-returns-clause-scope t c = if-ok _ _ c.push_codes.result (λ u p. c.in_ok-push_heads.ensures.scope) c.push_codes.ensures

pub push_member-returns-clause-codes : goal.push_member-returns-clause-codes
push_member-returns-clause-codes t c =
    if-ok _ _ c.push_codes.result
    (λ u p strings n F T h g ms k.
    member-pushed n c.args.types.now strings F T c.args.first g ms c.args.function.now c.deref.result.now c.args.found.now.items c.push_heads.new.found.items
    c.push_codes.new.found.items c.deref.ensures.value (c.in_ok-push_heads.ensures.codes strings n F T h g ms k) (p strings n F T h))
    c.push_codes.ensures

pub push_group-loop-i-init : goal.push_group-loop-i-init
push_group-loop-i-init t c = record {
  of = λ strings n F T h. (let k = c.in_ok-scope.ensures c.args.types.now strings n F T h in (k.0, k.1 ∙ ap members_of c.deref-2.ensures.value));
  found = λ strings n F T h cs. refl;
}

pub push_group-loop-i-preserved : goal.push_group-loop-i-preserved
push_group-loop-i-preserved t c =
    let s = c.in_ok-push_member.ensures.scope in
    record {
      of = λ strings n F T h. (let k = c.loop-i.invariant.of strings n F T h in (s.0 ∙ k.0, s.1 ∙ k.1));
      found = λ strings n F T h.
          group-next n c.args.types.now strings F T c.args.functions.now c.leader_of-leader.result (members_of c.in_ok-group.group.items) (members_of c.in_ok-group.group.items) c.loop-i.i c.index-functions-i.result
          c.index-functions-i.result c.is_first.result c.args.found.now.items c.loop-i.found.items c.push_member.new.found.items c.loop-i-test.true c.index-functions-i.is c.is_first.ensures
          refl (c.in_ok-push_member.ensures.codes strings n F T h c.leader_of-leader.result (members_of c.in_ok-group.group.items) (c.loop-i.invariant.of strings n F T h))
          (c.loop-i.invariant.found strings n F T h);
    }

pub push_group-returns : goal.push_group-returns
push_group-returns t c = λ strings n F T h.
    group-done n c.args.types.now strings F T c.args.functions.now c.leader_of-leader.result (members_of c.in_ok-group.group.items) (members_of c.deref.result.now) c.loop-i.i c.args.found.now.items c.loop-i.found.items
    c.loop-i-test.false (c.in_ok-group.ensures c.args.types.now strings) c.leader_of-leader.ensures (ap members_of c.deref.ensures.value) (c.loop-i.invariant.found strings n F T h)

-- Steps

pub push_front-returns-in-Fn : goal.push_front-returns-in-Fn
push_front-returns-in-Fn t c =
    if-ok _ _ c.push_alone.result
    (λ u p strings n F T h.
    front-fn n c.args.types.now strings F T c.args.step.now c.in-Fn.binding c.in-Fn.parameters c.in-Fn.last c.in-Fn.body c.deref.result.now c.deref-in-Fn.result.now c.args.found.now.items c.push_alone.new.found.items
    c.in-Fn.is c.deref.ensures.value c.deref-in-Fn.ensures (p strings n F T h))
    c.push_alone.ensures

pub push_front-returns-in-Block : goal.push_front-returns-in-Block
push_front-returns-in-Block t c =
    if-ok _ _ c.push_codes.result
    (λ u p strings n F T h.
    front-block n c.args.types.now strings F T c.args.step.now c.in-Block.field-0 c.in-Block.body c.deref-in-Block.result.now c.args.found.now.items c.push_codes.new.found.items c.in-Block.is c.deref-in-Block.ensures
    (p strings n F T h))
    c.push_codes.ensures

pub push_front-returns-in_ok-push_codes-in-Handle : goal.push_front-returns-in_ok-push_codes-in-Handle
push_front-returns-in_ok-push_codes-in-Handle t c =
    if-ok _ _ c.push_codes-in-Handle-2.result
    (λ u p strings n F T h.
    front-handle n c.args.types.now strings F T c.args.step.now c.in-Handle.binding c.in-Handle.body c.in-Handle.packet c.in-Handle.handler c.deref-in-Handle.result.now c.deref-in-Handle-2.result.now c.args.found.now.items
    c.push_codes-in-Handle.new.found.items c.push_codes-in-Handle-2.new.found.items c.in-Handle.is c.deref-in-Handle.ensures c.deref-in-Handle-2.ensures (c.in_ok-push_codes-in-Handle.ensures strings n F T h)
    (p strings n F T h))
    c.push_codes-in-Handle-2.ensures

pub push_front-returns-in-Group : goal.push_front-returns-in-Group
push_front-returns-in-Group t c =
    if-ok _ _ c.push_group.result
    (λ u p strings n F T h.
    front-group n c.args.types.now strings F T c.args.step.now c.in-Group.field-0 c.in-Group.functions c.deref-in-Group.result.now c.args.found.now.items c.push_group.new.found.items c.in-Group.is c.deref-in-Group.ensures.value
    (p strings n F T h))
    c.push_group.ensures

pub push_back-returns-in-Test : goal.push_back-returns-in-Test
push_back-returns-in-Test t c =
    if-ok _ _ c.push_arms.result
    (λ u p strings n F T h.
    back-test n c.args.types.now strings F T c.args.step.now c.in-Test.atom c.in-Test.ty c.in-Test.case c.in-Test.others c.deref.result.now c.args.found.now.items c.push_arms.new.found.items c.in-Test.is c.deref.ensures.value
    (p strings n F T h))
    c.push_arms.ensures
