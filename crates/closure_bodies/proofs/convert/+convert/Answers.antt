use Rattle.std.proofs.Common.{◌≡◌, ◌<◌, true, false, [], map, length, refl, sym, ap, ◌∙◌, arith, rules}
use Rattle.plain_tree.specs.TreeOf.{case_of}
use Rattle.mono_bound.specs.Reads.{reading, mono_of}
use Rattle.first_tree.specs.TreeOf.{tree_of, arm_of, arms_of}
use Rattle.closure_meaning.specs.Convert.{convert}
use Rattle.closure_steps.proofs.of_closure_parts.Operating.{if-ok}
use Rattle.closure_steps.specs.Reads.{steps_in}
use Rattle.closure_steps.proofs.Pushing.{ok-at}
use Rattle.closure_steps.proofs.Stepping.{steps-left, case-left, one-left}
use Rattle.closure_bodies.proofs.Arms.{cases-next, cases-stop, cases-all, no-test, end-tags, end-all, tags-next, tags-stop, tags-all}
use Rattle.closure_bodies.proofs.Loops.{attempts-next, attempts-all, steps-next, steps-all, scope-next, scope-all}
use Rattle.closure_bodies.proofs.Nodes.{steps-node, switch-node, first-node, let-step, fn-step, block-step, handle-step, handle-known, name-step, group-step, test-step, opened-made, test-when, test-case}
use Rattle.closure_bodies.proofs.convert.+convert.Goals as goal

-- Expressions

pub convert-returns-in_ok-end-in-Steps-clause-made : goal.convert-returns-in_ok-end-in-Steps-clause-made
convert-returns-in_ok-end-in-Steps-clause-made t c = λ strings n F T h.
    steps-node n c.args.types.now strings F T c.args.e.now c.in-Steps.steps c.in-Steps.rest c.deref.result.now c.deref-in-Steps.result.now c.args.scope.now c.convert_steps.new.scope c.new-made.result.items c.convert_steps.new.steps
    c.in_ok-end-in-Steps.end c.in-Steps.is c.deref.ensures.value c.deref-in-Steps.ensures c.new-made.ensures.items (c.in_ok-convert_steps-in-Steps.ensures.scope strings) (c.in_ok-convert_steps-in-Steps.ensures.made strings n F T h)
    (c.in_ok-end-in-Steps.ensures.made strings n F T h)

pub convert-returns-in_ok-end-in-Steps-clause-scope : goal.convert-returns-in_ok-end-in-Steps-clause-scope
convert-returns-in_ok-end-in-Steps-clause-scope t c =
    steps-left c.args.types.now (steps_in c.args.types.now [] c.deref.result.now) c.args.scope.now c.convert_boxed.new.scope c.leave_to.new.self c.len-len.result c.len-len.ensures
    (c.in_ok-end-in-Steps.ensures.scope ∙ c.in_ok-convert_steps-in-Steps.ensures.scope []) c.leave_to.ensures

pub convert-returns-in-Switch-clause-made : goal.convert-returns-in-Switch-clause-made
convert-returns-in-Switch-clause-made t c =
    if-ok _ _ c.convert_cases.result
    (λ m h strings n F T held.
    switch-node n c.args.types.now strings F T c.args.e.now c.in-Switch.atom c.in-Switch.ty c.in-Switch.arms c.deref-in-Switch.result.now c.args.scope.now (tree_of m) c.in-Switch.is c.deref-in-Switch.ensures.value (h strings n F T held))
    c.convert_cases.ensures.made

pub convert-returns-in_ok-end-in-First-clause-made : goal.convert-returns-in_ok-end-in-First-clause-made
convert-returns-in_ok-end-in-First-clause-made t c = λ strings n F T h.
    first-node n c.args.types.now strings F T c.args.e.now c.in-First.attempts c.in-First.last c.deref-in-First.result.now c.deref-in-First-2.result.now c.args.scope.now c.convert_attempts.new.scope c.new-made-in-First.result.items
    c.convert_attempts.new.steps c.in_ok-end-in-First.end c.in-First.is c.deref-in-First.ensures.value c.deref-in-First-2.ensures c.new-made-in-First.ensures.items c.in_ok-convert_attempts-in-First.ensures.scope
    (c.in_ok-convert_attempts-in-First.ensures.made strings n F T h) (c.in_ok-end-in-First.ensures.made strings n F T h)

pub convert_boxed-returns-clause-made : goal.convert_boxed-returns-clause-made
convert_boxed-returns-clause-made t c = λ strings n F T h. ap tree_of c.in_ok-boxed.ensures ∙ c.in_ok-made.ensures.made strings n F T h

pub convert_handler-returns-clause-made : goal.convert_handler-returns-clause-made
convert_handler-returns-clause-made t c = λ strings n F T h.
    c.in_ok-made.ensures.made strings n F T h ∙ ap (λ z. convert n c.args.types.now F T z (mono_of c.args.types.now strings c.args.handler.now)) c.in_ok-add.ensures.ok

pub convert_handler-returns-clause-scope : goal.convert_handler-returns-clause-scope
convert_handler-returns-clause-scope t c =
    one-left c.args.packet c.args.scope.now c.convert_boxed.new.scope c.leave_to.new.self c.len-len.result c.len-len.ensures (c.in_ok-made.ensures.scope ∙ c.in_ok-add.ensures.ok) c.leave_to.ensures

-- Lists

pub convert_attempts-loop-i-preserved : goal.convert_attempts-loop-i-preserved
convert_attempts-loop-i-preserved t c = record {
  made = λ strings n F T h.
      attempts-next n c.args.types.now strings F T c.args.attempts.now c.loop-i.i c.index-attempts-i.result c.index-attempts-i.result c.args.scope.now c.loop-i.scope c.args.steps.now.items c.loop-i.steps.items c.push_try.new.steps.items
      (tree_of c.in_ok-made.made) c.loop-i-test.true c.index-attempts-i.is c.loop-i.invariant.scope (c.in_ok-made.ensures.made strings n F T h) c.in_ok-push_try.ensures (c.loop-i.invariant.made strings n F T h);
  scope = c.in_ok-made.ensures.scope ∙ c.loop-i.invariant.scope;
}

pub convert_attempts-returns-clause-made : goal.convert_attempts-returns-clause-made
convert_attempts-returns-clause-made t c = λ strings n F T h.
    attempts-all n c.args.types.now strings F T c.args.attempts.now c.loop-i.i c.args.scope.now c.args.steps.now.items c.loop-i.steps.items c.loop-i-test.false (c.loop-i.invariant.made strings n F T h)

pub convert_steps-loop-i-preserved : goal.convert_steps-loop-i-preserved
convert_steps-loop-i-preserved t c = record {
  made = λ strings n F T h.
      steps-next n c.args.types.now strings F T c.args.taken.now c.loop-i.i c.index-taken-i.result c.index-taken-i.result c.args.scope.now c.loop-i.scope c.convert_step.new.scope c.bind_step.new.scope c.args.steps.now.items c.loop-i.steps.items
      c.convert_step.new.steps.items c.loop-i-test.true c.index-taken-i.is c.in_ok-convert_step.ensures.scope (c.in_ok-bind_step.ensures c.args.types.now strings) (c.in_ok-convert_step.ensures.made strings n F T h)
      (c.loop-i.invariant.made strings n F T h);
  scope = λ strings.
      scope-next c.args.types.now strings c.args.taken.now c.loop-i.i c.index-taken-i.result c.index-taken-i.result c.args.scope.now c.loop-i.scope c.convert_step.new.scope c.bind_step.new.scope c.loop-i-test.true c.index-taken-i.is
      c.in_ok-convert_step.ensures.scope (c.in_ok-bind_step.ensures c.args.types.now strings) (c.loop-i.invariant.scope strings);
}

pub convert_steps-returns-clause-made : goal.convert_steps-returns-clause-made
convert_steps-returns-clause-made t c = λ strings n F T h.
    steps-all n c.args.types.now strings F T c.args.taken.now c.loop-i.i c.args.scope.now c.loop-i.scope c.args.steps.now.items c.loop-i.steps.items c.loop-i-test.false (c.loop-i.invariant.made strings n F T h)

pub convert_steps-returns-clause-scope : goal.convert_steps-returns-clause-scope
convert_steps-returns-clause-scope t c = λ strings. scope-all c.args.types.now strings c.args.taken.now c.loop-i.i c.args.scope.now c.loop-i.scope c.loop-i-test.false (c.loop-i.invariant.scope strings)

-- Steps

pub convert_step-returns-in_ok-push_operation-in-Let-clause-made : goal.convert_step-returns-in_ok-push_operation-in-Let-clause-made
convert_step-returns-in_ok-push_operation-in-Let-clause-made t c = λ strings n F T h.
    let-step n c.args.types.now strings F T c.args.scope.now c.args.step.now c.args.steps.now.items c.push_operation.new.steps.items c.in-Let.binding c.in-Let.operation c.in-Let.operation c.in-Let.is refl
    (c.in_ok-push_operation-in-Let.ensures strings n F T h)

pub convert_step-returns-in_ok-push_making-in-Fn-clause-made : goal.convert_step-returns-in_ok-push_making-in-Fn-clause-made
convert_step-returns-in_ok-push_making-in-Fn-clause-made t c = λ strings n F T h.
    fn-step n c.args.types.now strings F T c.args.scope.now c.args.step.now c.args.steps.now.items c.push_making.new.steps.items c.in-Fn.binding c.in-Fn.parameters c.in-Fn.last c.in-Fn.body c.deref.result.now c.in_ok-name-in-Fn.name
    c.number_of-number.result c.in-Fn.is c.deref.ensures.value c.in_ok-name-in-Fn.ensures c.number_of-number.ensures (c.in_ok-push_making-in-Fn.ensures c.args.types.now strings n F T h)

pub convert_step-returns-in_ok-push_block-in-Block-clause-made : goal.convert_step-returns-in_ok-push_block-in-Block-clause-made
convert_step-returns-in_ok-push_block-in-Block-clause-made t c = λ strings n F T h.
    block-step n c.args.types.now strings F T c.args.scope.now c.args.step.now c.args.steps.now.items c.push_block.new.steps.items c.in-Block.binding c.in-Block.body c.deref-in-Block.result.now c.in_ok-name-in-Block.name
    (tree_of c.in_ok-body-in-Block.body.value) c.in-Block.is c.deref-in-Block.ensures c.in_ok-name-in-Block.ensures (c.in_ok-body-in-Block.ensures.made strings n F T h) c.in_ok-push_block-in-Block.ensures

pub convert_step-returns-in_ok-push_name-in-Name-clause-made : goal.convert_step-returns-in_ok-push_name-in-Name-clause-made
convert_step-returns-in_ok-push_name-in-Name-clause-made t c = λ strings n F T h.
    name-step n c.args.types.now strings F T c.args.scope.now c.args.step.now c.args.steps.now.items c.push_name.new.steps.items c.in-Name.variable c.in-Name.exception c.in-Name.is
    (c.in_ok-push_name-in-Name.ensures c.args.types.now strings n F T h)

pub convert_step-returns-in_ok-push_group-in-Group-clause-made : goal.convert_step-returns-in_ok-push_group-in-Group-clause-made
convert_step-returns-in_ok-push_group-in-Group-clause-made t c = λ strings n F T h.
    group-step n c.args.types.now strings F T c.args.scope.now c.args.step.now c.args.steps.now.items c.push_group.new.steps.items c.in-Group.field-0 c.in-Group.functions c.deref-in-Group.result.now c.in-Group.is c.deref-in-Group.ensures.value
    (c.in_ok-push_group-in-Group.ensures c.args.types.now strings n F T h)

pub convert_step-returns-in-Test-clause-made : goal.convert_step-returns-in-Test-clause-made
convert_step-returns-in-Test-clause-made t c =
    if-ok _ _ c.convert_test.result
    (λ u p strings n F T h.
    test-step n c.args.types.now strings F T c.args.scope.now c.args.step.now c.args.steps.now.items c.convert_test.new.steps.items c.in-Test.atom c.in-Test.ty c.in-Test.case c.in-Test.others c.deref-in-Test.result.now c.in-Test.is
    c.deref-in-Test.ensures.value (p strings n F T h))
    c.convert_test.ensures.made

pub convert_step-returns-in_ok-push_handle-in-Ok-clause-made : goal.convert_step-returns-in_ok-push_handle-in-Ok-clause-made
convert_step-returns-in_ok-push_handle-in-Ok-clause-made t c = λ strings n F T h.
    handle-step n c.args.types.now strings F T c.args.scope.now c.args.step.now c.args.steps.now.items c.push_handle.new.steps.items c.in-Handle.binding c.in-Handle.body c.in-Handle.packet c.in-Handle.handler c.deref-in-Handle.result.now
    c.deref-in-Handle-2.result.now c.in-Handle.is c.deref-in-Handle.ensures c.deref-in-Handle-2.ensures
    (handle-known n c.args.types.now strings F T c.args.scope.now c.convert_boxed-in-Handle.new.scope c.args.steps.now.items c.push_handle.new.steps.items _ _ _ _ _ _ _ _ c.in_ok-name-in-Handle.ensures c.in_ok-raised-in-Handle.ensures
    (ok-at _ _ _ c.in-Ok.ensures.first c.convert_boxed-in-Handle.ensures.made strings n F T h) (ok-at _ _ _ c.in-Ok.ensures.first c.convert_boxed-in-Handle.ensures.scope)
    (ok-at _ _ _ c.in-Ok.ensures.second c.convert_handler.ensures.made strings n F T h) c.in_ok-push_handle-in-Ok.ensures)

-- Arms

pub convert_opened-returns-clause-made : goal.convert_opened-returns-clause-made
convert_opened-returns-clause-made t c = λ strings n F T h.
    opened-made n c.args.types.now strings F T c.args.scope.now c.bind_case.new.scope c.args.atom c.args.arm.now c.new-steps.result.items c.push_opened.new.steps.items _ (tree_of c.in_ok-body.body) c.in_ok-onto.ensures c.new-steps.ensures.items
    c.in_ok-push_opened.ensures (c.in_ok-body.ensures.made strings n F T h) (c.in_ok-bind_case.ensures c.args.types.now strings)

pub convert_opened-returns-clause-scope : goal.convert_opened-returns-clause-scope
convert_opened-returns-clause-scope t c =
    case-left c.args.types.now (case_of (reading c.args.types.now []) c.args.arm.now.case) c.args.scope.now c.convert.new.scope c.leave_to.new.self c.len-len.result c.len-len.ensures
    (c.in_ok-body.ensures.scope ∙ c.in_ok-bind_case.ensures c.args.types.now []) c.leave_to.ensures

pub convert_cases-returns-then-not-is_test-clause-made : goal.convert_cases-returns-then-not-is_test-clause-made
convert_cases-returns-then-not-is_test-clause-made t c = λ strings n F T h.
    let no : c.is_test.result ≡ false = search rules in
    cases-stop n c.args.types.now strings F T c.args.scope.now c.args.atom c.args.ty c.args.arms.now c.loop-i.i c.loop-i.scope [] c.loop-i.steps.items _ (tree_of c.in_ok-end.end) refl c.loop-i.invariant.scope c.in_ok-onto.ensures
    (c.in_ok-end.ensures.made strings n F T h
    (no-test n c.args.types.now strings F T c.args.scope.now c.args.atom c.args.ty c.args.arms.now c.loop-i.i c.index-arms-i.result c.index-arms-i.result c.loop-i-test.true c.index-arms-i.is (sym c.is_test.ensures ∙ no)))
    (c.loop-i.invariant.made strings n F T h)

pub convert_cases-loop-i-preserved : goal.convert_cases-loop-i-preserved
convert_cases-loop-i-preserved t c =
    let yes : c.is_test.result ≡ true = search rules in
    record {
      made = λ strings n F T h.
          cases-next n c.args.types.now strings F T c.args.scope.now c.args.atom c.args.ty c.args.arms.now c.loop-i.i c.index-arms-i.result c.index-arms-i.result c.loop-i-test.true c.index-arms-i.is c.loop-i.scope []
          c.loop-i.steps.items c.push_unless.new.steps.items (tree_of c.in_ok-body.body) (sym c.is_test.ensures ∙ yes) c.loop-i.invariant.scope (c.in_ok-body.ensures.made strings n F T h)
          (c.in_ok-push_unless.ensures c.args.types.now strings n F T h) (c.loop-i.invariant.made strings n F T h);
      scope = c.in_ok-body.ensures.scope ∙ c.loop-i.invariant.scope;
    }

pub convert_cases-returns-clause-made : goal.convert_cases-returns-clause-made
convert_cases-returns-clause-made t c = λ strings n F T h.
    cases-all n c.args.types.now strings F T c.args.scope.now c.args.atom c.args.ty c.args.arms.now c.loop-i.i [] c.loop-i.steps.items _ c.loop-i-test.false refl c.in_ok-onto-2.ensures (c.loop-i.invariant.made strings n F T h)

pub convert_constructors-returns-then-not-is_constructor-clause-made : goal.convert_constructors-returns-then-not-is_constructor-clause-made
convert_constructors-returns-then-not-is_constructor-clause-made t c = λ strings n F T h.
    let no : c.is_constructor.result ≡ false = search rules in
    tags-stop n c.args.types.now strings F T c.args.scope.now c.args.atom c.args.ty c.args.arms.now c.args.from c.loop-i.i c.index-arms-i.result c.index-arms-i.result c.loop-i-test.true c.index-arms-i.is c.loop-i.made.items
    (sym c.is_constructor.ensures ∙ no) (c.loop-i.invariant.made strings n F T h)

pub convert_constructors-loop-i-preserved : goal.convert_constructors-loop-i-preserved
convert_constructors-loop-i-preserved t c =
    let yes : c.is_constructor.result ≡ true = search rules in
    record {
      made = λ strings n F T h.
          tags-next n c.args.types.now strings F T c.args.scope.now c.args.atom c.args.ty c.args.arms.now c.args.from c.loop-i.i c.index-arms-i.result c.index-arms-i.result c.loop-i-test.true c.index-arms-i.is c.loop-i.scope
          c.loop-i.made.items c.push.new.self.items (record { tag = c.in_ok-tag.tag; body = c.in_ok-body.body }) c.in_ok-tag.tag c.in_ok-body.body (sym c.is_constructor.ensures ∙ yes) c.loop-i.invariant.scope
          (c.in_ok-tag.ensures c.args.types.now h.places) (c.in_ok-body.ensures.made strings n F T h) refl refl c.in_ok-push.ensures.items (c.loop-i.invariant.made strings n F T h);
      scope = c.in_ok-body.ensures.scope ∙ c.loop-i.invariant.scope;
    }

pub convert_constructors-returns-clause-made : goal.convert_constructors-returns-clause-made
convert_constructors-returns-clause-made t c = λ strings n F T h.
    tags-all n c.args.types.now strings F T c.args.scope.now c.args.atom c.args.ty c.args.arms.now c.args.from c.loop-i.i c.loop-i.made.items c.loop-i-test.false (c.loop-i.invariant.made strings n F T h)

pub convert_end-returns-then-is_constructor-clause-made : goal.convert_end-returns-then-is_constructor-clause-made
convert_end-returns-then-is_constructor-clause-made t c = λ strings n F T h none.
    let lt : c.args.at < length c.args.arms.now = (let q = c.if-at-arms.false in omega (arith, q)) in
    end-tags n c.args.types.now strings F T c.args.scope.now c.args.atom c.args.ty c.args.arms.now c.args.at c.index-arms-at.result c.index-arms-at.result lt c.index-arms-at.is c.in_ok-cell.cell c.in_ok-others.others
    (sym c.is_constructor.ensures ∙ c.if-is_constructor.true) c.in_ok-cell.ensures (c.in_ok-others.ensures.made strings n F T h)

pub convert_end-returns-clause-made : goal.convert_end-returns-clause-made
convert_end-returns-clause-made t c =
    let lt : c.args.at < length c.args.arms.now = (let q = c.if-at-arms.false in omega (arith, q)) in
    if-ok _ _ c.convert_opened.result
    (λ m p strings n F T h none.
    end-all n c.args.types.now strings F T c.args.scope.now c.args.atom c.args.ty c.args.arms.now c.args.at c.index-arms-at.result c.index-arms-at.result lt c.index-arms-at.is (tree_of m)
    (sym c.is_constructor.ensures ∙ c.if-is_constructor.false) none (p strings n F T h))
    c.convert_opened.ensures.made

pub convert_test-returns-then-is_test-clause-made : goal.convert_test-returns-then-is_test-clause-made
convert_test-returns-then-is_test-clause-made t c = λ strings n F T h.
    test-when n c.args.types.now strings F T c.args.scope.now c.args.atom c.args.ty c.args.case c.args.others.now c.args.steps.now.items c.push_when.new.steps.items c.push_opened.new.steps.items c.in_ok-push_opened.ensures
    (sym c.is_test.ensures ∙ c.if-is_test.true) (tree_of c.in_ok-other.other) (c.in_ok-other.ensures.made strings n F T h) (c.in_ok-push_when.ensures c.args.types.now strings n F T h)

pub convert_test-returns-then-is_constructor-clause-made : goal.convert_test-returns-then-is_constructor-clause-made
convert_test-returns-then-is_constructor-clause-made t c = λ strings n F T h.
    test-case n c.args.types.now strings F T c.args.scope.now c.args.atom c.args.ty c.args.case c.args.others.now c.args.steps.now.items c.push_case.new.steps.items c.push_opened-then-is_constructor.new.steps.items c.in_ok-push_opened-2.ensures
    (sym c.is_constructor.ensures ∙ c.if-is_constructor.true) (arms_of (map arm_of c.in_ok-arms.arms.items)) (c.in_ok-arms.ensures.made strings n F T h) (c.in_ok-push_case.ensures c.args.types.now h.places)
