use Rattle.std.proofs.Common.{◌≡◌, ◌+◌, ◌-◌, ◌<◌, ◌∙◌, ◌++◌, ◌∷◌, [], length, ap, sym, refl, arith}
use Rattle.ir_plain.specs.Tree as clean
use Rattle.mono_bound.specs.Reads.{mono_of}
use Rattle.eta_expand.specs.Expand.{news, expand}
use Rattle.eta_parts.specs.Reads.{mono_step}
use Rattle.eta_code.specs.Steps.{binds, functions_in}
use Rattle.eta_parts.proofs.Alone.{if-ok}
use Rattle.eta_code.proofs.Building.{attempts-none, arms-none, functions-none, attempts-next, arms-next, functions-next, attempts-made, attempts-counted, arms-made, arms-counted, functions-made, functions-counted}
use Rattle.eta_code.proofs.Nodes.{arm-made, arm-counted, function-made, function-counted, group-made, group-counted}
use Rattle.eta_code.proofs.Walks.{ok-at, steps-node, steps-news, steps-names, switch-node, switch-news, first-node, first-news, block-node, block-news, handle-node, handle-news, group-node, group-news-are, test-node, test-news}
use Rattle.eta_code.proofs.Stepping.{left-scope, case-names-front, parameters-front, functions-front, stepped-made, stepped-news, stepped-names, stepped-seen, step-next, step-back, names-back, back-done, whole-made}
use Rattle.eta_code.proofs.walk.+walk.Goals as goal

pub walk_all-loop-i-preserved : goal.walk_all-loop-i-preserved
walk_all-loop-i-preserved t c = record {
  made = λ strings d.
      attempts-next c.args.types.now strings c.args.names.now c.args.attempts.now c.loop-i.i c.index-attempts-i.result c.index-attempts-i.result c.loop-i.made.items c.push.new.self.items c.in_ok-new.new c.args.next.now c.loop-i.next c.walk.new.next
      c.loop-i.names d c.loop-i-test.true c.index-attempts-i.is c.in_ok-push.ensures.items c.loop-i.invariant.names (c.in_ok-new.ensures.made strings) (c.in_ok-new.ensures.news strings) (c.loop-i.invariant.made strings d);
  names = c.in_ok-new.ensures.names ∙ c.loop-i.invariant.names;
}

pub walk_arms-loop-i-preserved : goal.walk_arms-loop-i-preserved
walk_arms-loop-i-preserved t c = record {
  made = λ strings.
      arms-next c.args.types.now strings c.args.names.now c.args.arms.now c.loop-i.i c.index-arms-i.result c.index-arms-i.result c.loop-i.made.items c.push.new.self.items c.in_ok-new.new c.args.next.now c.loop-i.next c.walk_arm.new.next
      c.loop-i.names clean.no_arms c.loop-i-test.true c.index-arms-i.is c.in_ok-push.ensures.items c.loop-i.invariant.names (c.in_ok-new.ensures.made strings) (c.in_ok-new.ensures.news strings) (c.loop-i.invariant.made strings);
  names = c.in_ok-new.ensures.names ∙ c.loop-i.invariant.names;
}

pub walk_functions-loop-i-preserved : goal.walk_functions-loop-i-preserved
walk_functions-loop-i-preserved t c = record {
  made = λ strings.
      functions-next c.args.types.now strings c.args.names.now c.args.functions.now c.loop-i.i c.index-functions-i.result c.index-functions-i.result c.loop-i.made.items c.push.new.self.items c.in_ok-new.new c.args.next.now c.loop-i.next
      c.walk_member.new.next c.loop-i.names clean.no_funs c.loop-i-test.true c.index-functions-i.is c.in_ok-push.ensures.items c.loop-i.invariant.names (c.in_ok-new.ensures.made strings) (c.in_ok-new.ensures.news strings) (c.loop-i.invariant.made strings);
  names = c.in_ok-new.ensures.names ∙ c.loop-i.invariant.names;
}

pub walk_all-returns-clause-made : goal.walk_all-returns-clause-made
walk_all-returns-clause-made t c = λ strings d. attempts-made c.args.types.now strings c.args.names.now c.args.attempts.now c.loop-i.i c.loop-i.made.items c.args.next.now c.loop-i.next d c.loop-i-test.false (c.loop-i.invariant.made strings d)

pub walk_all-returns-clause-news : goal.walk_all-returns-clause-news
walk_all-returns-clause-news t c = λ strings d. attempts-counted c.args.types.now strings c.args.names.now c.args.attempts.now c.loop-i.i c.loop-i.made.items c.args.next.now c.loop-i.next d c.loop-i-test.false (c.loop-i.invariant.made strings d)

pub walk_arms-returns-clause-made : goal.walk_arms-returns-clause-made
walk_arms-returns-clause-made t c = λ strings. arms-made c.args.types.now strings c.args.names.now c.args.arms.now c.loop-i.i c.loop-i.made.items c.args.next.now c.loop-i.next c.loop-i-test.false (c.loop-i.invariant.made strings)

pub walk_arms-returns-clause-news : goal.walk_arms-returns-clause-news
walk_arms-returns-clause-news t c = λ strings. arms-counted c.args.types.now strings c.args.names.now c.args.arms.now c.loop-i.i c.loop-i.made.items c.args.next.now c.loop-i.next c.loop-i-test.false (c.loop-i.invariant.made strings)

pub walk_functions-returns-clause-made : goal.walk_functions-returns-clause-made
walk_functions-returns-clause-made t c = λ strings. functions-made c.args.types.now strings c.args.names.now c.args.functions.now c.loop-i.i c.loop-i.made.items c.args.next.now c.loop-i.next c.loop-i-test.false (c.loop-i.invariant.made strings)

pub walk_functions-returns-clause-news : goal.walk_functions-returns-clause-news
walk_functions-returns-clause-news t c = λ strings. functions-counted c.args.types.now strings c.args.names.now c.args.functions.now c.loop-i.i c.loop-i.made.items c.args.next.now c.loop-i.next c.loop-i-test.false (c.loop-i.invariant.made strings)

pub walk_steps-loop-i-preserved : goal.walk_steps-loop-i-preserved
walk_steps-loop-i-preserved t c = λ strings.
    step-next c.args.types.now strings c.args.steps.now c.loop-i.i c.index-steps-i.result c.index-steps-i.result c.args.names.now c.loop-i.names c.args.next.now c.loop-i.next c.walk_step.new.next c.args.made.now.items c.loop-i.made.items
    c.push-in-loop-i.new.self.items c.in_ok-new.new c.args.seen.now.items c.loop-i.seen.items c.push.new.self.items c.loop-i-test.true c.index-steps-i.is (c.loop-i.invariant strings) c.bind_step.new.names c.in_ok-push-2.ensures.items
    (c.in_ok-new.ensures.made strings) (c.in_ok-new.ensures.news strings)
    (c.in_ok-bind_step.ensures c.args.types.now strings ∙ ap (λ M. binds c.args.types.now (mono_step c.args.types.now strings c.index-steps-i.result) M) c.in_ok-new.ensures.names)
    (c.in_ok-push.ensures.items ∙ ap (λ n. c.loop-i.seen.items ++ n ∷ []) c.len.ensures)

pub walk_others-loop-left-preserved : goal.walk_others-loop-left-preserved
walk_others-loop-left-preserved t c =
    let w = c.loop-left.invariant.within in
    let q = c.loop-left-test.true in
    let m : c.loop-left.left ≡ (c.loop-left.left - 1) + 1 = omega (arith, q) in
    let lt : c.loop-left.left - 1 < length c.args.steps.now = omega (arith, w, q) in
    record {
      within = omega (arith, w);
      back = λ strings N n h.
          let o = c.loop-left.invariant.back strings N n h in
          let v = names-back c.args.types.now strings c.args.steps.now c.loop-left.left (c.loop-left.left - 1) c.index-steps-left.result c.index-steps-left.result N c.loop-left.names n c.args.next.now c.loop-left.next c.loop-left.made.items m lt c.index-steps-left.is o
          c.mark_at-mark.result 0 c.truncate.new.self c.args.seen.now c.mark_at-mark.ensures h.seen_are c.truncate.ensures in
          step-back c.args.types.now strings c.args.steps.now c.loop-left.left (c.loop-left.left - 1) c.index-steps-left.result c.index-steps-left.result N c.loop-left.names n c.args.next.now c.loop-left.next c.loop-left.made.items m lt c.index-steps-left.is o
          c.walk_back.new.next c.truncate.new.self c.walk_back.new.names c.in_ok-found.found c.put_found.new.made.items v c.in_ok-found.ensures.names (c.in_ok-found.ensures.made strings) (c.in_ok-found.ensures.news strings) c.put_found.ensures;
    }

pub walk_others-returns-clause-made : goal.walk_others-returns-clause-made
walk_others-returns-clause-made t c = λ strings N n h.
    let z : c.loop-left.left ≡ 0 = (let q = c.loop-left-test.false in omega (arith, q)) in
    whole-made c.args.types.now strings c.args.steps.now N c.loop-left.names n c.args.next.now c.loop-left.next c.loop-left.made.items
    (back-done c.args.types.now strings c.args.steps.now c.loop-left.left N c.loop-left.names n c.args.next.now c.loop-left.next c.loop-left.made.items z (c.loop-left.invariant.back strings N n h))

pub walk_others-returns-clause-news : goal.walk_others-returns-clause-news
walk_others-returns-clause-news t c = λ strings N n h.
    let z : c.loop-left.left ≡ 0 = (let q = c.loop-left-test.false in omega (arith, q)) in
    (back-done c.args.types.now strings c.args.steps.now c.loop-left.left N c.loop-left.names n c.args.next.now c.loop-left.next c.loop-left.made.items z (c.loop-left.invariant.back strings N n h)).news_are

pub walk_others-returns-clause-names : goal.walk_others-returns-clause-names
walk_others-returns-clause-names t c = λ strings N n h.
    let z : c.loop-left.left ≡ 0 = (let q = c.loop-left-test.false in omega (arith, q)) in
    (back-done c.args.types.now strings c.args.steps.now c.loop-left.left N c.loop-left.names n c.args.next.now c.loop-left.next c.loop-left.made.items z (c.loop-left.invariant.back strings N n h)).names_are

-- Expressions

pub walk-returns-in_ok-walk_others-in-Steps-clause-made : goal.walk-returns-in_ok-walk_others-in-Steps-clause-made
walk-returns-in_ok-walk_others-in-Steps-clause-made t c = λ strings.
    steps-node c.args.types.now strings c.args.e.now c.in-Steps.steps c.in-Steps.rest c.deref.result.now c.deref-in-Steps-2.result.now c.deref-in-Steps.result.now c.args.names.now c.walk_steps.new.names c.walk_boxed.new.names c.args.next.now
    c.walk_steps.new.next c.walk_boxed.new.next c.new-made.result.items c.walk_steps.new.made.items c.new-seen.result.items c.walk_steps.new.seen.items c.deref-in-Steps-3.result.now c.in_ok-end-in-Steps.end c.in-Steps.is c.deref.ensures.value
    (c.deref-in-Steps-2.ensures.value ∙ sym c.deref.ensures.value) c.deref-in-Steps.ensures c.new-made.ensures.items c.new-seen.ensures.items (c.in_ok-walk_steps-in-Steps.ensures.made strings) (c.in_ok-walk_steps-in-Steps.ensures.news strings)
    (c.in_ok-walk_steps-in-Steps.ensures.names strings) (c.in_ok-walk_steps-in-Steps.ensures.seen strings) c.deref-in-Steps-3.ensures.value (c.in_ok-end-in-Steps.ensures.made strings) (c.in_ok-end-in-Steps.ensures.news strings)
    c.in_ok-end-in-Steps.ensures.names c.walk_others.new.made (c.in_ok-walk_others-in-Steps.ensures.made strings)

pub walk-returns-in_ok-walk_others-in-Steps-clause-news : goal.walk-returns-in_ok-walk_others-in-Steps-clause-news
walk-returns-in_ok-walk_others-in-Steps-clause-news t c = λ strings.
    steps-news c.args.types.now strings c.args.e.now c.in-Steps.steps c.in-Steps.rest c.deref.result.now c.deref-in-Steps-2.result.now c.deref-in-Steps.result.now c.args.names.now c.walk_steps.new.names c.walk_boxed.new.names c.args.next.now
    c.walk_steps.new.next c.walk_boxed.new.next c.new-made.result.items c.walk_steps.new.made.items c.new-seen.result.items c.walk_steps.new.seen.items c.deref-in-Steps-3.result.now c.in_ok-end-in-Steps.end c.in-Steps.is c.deref.ensures.value
    (c.deref-in-Steps-2.ensures.value ∙ sym c.deref.ensures.value) c.deref-in-Steps.ensures c.new-made.ensures.items c.new-seen.ensures.items (c.in_ok-walk_steps-in-Steps.ensures.made strings) (c.in_ok-walk_steps-in-Steps.ensures.news strings)
    (c.in_ok-walk_steps-in-Steps.ensures.names strings) (c.in_ok-walk_steps-in-Steps.ensures.seen strings) c.deref-in-Steps-3.ensures.value (c.in_ok-end-in-Steps.ensures.made strings) (c.in_ok-end-in-Steps.ensures.news strings)
    c.in_ok-end-in-Steps.ensures.names c.walk_others.new.next (c.in_ok-walk_others-in-Steps.ensures.news strings)

pub walk-returns-in_ok-walk_others-in-Steps-clause-names : goal.walk-returns-in_ok-walk_others-in-Steps-clause-names
walk-returns-in_ok-walk_others-in-Steps-clause-names t c =
    steps-names c.args.types.now [] c.args.e.now c.in-Steps.steps c.in-Steps.rest c.deref.result.now c.deref-in-Steps-2.result.now c.deref-in-Steps.result.now c.args.names.now c.walk_steps.new.names c.walk_boxed.new.names c.args.next.now
    c.walk_steps.new.next c.walk_boxed.new.next c.new-made.result.items c.walk_steps.new.made.items c.new-seen.result.items c.walk_steps.new.seen.items c.deref-in-Steps-3.result.now c.in_ok-end-in-Steps.end c.in-Steps.is c.deref.ensures.value
    (c.deref-in-Steps-2.ensures.value ∙ sym c.deref.ensures.value) c.deref-in-Steps.ensures c.new-made.ensures.items c.new-seen.ensures.items (c.in_ok-walk_steps-in-Steps.ensures.made []) (c.in_ok-walk_steps-in-Steps.ensures.news [])
    (c.in_ok-walk_steps-in-Steps.ensures.names []) (c.in_ok-walk_steps-in-Steps.ensures.seen []) c.deref-in-Steps-3.ensures.value (c.in_ok-end-in-Steps.ensures.made []) (c.in_ok-end-in-Steps.ensures.news [])
    c.in_ok-end-in-Steps.ensures.names c.walk_others.new.names (c.in_ok-walk_others-in-Steps.ensures.names [])

pub walk-returns-in_ok-arms-in-Switch-clause-made : goal.walk-returns-in_ok-arms-in-Switch-clause-made
walk-returns-in_ok-arms-in-Switch-clause-made t c = λ strings.
    switch-node c.args.types.now strings c.args.e.now c.in-Switch.atom c.in-Switch.ty c.in-Switch.arms c.in_ok-arms-in-Switch.arms c.deref-in-Switch.result.now c.args.names.now c.args.next.now c.in-Switch.is c.deref-in-Switch.ensures.value
    (c.in_ok-arms-in-Switch.ensures.made strings)

pub walk-returns-in_ok-arms-in-Switch-clause-news : goal.walk-returns-in_ok-arms-in-Switch-clause-news
walk-returns-in_ok-arms-in-Switch-clause-news t c = λ strings.
    switch-news c.args.types.now strings c.args.e.now c.in-Switch.atom c.in-Switch.ty c.in-Switch.arms c.deref-in-Switch.result.now c.args.names.now c.args.next.now c.walk_arms.new.next c.in-Switch.is c.deref-in-Switch.ensures.value
    (c.in_ok-arms-in-Switch.ensures.news strings)

pub walk-returns-in-Ok-clause-made : goal.walk-returns-in-Ok-clause-made
walk-returns-in-Ok-clause-made t c = λ strings.
    first-node c.args.types.now strings c.args.e.now c.in-First.attempts c.in-Ok.attempts c.in-First.last c.in-Ok.last c.deref-in-First.result.now c.deref-in-First-2.result.now c.args.names.now c.walk_all.new.names c.args.next.now c.walk_all.new.next
    c.in-First.is c.deref-in-First.ensures.value c.deref-in-First-2.ensures (ok-at _ _ _ c.in-Ok.ensures.first c.walk_all.ensures.names) (ok-at _ _ _ c.in-Ok.ensures.first c.walk_all.ensures.made strings)
    (ok-at _ _ _ c.in-Ok.ensures.second c.walk_boxed-in-First.ensures.made strings)

pub walk-returns-in-Ok-clause-news : goal.walk-returns-in-Ok-clause-news
walk-returns-in-Ok-clause-news t c = λ strings.
    first-news c.args.types.now strings c.args.e.now c.in-First.attempts c.in-First.last c.deref-in-First.result.now c.deref-in-First-2.result.now c.args.names.now c.walk_all.new.names c.args.next.now c.walk_all.new.next c.walk_boxed-in-First.new.next
    c.in-First.is c.deref-in-First.ensures.value c.deref-in-First-2.ensures (ok-at _ _ _ c.in-Ok.ensures.first c.walk_all.ensures.names) (ok-at _ _ _ c.in-Ok.ensures.first c.walk_all.ensures.news strings)
    (ok-at _ _ _ c.in-Ok.ensures.second c.walk_boxed-in-First.ensures.news strings)

pub walk_boxed-returns-clause-made : goal.walk_boxed-returns-clause-made
walk_boxed-returns-clause-made t c = if-ok _ _ c.boxed.result (λ b h strings. ap (mono_of c.args.types.now strings) h ∙ c.in_ok-made.ensures.made strings) c.boxed.ensures

-- Lists of parts

pub walk_all-loop-i-init : goal.walk_all-loop-i-init
walk_all-loop-i-init t c = record {
  made = λ strings d. attempts-none c.args.types.now strings c.args.names.now c.args.attempts.now c.new-made.result.items c.args.next.now d c.new-made.ensures.items;
  names = refl;
}

pub walk_arms-loop-i-init : goal.walk_arms-loop-i-init
walk_arms-loop-i-init t c = record {
  made = λ strings. arms-none c.args.types.now strings c.args.names.now c.args.arms.now c.new-made.result.items c.args.next.now c.new-made.ensures.items;
  names = refl;
}

pub walk_functions-loop-i-init : goal.walk_functions-loop-i-init
walk_functions-loop-i-init t c = record {
  made = λ strings. functions-none c.args.types.now strings c.args.names.now c.args.functions.now c.new-made.result.items c.args.next.now c.new-made.ensures.items;
  names = refl;
}

pub walk_steps-returns-clause-made : goal.walk_steps-returns-clause-made
walk_steps-returns-clause-made t c = λ strings.
    stepped-made c.args.types.now strings c.args.steps.now c.loop-i.i c.args.names.now c.loop-i.names c.args.next.now c.loop-i.next c.args.made.now.items c.loop-i.made.items c.args.seen.now.items c.loop-i.seen.items c.loop-i-test.false (c.loop-i.invariant strings)

pub walk_steps-returns-clause-news : goal.walk_steps-returns-clause-news
walk_steps-returns-clause-news t c = λ strings.
    stepped-news c.args.types.now strings c.args.steps.now c.loop-i.i c.args.names.now c.loop-i.names c.args.next.now c.loop-i.next c.args.made.now.items c.loop-i.made.items c.args.seen.now.items c.loop-i.seen.items c.loop-i-test.false (c.loop-i.invariant strings)

pub walk_steps-returns-clause-names : goal.walk_steps-returns-clause-names
walk_steps-returns-clause-names t c = λ strings.
    stepped-names c.args.types.now strings c.args.steps.now c.loop-i.i c.args.names.now c.loop-i.names c.args.next.now c.loop-i.next c.args.made.now.items c.loop-i.made.items c.args.seen.now.items c.loop-i.seen.items c.loop-i-test.false (c.loop-i.invariant strings)

pub walk_steps-returns-clause-seen : goal.walk_steps-returns-clause-seen
walk_steps-returns-clause-seen t c = λ strings.
    stepped-seen c.args.types.now strings c.args.steps.now c.loop-i.i c.args.names.now c.loop-i.names c.args.next.now c.loop-i.next c.args.made.now.items c.loop-i.made.items c.args.seen.now.items c.loop-i.seen.items c.loop-i-test.false (c.loop-i.invariant strings)

-- Parts with a scope of their own

pub walk_arm-returns-clause-made : goal.walk_arm-returns-clause-made
walk_arm-returns-clause-made t c = λ strings.
    arm-made c.args.types.now strings c.args.arm.now (record { case = c.args.arm.now.case; body = c.in_ok-body.body }) c.args.names.now c.bind_case.new.names c.args.next.now refl c.in_ok-bind_case.ensures (c.in_ok-body.ensures.made strings)

pub walk_arm-returns-clause-news : goal.walk_arm-returns-clause-news
walk_arm-returns-clause-news t c = λ strings.
    arm-counted c.args.types.now strings c.args.arm.now c.args.names.now c.bind_case.new.names c.args.next.now c.walk.new.next c.in_ok-bind_case.ensures (c.in_ok-body.ensures.news strings)

pub walk_arm-returns-clause-names : goal.walk_arm-returns-clause-names
walk_arm-returns-clause-names t c =
    let r = case-names-front c.args.arm.now.case c.args.names.now in
    left-scope r.0 c.args.names.now c.bind_case.new.names c.walk.new.names c.truncate.new.self c.len-len.result (c.in_ok-bind_case.ensures ∙ r.1) c.in_ok-body.ensures.names c.len-len.ensures c.truncate.ensures

pub walk_function-returns-clause-made : goal.walk_function-returns-clause-made
walk_function-returns-clause-made t c = λ strings.
    function-made c.args.types.now strings c.args.parameters.now c.args.last (mono_of c.args.types.now strings c.args.body.now) (mono_of c.args.types.now strings c.in_ok-made.made) c.args.names.now c.bind_parameters.new.names c.args.next.now
    c.in_ok-bind_parameters.ensures (c.in_ok-made.ensures.made strings)

pub walk_function-returns-clause-news : goal.walk_function-returns-clause-news
walk_function-returns-clause-news t c = λ strings.
    function-counted c.args.types.now strings c.args.parameters.now c.args.last (mono_of c.args.types.now strings c.args.body.now) c.args.names.now c.bind_parameters.new.names c.args.next.now c.walk.new.next c.in_ok-bind_parameters.ensures
    (c.in_ok-made.ensures.news strings)

pub walk_function-returns-clause-names : goal.walk_function-returns-clause-names
walk_function-returns-clause-names t c =
    let r = parameters-front c.args.parameters.now c.args.last c.args.names.now in
    left-scope r.0 c.args.names.now c.bind_parameters.new.names c.walk.new.names c.truncate.new.self c.len-len.result (c.in_ok-bind_parameters.ensures ∙ r.1) c.in_ok-made.ensures.names c.len-len.ensures c.truncate.ensures

pub walk_group-returns-clause-made : goal.walk_group-returns-clause-made
walk_group-returns-clause-made t c = λ strings.
    group-made c.args.types.now strings c.args.functions.now (functions_in c.args.types.now strings c.in_ok-made.made.items) c.args.names.now c.bind_functions.new.names c.args.next.now c.in_ok-bind_functions.ensures (c.in_ok-made.ensures.made strings)

pub walk_group-returns-clause-news : goal.walk_group-returns-clause-news
walk_group-returns-clause-news t c = λ strings.
    group-counted c.args.types.now strings c.args.functions.now c.args.names.now c.bind_functions.new.names c.args.next.now c.walk_functions.new.next c.in_ok-bind_functions.ensures (c.in_ok-made.ensures.news strings)

pub walk_group-returns-clause-names : goal.walk_group-returns-clause-names
walk_group-returns-clause-names t c =
    let r = functions-front c.args.functions.now c.args.names.now in
    left-scope r.0 c.args.names.now c.bind_functions.new.names c.walk_functions.new.names c.truncate.new.self c.len-len.result (c.in_ok-bind_functions.ensures ∙ r.1) c.in_ok-made.ensures.names c.len-len.ensures c.truncate.ensures

pub walk_handler-returns-clause-made : goal.walk_handler-returns-clause-made
walk_handler-returns-clause-made t c = λ strings.
    c.in_ok-made.ensures.made strings ∙ ap (λ N. expand c.args.types.now N c.args.next.now (mono_of c.args.types.now strings c.args.handler.now)) c.in_ok-bind.ensures.bound

pub walk_handler-returns-clause-news : goal.walk_handler-returns-clause-news
walk_handler-returns-clause-news t c = λ strings.
    c.in_ok-made.ensures.news strings ∙ ap (λ N. c.args.next.now + news c.args.types.now N (mono_of c.args.types.now strings c.args.handler.now)) c.in_ok-bind.ensures.bound

-- Steps

pub walk_step-returns-in_ok-body-in-Block-clause-made : goal.walk_step-returns-in_ok-body-in-Block-clause-made
walk_step-returns-in_ok-body-in-Block-clause-made t c = λ strings.
    block-node c.args.types.now strings c.args.step.now c.in-Block.binding c.in-Block.body c.in_ok-body-in-Block.body c.deref-in-Block.result.now c.args.names.now c.args.next.now c.in-Block.is c.deref-in-Block.ensures (c.in_ok-body-in-Block.ensures.made strings)

pub walk_step-returns-in_ok-body-in-Block-clause-news : goal.walk_step-returns-in_ok-body-in-Block-clause-news
walk_step-returns-in_ok-body-in-Block-clause-news t c = λ strings.
    block-news c.args.types.now strings c.args.step.now c.in-Block.binding c.in-Block.body c.deref-in-Block.result.now c.args.names.now c.args.next.now c.walk_boxed.new.next c.in-Block.is c.deref-in-Block.ensures (c.in_ok-body-in-Block.ensures.news strings)

pub walk_step-returns-in-Ok-clause-made : goal.walk_step-returns-in-Ok-clause-made
walk_step-returns-in-Ok-clause-made t c = λ strings.
    handle-node c.args.types.now strings c.args.step.now c.in-Handle.binding c.in-Handle.body c.in-Ok.body c.in-Handle.packet c.in-Handle.handler c.in-Ok.handler c.deref-in-Handle.result.now c.deref-in-Handle-2.result.now c.args.names.now
    c.walk_boxed-in-Handle.new.names c.args.next.now c.walk_boxed-in-Handle.new.next c.in-Handle.is c.deref-in-Handle.ensures c.deref-in-Handle-2.ensures (ok-at _ _ _ c.in-Ok.ensures.first c.walk_boxed-in-Handle.ensures.names)
    (ok-at _ _ _ c.in-Ok.ensures.first c.walk_boxed-in-Handle.ensures.made strings) (ok-at _ _ _ c.in-Ok.ensures.first c.walk_boxed-in-Handle.ensures.news strings) (ok-at _ _ _ c.in-Ok.ensures.second c.walk_handler.ensures.made strings)

pub walk_step-returns-in-Ok-clause-news : goal.walk_step-returns-in-Ok-clause-news
walk_step-returns-in-Ok-clause-news t c = λ strings.
    handle-news c.args.types.now strings c.args.step.now c.in-Handle.binding c.in-Handle.body c.in-Handle.packet c.in-Handle.handler c.deref-in-Handle.result.now c.deref-in-Handle-2.result.now c.args.names.now c.walk_boxed-in-Handle.new.names
    c.args.next.now c.walk_boxed-in-Handle.new.next c.walk_handler.new.next c.in-Handle.is c.deref-in-Handle.ensures c.deref-in-Handle-2.ensures (ok-at _ _ _ c.in-Ok.ensures.first c.walk_boxed-in-Handle.ensures.names)
    (ok-at _ _ _ c.in-Ok.ensures.first c.walk_boxed-in-Handle.ensures.news strings) (ok-at _ _ _ c.in-Ok.ensures.second c.walk_handler.ensures.news strings)

pub walk_step-returns-in_ok-functions-in-Group-clause-made : goal.walk_step-returns-in_ok-functions-in-Group-clause-made
walk_step-returns-in_ok-functions-in-Group-clause-made t c = λ strings.
    group-node c.args.types.now strings c.args.step.now c.in-Group.parameters c.in-Group.functions c.in_ok-functions-in-Group.functions c.deref-in-Group.result.now c.args.names.now c.args.next.now c.in-Group.is c.deref-in-Group.ensures.value
    (c.in_ok-functions-in-Group.ensures.made strings)

pub walk_step-returns-in_ok-functions-in-Group-clause-news : goal.walk_step-returns-in_ok-functions-in-Group-clause-news
walk_step-returns-in_ok-functions-in-Group-clause-news t c = λ strings.
    group-news-are c.args.types.now strings c.args.step.now c.in-Group.parameters c.in-Group.functions c.deref-in-Group.result.now c.args.names.now c.args.next.now c.walk_group.new.next c.in-Group.is c.deref-in-Group.ensures.value
    (c.in_ok-functions-in-Group.ensures.news strings)

pub walk_back-returns-in_ok-others-in-Test-clause-made : goal.walk_back-returns-in_ok-others-in-Test-clause-made
walk_back-returns-in_ok-others-in-Test-clause-made t c = λ strings g.
    test-node c.args.types.now strings c.args.step.now c.in-Test.atom c.in-Test.ty c.in-Test.case c.in-Test.others c.in_ok-others-in-Test.others c.deref.result.now c.args.names.now c.args.next.now g c.in-Test.is c.deref.ensures.value
    (c.in_ok-others-in-Test.ensures.made strings)

pub walk_back-returns-in_ok-others-in-Test-clause-news : goal.walk_back-returns-in_ok-others-in-Test-clause-news
walk_back-returns-in_ok-others-in-Test-clause-news t c = λ strings.
    test-news c.args.types.now strings c.args.step.now c.in-Test.atom c.in-Test.ty c.in-Test.case c.in-Test.others c.deref.result.now c.args.names.now c.args.next.now c.walk_arms.new.next c.in-Test.is c.deref.ensures.value (c.in_ok-others-in-Test.ensures.news strings)
