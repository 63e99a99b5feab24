use Rattle.std.proofs.Common.{rules, ◌≡◌, suc, ◌+◌, ◌-◌, ◌<◌, [], ◌∷◌, ◌++◌, ◌∙◌, true, map, take, drop, length, length-append, get_or, List, Vec, Global, ap, refl, arith}
use Rattle.std.proofs.lemmas.List.{drop_all, take_all}
use Rattle.std.proofs.Math.ListN.{set}
use Rattle.ir_code.specs.declared.instr.Instr.TheVariants.{Acc, PushHandler, Raise, Ret}
use Rattle.first_tables.specs.TablesOf.{callee_of, operands_of, plain_of, tables_of, test_of}
use Rattle.ssa_tree.specs.TreeOf.{ArmTree, arm_of, step_of, tree_of, unless_step}
use Rattle.ir_ssa.specs.Tree as s
use Rattle.machine_code.specs.Code.{args_of, callee_at, depth_in, depths_in, exits_of, no_spot, slot}
use Rattle.machine_rows.specs.Table.{rows}
use Rattle.walk_labels.specs.Labels.{Frame, blank, bound, guarded, labelled, numbers_of, opened_all}
use Rattle.walk_labels.specs.Marks.{Mark, past_guarded, past_heads}
use Rattle.emit_code.specs.PlacesOf.{places_of}
use Rattle.emit_code.specs.Tags.{choice_of}
use Rattle.emit_parts.specs.declared.pass.Spot.{Spot}
use Rattle.emit_parts.specs.Labels.{label_in, spot_of, spots_of}
use Rattle.emit_walk.specs.Marks.{frame_of, mark_of}
use Rattle.emit_walk.specs.Walk.{Env, Kept, env_of, after_all}
use Rattle.walk_labels.proofs.Sizes.{blank-length}
use Rattle.walk_labels.proofs.Marks.{err-then, frame-is, guard-walked, guarded-told, handler-told, labelled-walked, leaf-walked, ok-then}
use Rattle.walk_labels.proofs.MarkSteps.{exits-pop, exits-push}
use Rattle.walk_labels.proofs.MarkBlocks.{labelled-settled, labelled-told, under-settled, under-told, under-walked}
use Rattle.walk_labels.proofs.Loops.{heads-start, heads-marks, heads-numbers, heads-told, ends-start, ends-turn, ends-turn-told, ends-finish, arms-start, arms-turn as mark-turn, arms-turn-told, arms-finish, body-told}
use Rattle.emit_walk.proofs.WalkMarks.{arm-test-long, goto-long, grown, steps-heads, steps-mark, steps-pass, steps-rest}
use Rattle.emit_walk.proofs.Nodes.{call-long, case-asks, case-ends, case-last, case-marked, case-numbered, case-passes, case-settles, late-long, make-long, passed, plain-long, row-long, switch-asks, switch-marked, switch-passes, switch-settles, tail-long, test-long, under-frame}
use Rattle.emit_walk.proofs.Opening.{again-asks, again-begins, attempt-begins, attempt-numbered, call-begins, label-asks, label-begins, make-begins, again-numbered, call-numbered, label-numbered, make-numbered, plain-begins, plain-numbered, turn-begins, turn-numbered, unless-numbered, unless-asks, unless-begins, unless-settles, when-begins, when-numbered}
use Rattle.emit_walk.proofs.Closing.{again-ends, attempt-asks, attempt-ends, attempt-settles, label-ends, same-ends, variable-ends, when-asks, when-ends, when-settles}
use Rattle.emit_walk.proofs.Walking.{label-is, label-code, heads-step, heads-code, heads-scope, heads-begin, arms-end, ends-kept, ends-code-step, ends-stand-step}
use Rattle.emit_walk.proofs.Parts.{unless-before}
use Rattle.emit_walk.proofs.Rolls.{arm-is, attempt-at, goto-at, guard-at, jump-at, raise-at, ret-at, tail-at, unless-at}
use Rattle.emit_walk.proofs.Turns.{body-code, head-code}
use Rattle.emit_walk.proofs.Ends.{ends-start-code, ends-start-kept, ends-start-stand, labelled-by, ends-done-code, ends-done-kept, ends-done-stand, attempt-end-code, label-end-kept, again-end-kept, guard-bound}
use Rattle.emit_walk.proofs.Whole.{steps-code, steps-kept, switch-code, case-end-code, case-end-kept, case-end-stands, case-head-code, case-head-begins, guarded-whole, arms-turn}
use Rattle.emit_walk.proofs.Sizes.{steps-fall}
use Rattle.emit_walk.proofs.body.+walk.Goals as goal

-- Bodies.

pub emit_body-returns-in_ok-emit_body-in-Steps-clause-code : goal.emit_body-returns-in_ok-emit_body-in-Steps-clause-code
emit_body-returns-in_ok-emit_body-in-Steps-clause-code t c =
    steps-code (places_of c.args.tables.now c.args.at.now) c.rows_are_right.ensures (label_in c.args.at.now) c.emit_ends.result c.args.sure c.args.body.now
    c.in-Steps.steps c.in-Steps.rest
    c.deref.result.now c.deref-in-Steps-2.result.now c.deref-in-Steps.result.now c.in_ok-numbers-in-Steps.numbers.items c.deref-in-Steps-3.result.now
    (env_of c.args.pass.now) (env_of c.emit_heads.new.pass) (env_of c.emit_body.new.pass)
    c.args.pass.now.code.items c.emit_heads.new.pass.code.items c.emit_body.new.pass.code.items c.emit_ends.new.pass.code.items
    c.in-Steps.is c.deref.ensures.value c.deref-in-Steps.ensures c.deref-in-Steps-2.ensures.value c.deref-in-Steps-3.ensures.value refl refl
    c.in_ok-numbers-in-Steps.ensures.code c.in_ok-numbers-in-Steps.ensures.scope c.in_ok-numbers-in-Steps.ensures.begins
    c.in_ok-emit_body-in-Steps.ensures.code c.in_ok-emit_body-in-Steps.ensures.kept c.emit_ends.ensures.code c.emit_ends.ensures.ends

pub emit_body-returns-in_ok-emit_body-in-Steps-clause-kept : goal.emit_body-returns-in_ok-emit_body-in-Steps-clause-kept
emit_body-returns-in_ok-emit_body-in-Steps-clause-kept t c =
    steps-kept (places_of c.args.tables.now c.args.at.now) c.rows_are_right.ensures (label_in c.args.at.now) c.emit_ends.result c.args.sure
    c.in-Steps.steps.items
    c.deref.result.now c.deref-in-Steps-2.result.now (env_of c.args.pass.now) (env_of c.emit_heads.new.pass) (env_of c.emit_body.new.pass) (env_of
    c.emit_ends.new.pass)
    c.deref.ensures.value c.deref-in-Steps-2.ensures.value c.in_ok-numbers-in-Steps.ensures.scope c.in_ok-emit_body-in-Steps.ensures.kept
    c.emit_ends.ensures.kept

pub emit_body-returns-in_ok-emit_body-in-Steps-clause-walked : goal.emit_body-returns-in_ok-emit_body-in-Steps-clause-walked
emit_body-returns-in_ok-emit_body-in-Steps-clause-walked t c =
    steps-mark (tables_of c.args.tables.now).types c.args.body.now c.in-Steps.steps c.in-Steps.rest c.deref.result.now c.deref-in-Steps-2.result.now
    c.deref-in-Steps.result.now
    c.in_ok-numbers-in-Steps.numbers.items c.deref-in-Steps-3.result.now (mark_of c.args.pass.now) (mark_of c.emit_heads.new.pass) (mark_of
    c.emit_body.new.pass)
    c.in-Steps.is c.deref.ensures.value c.deref-in-Steps-2.ensures.value c.deref-in-Steps.ensures c.deref-in-Steps-3.ensures.value
    c.in_ok-numbers-in-Steps.ensures.walked
    c.emit_ends.result (mark_of c.emit_ends.new.pass) c.in_ok-numbers-in-Steps.ensures.numbers c.in_ok-emit_body-in-Steps.ensures.walked
    c.emit_ends.ensures.walked

pub emit_body-returns-in_ok-emit_body-in-Guard-clause-code : goal.emit_body-returns-in_ok-emit_body-in-Guard-clause-code
emit_body-returns-in_ok-emit_body-in-Guard-clause-code t c p =
    let at = places_of c.args.tables.now c.args.at.now in
    let e = env_of c.args.pass.now in
    let f = env_of c.emit_guarded.new.pass in
    let inside = c.deref-in-Guard.result.now in
    let handler = c.deref-in-Guard-2.result.now in
    let y = c.in-Guard.packet in
    let old = c.args.pass.now.code.items in
    let mid = c.put.new.code.items in
    let new = c.emit_body-in-Guard.new.pass.code.items in
    body-code at (tree_of c.args.body.now) (s.guard c.in-Guard.label (tree_of inside) y (tree_of handler)) e old new
    (guard-at c.args.body.now c.in-Guard.label c.in-Guard.body y c.in-Guard.handler inside handler c.in-Guard.is c.deref-in-Guard.ensures
    c.deref-in-Guard-2.ensures)
    (guard-bound at c.rows_are_right.ensures e f c.in-Guard.label y c.in_ok-slot_at-in-Guard.field-0 c.bind.new.depth c.bind.new.slots (tree_of inside)
    (tree_of handler)
    old c.emit_guarded.new.pass.code.items mid new refl (c.in_ok-emit_guarded-in-Guard.ensures.kept p) (c.in_ok-emit_guarded-in-Guard.ensures.code p)
    c.in_ok-slot_at-in-Guard.ensures
    c.in_ok-put-in-Guard.ensures c.in_ok-bind-in-Guard.ensures.depth c.in_ok-bind-in-Guard.ensures.slots (c.in_ok-emit_body-in-Guard.ensures.code p))

pub emit_body-returns-in_ok-settle-in-Switch-clause-code : goal.emit_body-returns-in_ok-settle-in-Switch-clause-code
emit_body-returns-in_ok-settle-in-Switch-clause-code t c =
    let e = env_of c.args.pass.now in
    let f : Env = record { pc = length c.emit_choice.new.code.items; depth = e.depth; scope = e.scope; spots = e.spots } in
    switch-code (places_of c.args.tables.now c.args.at.now) c.rows_are_right.ensures (label_in c.args.at.now) c.emit_body-in-Switch.result c.args.sure
    c.args.body.now
    c.in-Switch.cell c.in-Switch.arms c.in-Switch.last c.deref-in-Switch.result.now c.deref-in-Switch-4.result.now c.deref-in-Switch-5.result.now
    c.in_ok-tags-in-Switch.tags.items c.deref-in-Switch-2.result.now c.deref-in-Switch-3.result.now (choice_of c.in_ok-choose-in-Switch.field-0)
    c.in_ok-first-in-Switch.first
    c.in_ok-number-in-Switch.number e f (env_of c.emit_arms.new.pass) c.args.pass.now.code.items c.emit_choice.new.code.items c.emit_arms.new.pass.code.items
    c.emit_body-in-Switch.new.pass.code.items
    c.in-Switch.is c.deref-in-Switch.ensures.value c.deref-in-Switch-4.ensures.value c.deref-in-Switch-5.ensures refl c.in_ok-tags-in-Switch.ensures
    c.deref-in-Switch-2.ensures.value
    c.deref-in-Switch-3.ensures.value c.in_ok-choose-in-Switch.ensures (record { depth = refl; scope = refl; spots = refl })
    c.in_ok-first-in-Switch.ensures.code
    c.in_ok-number-in-Switch.ensures.arms c.in_ok-number-in-Switch.ensures.kept c.in_ok-settle-in-Switch.ensures.sure c.emit_body-in-Switch.ensures.code

pub emit_body-emit_ends-requires : goal.emit_body-emit_ends-requires
emit_body-emit_ends-requires t c = (
  omega (
    arith,
    c.decreases,
    steps-fall c.args.body.now c.in-Steps.steps c.in-Steps.rest c.deref-in-Steps-2.result.now c.in-Steps.is
        c.deref-in-Steps-2.ensures.value,
  ),
  tt,
)

pub emit_body-returns-in_err-numbers-in-Steps-clause-told : goal.emit_body-returns-in_err-numbers-in-Steps-clause-told
emit_body-returns-in_err-numbers-in-Steps-clause-told t c =
    passed _ c.from_residual.result c.in_err-numbers-in-Steps.field-0.0 c.from_residual.ensures.1
    (λ told. steps-heads (tables_of c.args.tables.now).types c.args.body.now c.in-Steps.steps c.in-Steps.rest c.deref.result.now (mark_of c.args.pass.now)
    c.in-Steps.is c.deref.ensures.value c.args.sure c.args.at.now.labels.items told
    c.in_err-numbers-in-Steps.ensures.told)

pub emit_body-returns-in_err-emit_body-in-Steps-clause-told : goal.emit_body-returns-in_err-emit_body-in-Steps-clause-told
emit_body-returns-in_err-emit_body-in-Steps-clause-told t c =
    passed _ c.from_residual-in_err-emit_body-in-Steps.result c.in_err-emit_body-in-Steps.field-0.0 c.from_residual-in_err-emit_body-in-Steps.ensures.1
    (λ told. c.in_err-emit_body-in-Steps.ensures.told
    (steps-rest (tables_of c.args.tables.now).types c.args.body.now c.in-Steps.steps c.in-Steps.rest c.deref.result.now c.in-Steps.steps.items
    c.deref-in-Steps.result.now c.in_ok-numbers-in-Steps.numbers.items
    c.in_ok-numbers-in-Steps.numbers.items (mark_of c.args.pass.now) (mark_of c.emit_heads.new.pass) (mark_of c.args.pass.now) c.in-Steps.is
    c.deref.ensures.value refl c.deref-in-Steps.ensures refl
    c.in_ok-numbers-in-Steps.ensures.walked c.args.sure c.args.at.now.labels.items told))

pub emit_body-returns-in_ok-emit_body-in-Steps-clause-told : goal.emit_body-returns-in_ok-emit_body-in-Steps-clause-told
emit_body-returns-in_ok-emit_body-in-Steps-clause-told t c =
    steps-pass (tables_of c.args.tables.now).types c.args.body.now c.in-Steps.steps c.in-Steps.rest c.deref.result.now c.deref-in-Steps-2.result.now
    c.deref-in-Steps.result.now
    c.in_ok-numbers-in-Steps.numbers.items c.deref-in-Steps-3.result.now (mark_of c.args.pass.now) (mark_of c.emit_heads.new.pass) (mark_of
    c.emit_body.new.pass) c.in-Steps.is
    c.deref.ensures.value c.deref-in-Steps-2.ensures.value c.deref-in-Steps.ensures c.deref-in-Steps-3.ensures.value c.in_ok-numbers-in-Steps.ensures.walked
    c.emit_ends.result c.args.sure c.args.at.now.labels.items c.in_ok-numbers-in-Steps.ensures.numbers c.in_ok-emit_body-in-Steps.ensures.walked
    c.emit_ends.ensures.told

pub emit_body-returns-in_err-emit_guarded-in-Guard-clause-told : goal.emit_body-returns-in_err-emit_guarded-in-Guard-clause-told
emit_body-returns-in_err-emit_guarded-in-Guard-clause-told t c =
    passed _ c.from_residual-in_err-emit_guarded-in-Guard.result c.in_err-emit_guarded-in-Guard.field-0.0 c.from_residual-in_err-emit_guarded-in-Guard.ensures.1
    (λ told. let m0 = (mark_of c.args.pass.now) in
    let a = tree_of c.deref-in-Guard.result.now in
    let m1 = past_guarded rows (tables_of c.args.tables.now).types c.in-Guard.label a m0 in
    c.in_err-emit_guarded-in-Guard.ensures.told
    (guarded-told rows (tables_of c.args.tables.now).types (tree_of c.args.body.now) a (tree_of c.in-Guard.handler.value) c.in-Guard.label c.in-Guard.packet
    m0 m1
    (record { place = m1.place + 1; frame = bound c.in-Guard.packet m1.frame; found = m1.found })
    (guard-at c.args.body.now c.in-Guard.label c.in-Guard.body c.in-Guard.packet c.in-Guard.handler c.deref-in-Guard.result.now c.in-Guard.handler.value
    c.in-Guard.is
    c.deref-in-Guard.ensures refl) refl refl refl refl c.args.sure c.args.at.now.labels.items told))

pub emit_body-returns-in_err-emit_body-in-Guard-clause-told : goal.emit_body-returns-in_err-emit_body-in-Guard-clause-told
emit_body-returns-in_err-emit_body-in-Guard-clause-told t c =
    passed _ c.from_residual-in_err-emit_body-in-Guard.result c.in_err-emit_body-in-Guard.field-0.0 c.from_residual-in_err-emit_body-in-Guard.ensures.1
    (λ told. let m2 : Mark = record {
      place = length c.put.new.code.items;
      frame = record { depth = c.bind.new.depth; scope = c.bind.new.slots; exits = exits_of (spots_of c.emit_guarded.new.pass.spots.items) };
      found = c.emit_guarded.new.pass.found.items;
    } in
    c.in_err-emit_body-in-Guard.ensures.told (handler-told rows (tables_of c.args.tables.now).types (tree_of c.args.body.now) (tree_of
    c.deref-in-Guard.result.now) (tree_of c.deref-in-Guard-2.result.now) c.in-Guard.label c.in-Guard.packet (mark_of c.args.pass.now)
    (mark_of c.emit_guarded.new.pass) m2
    (guard-at c.args.body.now c.in-Guard.label c.in-Guard.body c.in-Guard.packet c.in-Guard.handler c.deref-in-Guard.result.now c.deref-in-Guard-2.result.now
    c.in-Guard.is
    c.deref-in-Guard.ensures c.deref-in-Guard-2.ensures) c.in_ok-emit_guarded-in-Guard.ensures.walked
    (grown c.emit_guarded.new.pass.code.items c.put.new.code.items (Acc c.in_ok-slot_at-in-Guard.field-0 ∷ []) 1 c.in_ok-put-in-Guard.ensures refl)
    (frame-is m2.frame (bound c.in-Guard.packet (frame_of c.emit_guarded.new.pass)) c.in_ok-bind-in-Guard.ensures.depth c.in_ok-bind-in-Guard.ensures.slots
    refl) refl c.args.sure c.args.at.now.labels.items told))

pub emit_body-returns-in_ok-emit_body-in-Guard-clause-walked : goal.emit_body-returns-in_ok-emit_body-in-Guard-clause-walked
emit_body-returns-in_ok-emit_body-in-Guard-clause-walked t c =
    let m2 : Mark = record {
      place = length c.put.new.code.items;
      frame = record { depth = c.bind.new.depth; scope = c.bind.new.slots; exits = exits_of (spots_of c.emit_guarded.new.pass.spots.items) };
      found = c.emit_guarded.new.pass.found.items;
    } in
    guard-walked rows (tables_of c.args.tables.now).types (tree_of c.args.body.now) (tree_of c.deref-in-Guard.result.now) (tree_of
    c.deref-in-Guard-2.result.now) c.in-Guard.label c.in-Guard.packet (mark_of c.args.pass.now)
    (mark_of c.emit_guarded.new.pass) m2
    (guard-at c.args.body.now c.in-Guard.label c.in-Guard.body c.in-Guard.packet c.in-Guard.handler c.deref-in-Guard.result.now c.deref-in-Guard-2.result.now
    c.in-Guard.is
    c.deref-in-Guard.ensures c.deref-in-Guard-2.ensures) c.in_ok-emit_guarded-in-Guard.ensures.walked
    (grown c.emit_guarded.new.pass.code.items c.put.new.code.items (Acc c.in_ok-slot_at-in-Guard.field-0 ∷ []) 1 c.in_ok-put-in-Guard.ensures refl)
    (frame-is m2.frame (bound c.in-Guard.packet (frame_of c.emit_guarded.new.pass)) c.in_ok-bind-in-Guard.ensures.depth c.in_ok-bind-in-Guard.ensures.slots
    refl) refl (mark_of c.emit_body-in-Guard.new.pass) _ c.in_ok-emit_body-in-Guard.ensures.walked refl c.leave.ensures.depth c.leave.ensures.slots refl refl

pub emit_body-returns-in_err-number-in-Switch-clause-told : goal.emit_body-returns-in_err-number-in-Switch-clause-told
emit_body-returns-in_err-number-in-Switch-clause-told t c =
    passed _ c.from_residual-in_err-number-in-Switch.result c.in_err-number-in-Switch.field-0.0 c.from_residual-in_err-number-in-Switch.ensures.1
    (λ told. switch-asks (places_of c.args.tables.now c.args.at.now) c.rows_are_right.ensures (label_in c.args.at.now) c.args.body.now c.in-Switch.cell
    (depth_in c.in-Switch.cell c.args.pass.now.slots) c.args.pass.now.depth c.in_ok-first-in-Switch.first c.in-Switch.arms c.in-Switch.last
    c.deref-in-Switch.result.now c.deref-in-Switch-4.result.now c.in-Switch.last.value c.in_ok-tags-in-Switch.tags.items c.deref-in-Switch-2.result.now
    c.deref-in-Switch-3.result.now
    (choice_of c.in_ok-choose-in-Switch.field-0) (mark_of c.args.pass.now) (record {
      place = length c.emit_choice.new.code.items;
      frame = frame_of
          c.args.pass.now;
      found = c.emit_choice.new.found.items;
    })
    c.args.pass.now.code.items c.emit_choice.new.code.items c.in-Switch.is c.deref-in-Switch.ensures.value c.deref-in-Switch-4.ensures.value refl
    c.in_ok-tags-in-Switch.ensures c.deref-in-Switch-2.ensures.value c.deref-in-Switch-3.ensures.value c.in_ok-choose-in-Switch.ensures
    c.in_ok-first-in-Switch.ensures.number refl refl
    c.in_ok-first-in-Switch.ensures.code refl c.in_ok-first-in-Switch.ensures.found c.args.sure c.args.at.now.labels.items told
    c.in_err-number-in-Switch.ensures.told)

pub emit_body-returns-in_err-settle-in-Switch-clause-told : goal.emit_body-returns-in_err-settle-in-Switch-clause-told
emit_body-returns-in_err-settle-in-Switch-clause-told t c =
    passed _ c.from_residual-in_err-settle-in-Switch.result c.in_err-settle-in-Switch.field-0.0 c.from_residual-in_err-settle-in-Switch.ensures.1
    (λ told. c.in_err-settle-in-Switch.ensures.told
    (switch-settles (places_of c.args.tables.now c.args.at.now) c.rows_are_right.ensures (label_in c.args.at.now) c.args.body.now c.in-Switch.cell (depth_in
    c.in-Switch.cell c.args.pass.now.slots) c.args.pass.now.depth c.in_ok-first-in-Switch.first c.in-Switch.arms c.in-Switch.last
    c.deref-in-Switch.result.now c.deref-in-Switch-4.result.now c.in-Switch.last.value c.in_ok-tags-in-Switch.tags.items c.deref-in-Switch-2.result.now
    c.deref-in-Switch-3.result.now
    (choice_of c.in_ok-choose-in-Switch.field-0) (mark_of c.args.pass.now) (record {
      place = length c.emit_choice.new.code.items;
      frame = frame_of
          c.args.pass.now;
      found = c.emit_choice.new.found.items;
    })
    c.args.pass.now.code.items c.emit_choice.new.code.items c.in-Switch.is c.deref-in-Switch.ensures.value c.deref-in-Switch-4.ensures.value refl
    c.in_ok-tags-in-Switch.ensures c.deref-in-Switch-2.ensures.value c.deref-in-Switch-3.ensures.value c.in_ok-choose-in-Switch.ensures
    c.in_ok-first-in-Switch.ensures.number refl refl
    c.in_ok-first-in-Switch.ensures.code refl c.in_ok-first-in-Switch.ensures.found c.in_ok-number-in-Switch.number (mark_of c.emit_arms.new.pass)
    c.in_ok-number-in-Switch.ensures.walked c.args.sure c.args.at.now.labels.items told))

pub emit_body-returns-in_ok-settle-in-Switch-clause-walked : goal.emit_body-returns-in_ok-settle-in-Switch-clause-walked
emit_body-returns-in_ok-settle-in-Switch-clause-walked t c =
    switch-marked (places_of c.args.tables.now c.args.at.now) c.rows_are_right.ensures (label_in c.args.at.now) c.args.body.now c.in-Switch.cell (depth_in
    c.in-Switch.cell c.args.pass.now.slots) c.args.pass.now.depth c.in_ok-first-in-Switch.first c.in-Switch.arms c.in-Switch.last
    c.deref-in-Switch.result.now c.deref-in-Switch-4.result.now c.deref-in-Switch-5.result.now c.in_ok-tags-in-Switch.tags.items
    c.deref-in-Switch-2.result.now c.deref-in-Switch-3.result.now
    (choice_of c.in_ok-choose-in-Switch.field-0) (mark_of c.args.pass.now) (record {
      place = length c.emit_choice.new.code.items;
      frame = frame_of
          c.args.pass.now;
      found = c.emit_choice.new.found.items;
    })
    c.args.pass.now.code.items c.emit_choice.new.code.items c.in-Switch.is c.deref-in-Switch.ensures.value c.deref-in-Switch-4.ensures.value
    c.deref-in-Switch-5.ensures
    c.in_ok-tags-in-Switch.ensures c.deref-in-Switch-2.ensures.value c.deref-in-Switch-3.ensures.value c.in_ok-choose-in-Switch.ensures
    c.in_ok-first-in-Switch.ensures.number refl refl
    c.in_ok-first-in-Switch.ensures.code refl c.in_ok-first-in-Switch.ensures.found c.in_ok-number-in-Switch.number (mark_of c.emit_arms.new.pass)
    c.in_ok-number-in-Switch.ensures.walked
    (record { place = length c.emit_arms.new.pass.code.items; frame = frame_of c.emit_arms.new.pass; found = c.settle.new.found.items }) refl refl
    c.in_ok-settle-in-Switch.ensures.found
    c.emit_body-in-Switch.result (mark_of c.emit_body-in-Switch.new.pass) c.emit_body-in-Switch.ensures.walked

pub emit_body-returns-in_ok-settle-in-Switch-clause-told : goal.emit_body-returns-in_ok-settle-in-Switch-clause-told
emit_body-returns-in_ok-settle-in-Switch-clause-told t c =
    switch-passes (places_of c.args.tables.now c.args.at.now) c.rows_are_right.ensures (label_in c.args.at.now) c.args.body.now c.in-Switch.cell (depth_in
    c.in-Switch.cell c.args.pass.now.slots) c.args.pass.now.depth c.in_ok-first-in-Switch.first c.in-Switch.arms c.in-Switch.last
    c.deref-in-Switch.result.now c.deref-in-Switch-4.result.now c.deref-in-Switch-5.result.now c.in_ok-tags-in-Switch.tags.items
    c.deref-in-Switch-2.result.now c.deref-in-Switch-3.result.now
    (choice_of c.in_ok-choose-in-Switch.field-0) (mark_of c.args.pass.now) (record {
      place = length c.emit_choice.new.code.items;
      frame = frame_of
          c.args.pass.now;
      found = c.emit_choice.new.found.items;
    })
    c.args.pass.now.code.items c.emit_choice.new.code.items c.in-Switch.is c.deref-in-Switch.ensures.value c.deref-in-Switch-4.ensures.value
    c.deref-in-Switch-5.ensures
    c.in_ok-tags-in-Switch.ensures c.deref-in-Switch-2.ensures.value c.deref-in-Switch-3.ensures.value c.in_ok-choose-in-Switch.ensures
    c.in_ok-first-in-Switch.ensures.number refl refl
    c.in_ok-first-in-Switch.ensures.code refl c.in_ok-first-in-Switch.ensures.found c.in_ok-number-in-Switch.number (mark_of c.emit_arms.new.pass)
    c.in_ok-number-in-Switch.ensures.walked
    (record { place = length c.emit_arms.new.pass.code.items; frame = frame_of c.emit_arms.new.pass; found = c.settle.new.found.items }) refl refl
    c.in_ok-settle-in-Switch.ensures.found
    c.emit_body-in-Switch.result c.args.sure c.args.at.now.labels.items c.emit_body-in-Switch.ensures.told

pub emit_body-returns-in_ok-emit_goto-in-Goto-clause-walked : goal.emit_body-returns-in_ok-emit_goto-in-Goto-clause-walked
emit_body-returns-in_ok-emit_goto-in-Goto-clause-walked t c =
    let spots = spots_of c.args.pass.now.spots.items in
    let ys = c.deref-in-Goto-2.result.now in
    let xs = depths_in ys c.args.pass.now.slots in
    let m1 : Mark = record { place = length c.emit_goto.new.code.items; frame = frame_of c.args.pass.now; found = c.args.pass.now.found.items } in
    leaf-walked rows (tables_of c.args.tables.now).types (tree_of c.args.body.now) (s.goto c.in-Goto.label ys) (mark_of c.args.pass.now) m1
    (goto-at c.args.body.now c.in-Goto.label c.in-Goto.operands ys c.in-Goto.is c.deref-in-Goto-2.ensures.value) refl
    (goto-long c.args.pass.now.depth c.in-Goto.label spots (spot_of c.spot_at-spot.result) xs c.args.pass.now.code.items c.emit_goto.new.code.items
    (c.spot_at-spot.ensures ∙ ap (λ (z : List Spot). get_or (spots_of z) c.in-Goto.label no_spot) c.deref-in-Goto.ensures.value)
    c.in_ok-emit_goto-in-Goto.ensures) refl refl

pub emit_body-returns-in_ok-emit_goto-in-Jump-clause-walked : goal.emit_body-returns-in_ok-emit_goto-in-Jump-clause-walked
emit_body-returns-in_ok-emit_goto-in-Jump-clause-walked t c =
    let spots = spots_of c.args.pass.now.spots.items in
    let ys = c.deref-in-Jump-2.result.now in
    let xs = depths_in ys c.args.pass.now.slots in
    let m1 : Mark = record { place = length c.emit_goto-in-Jump.new.code.items; frame = frame_of c.args.pass.now; found = c.args.pass.now.found.items } in
    leaf-walked rows (tables_of c.args.tables.now).types (tree_of c.args.body.now) (s.jump _ c.in-Jump.label ys) (mark_of c.args.pass.now) m1
    (jump-at c.args.body.now _ c.in-Jump.label c.in-Jump.operands ys c.in-Jump.is c.deref-in-Jump-2.ensures.value) refl
    (goto-long c.args.pass.now.depth c.in-Jump.label spots (spot_of c.spot_at-spot-in-Jump.result) xs c.args.pass.now.code.items
    c.emit_goto-in-Jump.new.code.items
    (c.spot_at-spot-in-Jump.ensures ∙ ap (λ (z : List Spot). get_or (spots_of z) c.in-Jump.label no_spot) c.deref-in-Jump.ensures.value)
    c.in_ok-emit_goto-in-Jump.ensures) refl refl

pub emit_body-returns-in_ok-emit_tail-in-Tail-clause-walked : goal.emit_body-returns-in_ok-emit_tail-in-Tail-clause-walked
emit_body-returns-in_ok-emit_tail-in-Tail-clause-walked t c =
    let ys = c.deref-in-Tail.result.now in
    let ws = args_of (callee_of c.in-Tail.callee) c.args.pass.now.slots ys in
    let m1 : Mark = record { place = length c.emit_tail.new.code.items; frame = frame_of c.args.pass.now; found = c.args.pass.now.found.items } in
    leaf-walked rows (tables_of c.args.tables.now).types (tree_of c.args.body.now) (s.tail _ (callee_of c.in-Tail.callee) ys) (mark_of c.args.pass.now) m1
    (tail-at c.args.body.now _ c.in-Tail.callee c.in-Tail.operands ys c.in-Tail.is c.deref-in-Tail.ensures.value) refl
    (tail-long c.args.pass.now.depth _ ws c.args.pass.now.code.items c.emit_tail.new.code.items c.in_ok-emit_tail-in-Tail.ensures) refl refl

pub emit_body-returns-in_ok-put-in-Ret-clause-walked : goal.emit_body-returns-in_ok-put-in-Ret-clause-walked
emit_body-returns-in_ok-put-in-Ret-clause-walked t c =
    let m1 : Mark = record { place = length c.put-in-Ret.new.code.items; frame = frame_of c.args.pass.now; found = c.args.pass.now.found.items } in
    leaf-walked rows (tables_of c.args.tables.now).types (tree_of c.args.body.now) (s.ret c.in-Ret.variable) (mark_of c.args.pass.now) m1 (ret-at
    c.args.body.now c.in-Ret.variable c.in-Ret.is) refl
    (grown c.args.pass.now.code.items c.put-in-Ret.new.code.items (Ret c.in_ok-value-in-Ret.value ∷ []) 1 c.in_ok-put-in-Ret.ensures refl) refl refl

pub emit_body-returns-in_ok-put-in-Raise-clause-walked : goal.emit_body-returns-in_ok-put-in-Raise-clause-walked
emit_body-returns-in_ok-put-in-Raise-clause-walked t c =
    let m1 : Mark = record { place = length c.put-in-Raise.new.code.items; frame = frame_of c.args.pass.now; found = c.args.pass.now.found.items } in
    leaf-walked rows (tables_of c.args.tables.now).types (tree_of c.args.body.now) (s.raise c.in-Raise.variable) (mark_of c.args.pass.now) m1 (raise-at
    c.args.body.now c.in-Raise.variable c.in-Raise.is) refl
    (grown c.args.pass.now.code.items c.put-in-Raise.new.code.items (Raise c.in_ok-packet-in-Raise.packet ∷ []) 1 c.in_ok-put-in-Raise.ensures refl) refl refl

-- What is before the rest.

pub emit_heads-loop-i-init : goal.emit_heads-loop-i-init
emit_heads-loop-i-init t c = record {
  code = search rules;
  marks = heads-start rows (tables_of c.args.tables.now).types (mark_of c.args.pass.now);
  numbers = c.new-numbers.ensures.items;
}

pub emit_heads-loop-i-preserved : goal.emit_heads-loop-i-preserved
emit_heads-loop-i-preserved t c = record {
  code = λ s.
      heads-step (places_of c.args.tables.now c.args.at.now) c.rows_are_right.ensures (label_in c.args.at.now) c.args.steps.now c.loop-i.i
      c.index-steps-i.result c.index-steps-i.result
      c.loop-i.numbers.items c.push.new.self.items c.in_ok-number.number (env_of c.args.pass.now) (env_of c.loop-i.pass) (env_of c.emit_head.new.pass)
      c.args.pass.now.code.items c.loop-i.pass.code.items c.emit_head.new.pass.code.items c.loop-i-test.true c.index-steps-i.is c.in_ok-push.ensures.items
      (c.loop-i.invariant.code s) refl refl (c.in_ok-number.ensures.code s) (c.in_ok-number.ensures.scope s) (c.in_ok-number.ensures.begins s);
  marks =
      heads-marks rows (tables_of c.args.tables.now).types step_of c.args.steps.now c.loop-i.i c.index-steps-i.result c.loop-i-test.true c.index-steps-i.is
      (mark_of c.args.pass.now)
      (mark_of c.loop-i.pass) (mark_of c.emit_head.new.pass) c.loop-i.invariant.marks c.in_ok-number.ensures.walked;
  numbers =
      heads-numbers rows (tables_of c.args.tables.now).types step_of c.args.steps.now c.loop-i.i c.index-steps-i.result c.loop-i-test.true c.index-steps-i.is
      c.loop-i.numbers.items
      c.push.new.self.items c.in_ok-number.number (mark_of c.args.pass.now) (mark_of c.loop-i.pass) c.loop-i.invariant.marks c.loop-i.invariant.numbers
      c.in_ok-number.ensures.number
      c.in_ok-push.ensures.items;
}

pub emit_heads-returns-in_err-number-clause-told : goal.emit_heads-returns-in_err-number-clause-told
emit_heads-returns-in_err-number-clause-told t c =
    passed _ c.from_residual.result c.in_err-number.field-0.0 c.from_residual.ensures.1
    (λ q told. heads-told rows (tables_of c.args.tables.now).types step_of c.args.steps.now c.loop-i.i c.index-steps-i.result c.loop-i-test.true
    c.index-steps-i.is c.args.sure
    c.args.at.now.labels.items q (mark_of c.args.pass.now) (mark_of c.loop-i.pass) c.loop-i.invariant.marks told c.in_err-number.ensures.told)

pub emit_heads-returns-clause-walked : goal.emit_heads-returns-clause-walked
emit_heads-returns-clause-walked t c =
    c.loop-i.invariant.marks
    ∙ ap (λ l. past_heads rows (tables_of c.args.tables.now).types (map step_of l) (mark_of c.args.pass.now)) (take_all c.loop-i.i c.args.steps.now
    c.loop-i-test.false)

pub emit_heads-returns-clause-numbers : goal.emit_heads-returns-clause-numbers
emit_heads-returns-clause-numbers t c =
    c.loop-i.invariant.numbers
    ∙ ap (λ l. numbers_of rows (tables_of c.args.tables.now).types (length c.args.pass.now.found.items) (length c.args.pass.now.code.items) (frame_of
    c.args.pass.now) (map step_of l))
    (take_all c.loop-i.i c.args.steps.now c.loop-i-test.false)

pub emit_heads-returns-clause-code : goal.emit_heads-returns-clause-code
emit_heads-returns-clause-code t c s =
    heads-code (places_of c.args.tables.now c.args.at.now) c.rows_are_right.ensures (label_in c.args.at.now) (map step_of c.args.steps.now) (map step_of (drop
    c.loop-i.i c.args.steps.now))
    c.loop-i.numbers.items (env_of c.args.pass.now) (env_of c.loop-i.pass) c.args.pass.now.code.items c.loop-i.pass.code.items
    (ap (map step_of) (drop_all c.loop-i.i c.args.steps.now c.loop-i-test.false)) (c.loop-i.invariant.code s)

pub emit_heads-returns-clause-scope : goal.emit_heads-returns-clause-scope
emit_heads-returns-clause-scope t c s =
    heads-scope (places_of c.args.tables.now c.args.at.now) c.rows_are_right.ensures (label_in c.args.at.now) (map step_of c.args.steps.now) (map step_of
    (drop c.loop-i.i c.args.steps.now))
    c.loop-i.numbers.items (env_of c.args.pass.now) (env_of c.loop-i.pass) c.args.pass.now.code.items c.loop-i.pass.code.items
    (ap (map step_of) (drop_all c.loop-i.i c.args.steps.now c.loop-i-test.false)) (c.loop-i.invariant.code s)

pub emit_heads-returns-clause-begins : goal.emit_heads-returns-clause-begins
emit_heads-returns-clause-begins t c s =
    heads-begin (places_of c.args.tables.now c.args.at.now) c.rows_are_right.ensures (label_in c.args.at.now) (map step_of c.args.steps.now) (map step_of
    (drop c.loop-i.i c.args.steps.now))
    c.loop-i.numbers.items (env_of c.args.pass.now) (env_of c.loop-i.pass) c.args.pass.now.code.items c.loop-i.pass.code.items
    (ap (map step_of) (drop_all c.loop-i.i c.args.steps.now c.loop-i-test.false)) (c.loop-i.invariant.code s)

pub emit_head-returns-in_ok-bind-in-Attempt-clause-code : goal.emit_head-returns-in_ok-bind-in-Attempt-clause-code
emit_head-returns-in_ok-bind-in-Attempt-clause-code t c p =
    head-code (places_of c.args.tables.now c.args.at.now) (label_in c.args.at.now) (step_of c.args.step.now) _ (env_of c.args.pass.now)
    c.in_ok-number-in-Attempt.number
    c.args.pass.now.code.items c.emit_attempt.new.code.items
    (attempt-at c.args.step.now c.in-Attempt.kind c.in-Attempt.primitive _ c.in-Attempt.variable _ c.deref-in-Attempt.result.now c.in-Attempt.is
    c.deref-in-Attempt.ensures.value)
    c.in_ok-number-in-Attempt.ensures.code

pub emit_head-returns-in_ok-settle-in-Unless-clause-code : goal.emit_head-returns-in_ok-settle-in-Unless-clause-code
emit_head-returns-in_ok-settle-in-Unless-clause-code t c p =
    let at = places_of c.args.tables.now c.args.at.now in
    let label = label_in c.args.at.now in
    let e = env_of c.args.pass.now in
    let n = c.in_ok-number-in-Unless.number in
    let d = c.deref-in-Unless-2.result.now in
    let old = c.args.pass.now.code.items in
    let new = c.emit_body.new.pass.code.items in
    head-code at label (step_of c.args.step.now) (unless_step (test_of c.in-Unless.test) c.deref-in-Unless.result.now (tree_of d)) e 0 old new
    (unless-at c.args.step.now c.in-Unless.test c.in-Unless.operands c.in-Unless.body c.deref-in-Unless.result.now d c.in-Unless.is
    c.deref-in-Unless.ensures.value c.deref-in-Unless-2.ensures)
    (unless-before at c.rows_are_right.ensures label e 0 (label n) (test_of c.in-Unless.test) c.deref-in-Unless.result.now (tree_of d) old
    c.emit_tested-in-Unless.new.code.items new refl
    c.in_ok-number-in-Unless.ensures.code (c.in_ok-emit_body-in-Unless.ensures.code p) (c.in_ok-settle-in-Unless.ensures.sure p))

pub emit_head-returns-in-Case-clause-code : goal.emit_head-returns-in-Case-clause-code
emit_head-returns-in-Case-clause-code t c =
    case-head-code (places_of c.args.tables.now c.args.at.now) c.rows_are_right.ensures (label_in c.args.at.now) c.emit_case.result c.args.sure
    c.args.step.now c.in-Case.cell c.in-Case.tag
    c.in-Case.others _ c.deref-in-Case.result.now (env_of c.args.pass.now) c.args.pass.now.code.items c.emit_case.new.code.items c.in-Case.is
    c.deref-in-Case.ensures.value refl
    c.emit_case.ensures.code

pub emit_head-returns-in-Case-clause-begins : goal.emit_head-returns-in-Case-clause-begins
emit_head-returns-in-Case-clause-begins t c =
    case-head-begins (places_of c.args.tables.now c.args.at.now) c.rows_are_right.ensures (label_in c.args.at.now) c.emit_case.result c.args.sure
    c.args.step.now c.in-Case.cell c.in-Case.tag
    c.in-Case.others _ c.deref-in-Case.result.now (env_of c.args.pass.now) c.args.pass.now.code.items c.in-Case.is c.deref-in-Case.ensures.value refl
    c.emit_case.ensures.begins

pub emit_head-returns-in_ok-bind-in-Plain-clause-walked : goal.emit_head-returns-in_ok-bind-in-Plain-clause-walked
emit_head-returns-in_ok-bind-in-Plain-clause-walked t c =
    let m1 : Mark = record {
      place = length c.emit_plain.new.code.items;
      frame = record {
        depth = c.bind.new.depth;
        scope = c.bind.new.slots;
        exits = exits_of
            (spots_of c.args.pass.now.spots.items);
      };
      found = c.args.pass.now.found.items;
    } in
    plain-begins (tables_of c.args.tables.now).types c.args.step.now (mark_of c.args.pass.now) c.in-Plain.variable m1 c.in_ok-bind-in-Plain.ensures.depth
    c.in_ok-bind-in-Plain.ensures.slots refl c.in-Plain.plain c.in-Plain.operands c.in-Plain.is
    (plain-long (places_of c.args.tables.now c.args.at.now) c.rows_are_right.ensures (length c.args.pass.now.code.items) c.args.pass.now.depth (plain_of
    c.in-Plain.plain) _ c.args.pass.now.code.items c.emit_plain.new.code.items c.in_ok-emit_plain-in-Plain.ensures) refl

pub emit_head-returns-in_ok-bind-in-Make-clause-walked : goal.emit_head-returns-in_ok-bind-in-Make-clause-walked
emit_head-returns-in_ok-bind-in-Make-clause-walked t c =
    let m1 : Mark = record {
      place = length c.emit_cell.new.code.items;
      frame = record {
        depth = c.bind-in-Make.new.depth;
        scope = c.bind-in-Make.new.slots;
        exits = exits_of (spots_of c.args.pass.now.spots.items);
      };
      found = c.args.pass.now.found.items;
    } in
    make-begins (tables_of c.args.tables.now).types c.args.step.now (mark_of c.args.pass.now) c.in-Make.variable m1 c.in_ok-bind-in-Make.ensures.depth
    c.in_ok-bind-in-Make.ensures.slots refl c.in-Make.tag c.in-Make.pieces c.deref-in-Make.result.now c.in-Make.is c.deref-in-Make.ensures.value
    (make-long c.args.pass.now.depth c.in-Make.tag c.args.pass.now.slots _ c.args.pass.now.code.items c.emit_cell.new.code.items
    c.in_ok-emit_cell-in-Make.ensures) refl

pub emit_head-returns-in_ok-bind-in-Call-clause-walked : goal.emit_head-returns-in_ok-bind-in-Call-clause-walked
emit_head-returns-in_ok-bind-in-Call-clause-walked t c =
    let m1 : Mark = record {
      place = length c.emit_call.new.code.items;
      frame = record {
        depth = c.bind-in-Call.new.depth;
        scope = c.bind-in-Call.new.slots;
        exits = exits_of (spots_of c.args.pass.now.spots.items);
      };
      found = c.args.pass.now.found.items;
    } in
    call-begins (tables_of c.args.tables.now).types c.args.step.now (mark_of c.args.pass.now) c.in-Call.variable m1 c.in_ok-bind-in-Call.ensures.depth
    c.in_ok-bind-in-Call.ensures.slots refl _ c.in-Call.callee c.in-Call.operands c.deref-in-Call.result.now c.in-Call.is c.deref-in-Call.ensures.value
    (call-long (places_of c.args.tables.now c.args.at.now) c.rows_are_right.ensures c.args.pass.now.depth
    (callee_at (places_of c.args.tables.now c.args.at.now) (callee_of c.in-Call.callee)) (slot c.args.pass.now.depth) (callee_of c.in-Call.callee)
    c.args.pass.now.slots c.deref-in-Call.result.now c.args.pass.now.code.items c.emit_call.new.code.items c.in_ok-emit_call-in-Call.ensures) refl

pub emit_head-returns-in_ok-bind-in-Attempt-clause-walked : goal.emit_head-returns-in_ok-bind-in-Attempt-clause-walked
emit_head-returns-in_ok-bind-in-Attempt-clause-walked t c =
    let m1 : Mark = record {
      place = length c.emit_attempt.new.code.items;
      frame = record {
        depth = c.bind-in-Attempt.new.depth;
        scope =
            c.bind-in-Attempt.new.slots;
        exits = exits_of (spots_of c.args.pass.now.spots.items);
      };
      found = c.emit_attempt.new.found.items;
    } in
    attempt-begins (tables_of c.args.tables.now).types c.args.step.now (mark_of c.args.pass.now) c.in-Attempt.variable m1
    c.in_ok-bind-in-Attempt.ensures.depth c.in_ok-bind-in-Attempt.ensures.slots refl c.in-Attempt.kind c.in-Attempt.primitive
    c.in-Attempt.operands _ c.in-Attempt.is
    (row-long (places_of c.args.tables.now c.args.at.now) c.rows_are_right.ensures (operands_of c.in-Attempt.kind) c.in-Attempt.primitive _ _ _ _ _
    c.args.pass.now.code.items c.emit_attempt.new.code.items c.in_ok-number-in-Attempt.ensures.code)
    c.in_ok-number-in-Attempt.ensures.found

pub emit_head-returns-in_ok-bind-in-Attempt-clause-number : goal.emit_head-returns-in_ok-bind-in-Attempt-clause-number
emit_head-returns-in_ok-bind-in-Attempt-clause-number t c =
    attempt-numbered (tables_of c.args.tables.now).types c.args.step.now (mark_of c.args.pass.now) c.in_ok-number-in-Attempt.number c.in-Attempt.kind
    c.in-Attempt.primitive c.in-Attempt.operands c.in-Attempt.variable _ c.in-Attempt.is
    c.in_ok-number-in-Attempt.ensures.number

pub emit_head-returns-in_ok-put-in-Turn-clause-walked : goal.emit_head-returns-in_ok-put-in-Turn-clause-walked
emit_head-returns-in_ok-put-in-Turn-clause-walked t c =
    let m1 : Mark = record { place = length c.put.new.code.items; frame = frame_of c.args.pass.now; found = c.args.pass.now.found.items } in
    turn-begins (tables_of c.args.tables.now).types c.args.step.now (mark_of c.args.pass.now) _ m1 c.in-Turn.is (grown c.args.pass.now.code.items
    c.put.new.code.items (c.jmp.result ∷ []) 1 c.in_ok-put-in-Turn.ensures refl) refl refl

pub emit_head-returns-in_err-emit_labelled-in-Label-clause-told : goal.emit_head-returns-in_err-emit_labelled-in-Label-clause-told
emit_head-returns-in_err-emit_labelled-in-Label-clause-told t c =
    passed _ c.from_residual-in_err-emit_labelled-in-Label.result c.in_err-emit_labelled-in-Label.field-0.0
    c.from_residual-in_err-emit_labelled-in-Label.ensures.1
    (λ q told. c.in_err-emit_labelled-in-Label.ensures.told
    (label-asks (tables_of c.args.tables.now).types c.args.step.now (mark_of c.args.pass.now) c.in-Label.params c.in-Label.body c.deref-in-Label.result.now
    c.in-Label.is c.deref-in-Label.ensures c.args.sure c.args.at.now.labels.items q told))

pub emit_head-returns-in_ok-bind_all-in-Label-clause-walked : goal.emit_head-returns-in_ok-bind_all-in-Label-clause-walked
emit_head-returns-in_ok-bind_all-in-Label-clause-walked t c =
    let m2 : Mark = record {
      place = length c.emit_labelled.new.pass.code.items;
      frame = record { depth = c.bind_all.new.depth; scope = c.bind_all.new.slots; exits = exits_of (spots_of c.emit_labelled.new.pass.spots.items) };
      found = c.emit_labelled.new.pass.found.items;
    } in
    label-begins (tables_of c.args.tables.now).types c.args.step.now (mark_of c.args.pass.now) c.in-Label.params c.in-Label.body c.deref-in-Label.result.now
    c.in-Label.is c.deref-in-Label.ensures c.deref-in-Label-2.result.now
    (mark_of c.emit_labelled.new.pass) m2 c.deref-in-Label-2.ensures.value c.in_ok-emit_labelled-in-Label.ensures.walked refl
    c.in_ok-bind_all-in-Label.ensures.depth
    c.in_ok-bind_all-in-Label.ensures.slots refl refl

pub emit_head-returns-in_err-spot-in-Again-clause-told : goal.emit_head-returns-in_err-spot-in-Again-clause-told
emit_head-returns-in_err-spot-in-Again-clause-told t c =
    passed _ c.from_residual-in_err-spot-in-Again.result c.in_err-spot-in-Again.field-0.0 c.from_residual-in_err-spot-in-Again.ensures.1
    (λ q told. c.in_err-spot-in-Again.ensures.told
    (again-asks (tables_of c.args.tables.now).types c.args.step.now (mark_of c.args.pass.now) c.in-Again.params c.in-Again.body c.deref-in-Again.result.now
    c.in-Again.is c.deref-in-Again.ensures c.args.sure c.args.at.now.labels.items q told))

pub emit_head-returns-in_ok-push_spot-in-Again-clause-walked : goal.emit_head-returns-in_ok-push_spot-in-Again-clause-walked
emit_head-returns-in_ok-push_spot-in-Again-clause-walked t c =
    let m2 : Mark = record {
      place = length c.emit_labelled-in-Again.new.pass.code.items;
      frame = record { depth = c.bind_all-in-Again.new.depth; scope = c.bind_all-in-Again.new.slots; exits = exits_of (spots_of c.push_spot.new.spots.items) };
      found = c.emit_labelled-in-Again.new.pass.found.items;
    } in
    again-begins (tables_of c.args.tables.now).types c.args.step.now (mark_of c.args.pass.now) c.in-Again.params c.in-Again.body c.deref-in-Again.result.now
    c.in-Again.is c.deref-in-Again.ensures c.deref-in-Again-2.result.now
    (mark_of c.emit_labelled-in-Again.new.pass) m2 (spots_of c.emit_labelled-in-Again.new.pass.spots.items) (spots_of c.push_spot.new.spots.items) (spot_of
    c.in_ok-spot-in-Again.spot)
    c.deref-in-Again-2.ensures.value c.in_ok-spot-in-Again.ensures.walked refl c.in_ok-bind_all-in-Again.ensures.depth c.in_ok-bind_all-in-Again.ensures.slots
    refl refl
    c.in_ok-push_spot-in-Again.ensures c.in_ok-spot-in-Again.ensures.exit refl

pub emit_head-returns-in_ok-emit_tested-in-When-clause-walked : goal.emit_head-returns-in_ok-emit_tested-in-When-clause-walked
emit_head-returns-in_ok-emit_tested-in-When-clause-walked t c =
    let m1 : Mark = record { place = length c.emit_tested.new.code.items; frame = frame_of c.args.pass.now; found = c.emit_tested.new.found.items } in
    when-begins (tables_of c.args.tables.now).types c.args.step.now (mark_of c.args.pass.now) c.in-When.test c.in-When.operands _ c.in-When.is m1 (test-long
    (places_of c.args.tables.now c.args.at.now) c.rows_are_right.ensures (length c.args.pass.now.code.items) c.args.pass.now.depth (test_of c.in-When.test) _
    _ c.args.pass.now.code.items c.emit_tested.new.code.items c.in_ok-emit_tested-in-When.ensures.code) refl
    c.in_ok-emit_tested-in-When.ensures.found

pub emit_head-returns-in_ok-emit_tested-in-When-clause-number : goal.emit_head-returns-in_ok-emit_tested-in-When-clause-number
emit_head-returns-in_ok-emit_tested-in-When-clause-number t c =
    when-numbered (tables_of c.args.tables.now).types c.args.step.now (mark_of c.args.pass.now) c.in-When.test c.in-When.operands _ c.in-When.is
    c.in_ok-emit_tested-in-When.field-0 c.in_ok-emit_tested-in-When.ensures.number

pub emit_head-returns-in_err-emit_body-in-Unless-clause-told : goal.emit_head-returns-in_err-emit_body-in-Unless-clause-told
emit_head-returns-in_err-emit_body-in-Unless-clause-told t c =
    passed _ c.from_residual-in_err-emit_body-in-Unless.result c.in_err-emit_body-in-Unless.field-0.0 c.from_residual-in_err-emit_body-in-Unless.ensures.1
    (λ q told. c.in_err-emit_body-in-Unless.ensures.told
    (unless-asks (tables_of c.args.tables.now).types c.args.step.now (mark_of c.args.pass.now) c.in-Unless.test c.in-Unless.operands c.in-Unless.body
    c.deref-in-Unless-2.result.now c.in_ok-number-in-Unless.number
    (record { place = length c.emit_tested-in-Unless.new.code.items; frame = frame_of c.args.pass.now; found = c.emit_tested-in-Unless.new.found.items })
    c.in-Unless.is c.deref-in-Unless-2.ensures
    c.in_ok-number-in-Unless.ensures.number (test-long (places_of c.args.tables.now c.args.at.now) c.rows_are_right.ensures (length
    c.args.pass.now.code.items) c.args.pass.now.depth (test_of c.in-Unless.test) _ _ c.args.pass.now.code.items c.emit_tested-in-Unless.new.code.items
    c.in_ok-number-in-Unless.ensures.code) refl c.in_ok-number-in-Unless.ensures.found c.args.sure c.args.at.now.labels.items q told))

pub emit_head-returns-in_err-settle-in-Unless-clause-told : goal.emit_head-returns-in_err-settle-in-Unless-clause-told
emit_head-returns-in_err-settle-in-Unless-clause-told t c =
    passed _ c.from_residual-in_err-settle-in-Unless.result c.in_err-settle-in-Unless.field-0.0 c.from_residual-in_err-settle-in-Unless.ensures.1
    (λ q told. c.in_err-settle-in-Unless.ensures.told
    (unless-settles (tables_of c.args.tables.now).types c.args.step.now (mark_of c.args.pass.now) c.in-Unless.test c.in-Unless.operands c.in-Unless.body
    c.deref-in-Unless-2.result.now c.in_ok-number-in-Unless.number
    (record { place = length c.emit_tested-in-Unless.new.code.items; frame = frame_of c.args.pass.now; found = c.emit_tested-in-Unless.new.found.items })
    c.in-Unless.is c.deref-in-Unless-2.ensures
    c.in_ok-number-in-Unless.ensures.number (test-long (places_of c.args.tables.now c.args.at.now) c.rows_are_right.ensures (length
    c.args.pass.now.code.items) c.args.pass.now.depth (test_of c.in-Unless.test) _ _ c.args.pass.now.code.items c.emit_tested-in-Unless.new.code.items
    c.in_ok-number-in-Unless.ensures.code) refl c.in_ok-number-in-Unless.ensures.found c.args.sure c.args.at.now.labels.items q told (mark_of
    c.emit_body.new.pass) c.in_ok-emit_body-in-Unless.ensures.walked))

pub emit_head-returns-in_ok-settle-in-Unless-clause-walked : goal.emit_head-returns-in_ok-settle-in-Unless-clause-walked
emit_head-returns-in_ok-settle-in-Unless-clause-walked t c =
    let m3 : Mark = record { place = length c.emit_body.new.pass.code.items; frame = frame_of c.emit_body.new.pass; found = c.settle.new.found.items } in
    unless-begins (tables_of c.args.tables.now).types c.args.step.now (mark_of c.args.pass.now) c.in-Unless.test c.in-Unless.operands c.in-Unless.body
    c.deref-in-Unless-2.result.now c.in_ok-number-in-Unless.number
    (record { place = length c.emit_tested-in-Unless.new.code.items; frame = frame_of c.args.pass.now; found = c.emit_tested-in-Unless.new.found.items })
    c.in-Unless.is c.deref-in-Unless-2.ensures
    c.in_ok-number-in-Unless.ensures.number (test-long (places_of c.args.tables.now c.args.at.now) c.rows_are_right.ensures (length
    c.args.pass.now.code.items) c.args.pass.now.depth (test_of c.in-Unless.test) _ _ c.args.pass.now.code.items c.emit_tested-in-Unless.new.code.items
    c.in_ok-number-in-Unless.ensures.code) refl c.in_ok-number-in-Unless.ensures.found (mark_of c.emit_body.new.pass) m3
    c.in_ok-emit_body-in-Unless.ensures.walked refl refl c.in_ok-settle-in-Unless.ensures.found

pub emit_head-returns-in-Case-clause-walked : goal.emit_head-returns-in-Case-clause-walked
emit_head-returns-in-Case-clause-walked t c =
    let m1 : Mark = record { place = length c.emit_case.new.code.items; frame = frame_of c.args.pass.now; found = c.emit_case.new.found.items } in
    case-marked (places_of c.args.tables.now c.args.at.now) c.rows_are_right.ensures (label_in c.args.at.now) c.args.step.now c.in-Case.cell c.in-Case.tag
    c.args.pass.now.depth (depth_in c.in-Case.cell c.args.pass.now.slots) c.in-Case.others _ c.deref-in-Case.result.now (mark_of c.args.pass.now)
    c.args.pass.now.code.items c.in-Case.is
    c.deref-in-Case.ensures.value refl c.emit_case.result m1 c.emit_case.new.code.items refl refl c.emit_case.ensures.found c.emit_case.ensures.code

pub emit_head-returns-in-Case-clause-number : goal.emit_head-returns-in-Case-clause-number
emit_head-returns-in-Case-clause-number t c =
    case-numbered (places_of c.args.tables.now c.args.at.now) c.rows_are_right.ensures (label_in c.args.at.now) c.args.step.now c.in-Case.cell c.in-Case.tag
    c.args.pass.now.depth (depth_in c.in-Case.cell c.args.pass.now.slots) c.in-Case.others _ c.deref-in-Case.result.now (mark_of c.args.pass.now)
    c.args.pass.now.code.items c.in-Case.is
    c.deref-in-Case.ensures.value refl c.emit_case.result c.emit_case.ensures.number

pub emit_head-returns-in-Case-clause-told : goal.emit_head-returns-in-Case-clause-told
emit_head-returns-in-Case-clause-told t c =
    case-passes (places_of c.args.tables.now c.args.at.now) c.rows_are_right.ensures (label_in c.args.at.now) c.args.step.now c.in-Case.cell c.in-Case.tag
    c.args.pass.now.depth (depth_in c.in-Case.cell c.args.pass.now.slots) c.in-Case.others _ c.deref-in-Case.result.now (mark_of c.args.pass.now)
    c.args.pass.now.code.items c.in-Case.is
    c.deref-in-Case.ensures.value refl c.emit_case.result c.args.sure c.args.at.now.labels.items c.emit_case.ensures.told

pub emit_head-returns-in_ok-bind-in-Plain-clause-number : goal.emit_head-returns-in_ok-bind-in-Plain-clause-number
emit_head-returns-in_ok-bind-in-Plain-clause-number t c =
    plain-numbered (length c.args.pass.now.found.items) c.args.step.now c.in-Plain.plain c.in-Plain.operands c.in-Plain.variable c.in-Plain.is

pub emit_head-returns-in_ok-bind-in-Make-clause-number : goal.emit_head-returns-in_ok-bind-in-Make-clause-number
emit_head-returns-in_ok-bind-in-Make-clause-number t c =
    make-numbered (length c.args.pass.now.found.items) c.args.step.now c.in-Make.tag c.in-Make.pieces c.in-Make.variable c.in-Make.is

pub emit_head-returns-in_ok-bind-in-Call-clause-number : goal.emit_head-returns-in_ok-bind-in-Call-clause-number
emit_head-returns-in_ok-bind-in-Call-clause-number t c =
    call-numbered (length c.args.pass.now.found.items) c.args.step.now _ c.in-Call.callee c.in-Call.operands c.in-Call.variable c.in-Call.is

pub emit_head-returns-in_ok-put-in-Turn-clause-number : goal.emit_head-returns-in_ok-put-in-Turn-clause-number
emit_head-returns-in_ok-put-in-Turn-clause-number t c =
    turn-numbered (length c.args.pass.now.found.items) c.args.step.now _ c.in-Turn.is

pub emit_head-returns-in_ok-bind_all-in-Label-clause-number : goal.emit_head-returns-in_ok-bind_all-in-Label-clause-number
emit_head-returns-in_ok-bind_all-in-Label-clause-number t c =
    label-numbered (length c.args.pass.now.found.items) c.args.step.now c.in-Label.params c.in-Label.body c.in-Label.is

pub emit_head-returns-in_ok-push_spot-in-Again-clause-number : goal.emit_head-returns-in_ok-push_spot-in-Again-clause-number
emit_head-returns-in_ok-push_spot-in-Again-clause-number t c =
    again-numbered (length c.args.pass.now.found.items) c.args.step.now c.in-Again.params c.in-Again.body c.in-Again.is

pub emit_head-returns-in_ok-settle-in-Unless-clause-number : goal.emit_head-returns-in_ok-settle-in-Unless-clause-number
emit_head-returns-in_ok-settle-in-Unless-clause-number t c =
    unless-numbered (length c.args.pass.now.found.items) c.args.step.now c.in-Unless.test c.in-Unless.operands c.in-Unless.body c.in-Unless.is

-- Labels and guards.

pub emit_labelled-returns-clause-code : goal.emit_labelled-returns-clause-code
emit_labelled-returns-clause-code t c p =
    label-code (places_of c.args.tables.now c.args.at.now) c.rows_are_right.ensures (label_in c.args.at.now) (env_of c.args.pass.now) (tree_of c.args.body.now)
    c.args.pass.now.code.items c.emit_body.new.pass.code.items c.label-place.result refl
    (labelled-by (places_of c.args.tables.now c.args.at.now) (env_of c.args.pass.now) (tree_of c.args.body.now) c.args.pass.now.code.items
    c.emit_body.new.pass.code.items _
    (c.in_ok-emit_body.ensures.code p) c.in_ok-push_spot.ensures)
    (c.label-place.ensures ∙ c.in_ok-settle.ensures.sure p)

pub emit_labelled-returns-clause-spot : goal.emit_labelled-returns-clause-spot
emit_labelled-returns-clause-spot t c p =
    label-is (places_of c.args.tables.now c.args.at.now) c.rows_are_right.ensures (label_in c.args.at.now) (env_of c.args.pass.now) (tree_of c.args.body.now)
    c.args.pass.now.code.items c.emit_body.new.pass.code.items c.label-place.result refl
    (labelled-by (places_of c.args.tables.now c.args.at.now) (env_of c.args.pass.now) (tree_of c.args.body.now) c.args.pass.now.code.items
    c.emit_body.new.pass.code.items _
    (c.in_ok-emit_body.ensures.code p) c.in_ok-push_spot.ensures)
    (c.label-place.ensures ∙ c.in_ok-settle.ensures.sure p)

pub emit_guarded-returns-clause-code : goal.emit_guarded-returns-clause-code
emit_guarded-returns-clause-code t c =
    guarded-whole (places_of c.args.tables.now c.args.at.now) c.rows_are_right.ensures (label_in c.args.at.now) c.settle.result c.args.sure (env_of
    c.args.pass.now) c.args.label
    c.in_ok-number.number c.label-target.result c.in_ok-record.record c.in_ok-inner.inner (tree_of c.args.body.now) c.args.pass.now.slots (spots_of
    c.replace-outside.new.dest.items)
    (spot_of c.spot_at-outer.result) (spot_of c.left_spot-spot.result) c.args.pass.now.code.items c.put.new.code.items c.emit_body.new.pass.code.items refl
    c.label-target.ensures
    c.in_ok-record.ensures c.in_ok-put.ensures c.in_ok-emit_body.ensures.code c.in_ok-inner.ensures refl
    (ap (λ (z : Vec Spot Global). spots_of z.items) c.replace-outside.ensures.after ∙ c.in_ok-inside.ensures)
    c.left_spot-spot.ensures (c.spot_at-outer.ensures ∙ ap (λ (z : List Spot). get_or (spots_of z) c.args.label no_spot) c.deref.ensures.value)
    c.settle.ensures.sure

pub emit_labelled-returns-in_err-emit_body-clause-told : goal.emit_labelled-returns-in_err-emit_body-clause-told
emit_labelled-returns-in_err-emit_body-clause-told t c =
    passed _ c.from_residual-in_err-emit_body.result c.in_err-emit_body.field-0.0 c.from_residual-in_err-emit_body.ensures.1
    (λ told. c.in_err-emit_body.ensures.told
    (labelled-told rows (tables_of c.args.tables.now).types (tree_of c.args.body.now) (mark_of c.args.pass.now) (record {
      place = length
          c.args.pass.now.code.items;
      frame = record {
        depth = c.args.pass.now.depth;
        scope = c.args.pass.now.slots;
        exits = exits_of (spots_of
            c.push_spot.new.spots.items);
      };
      found = c.reserve.new.found.items;
    }) refl
    (frame-is (record { depth = c.args.pass.now.depth; scope = c.args.pass.now.slots; exits = exits_of (spots_of c.push_spot.new.spots.items) }) (labelled
    (frame_of c.args.pass.now)) refl refl
    (exits-push (spots_of c.push_spot.new.spots.items) (spots_of c.args.pass.now.spots.items) _ c.in_ok-push_spot.ensures))
    c.in_ok-number.ensures.found c.args.sure c.args.at.now.labels.items told))

pub emit_labelled-returns-in_err-settle-clause-told : goal.emit_labelled-returns-in_err-settle-clause-told
emit_labelled-returns-in_err-settle-clause-told t c =
    passed _ c.from_residual-in_err-settle.result c.in_err-settle.field-0.0 c.from_residual-in_err-settle.ensures.1
    (λ told. c.in_err-settle.ensures.told
    (λ s. ap (λ z. get_or c.args.at.now.labels.items z 0) c.in_ok-number.ensures.number ∙ labelled-settled rows (tables_of c.args.tables.now).types (tree_of
    c.args.body.now) (mark_of c.args.pass.now) (record {
      place = length c.args.pass.now.code.items;
      frame = record {
        depth = c.args.pass.now.depth;
        scope =
            c.args.pass.now.slots;
        exits = exits_of (spots_of c.push_spot.new.spots.items);
      };
      found = c.reserve.new.found.items;
    }) refl
    (frame-is (record { depth = c.args.pass.now.depth; scope = c.args.pass.now.slots; exits = exits_of (spots_of c.push_spot.new.spots.items) }) (labelled
    (frame_of c.args.pass.now)) refl refl
    (exits-push (spots_of c.push_spot.new.spots.items) (spots_of c.args.pass.now.spots.items) _ c.in_ok-push_spot.ensures))
    c.in_ok-number.ensures.found c.args.sure c.args.at.now.labels.items told (mark_of c.emit_body.new.pass) c.in_ok-emit_body.ensures.walked s))

pub emit_labelled-returns-clause-walked : goal.emit_labelled-returns-clause-walked
emit_labelled-returns-clause-walked t c =
    let m1 : Mark = record {
      place = length c.args.pass.now.code.items;
      frame = record {
        depth = c.args.pass.now.depth;
        scope = c.args.pass.now.slots;
        exits =
            exits_of (spots_of c.push_spot.new.spots.items);
      };
      found = c.reserve.new.found.items;
    } in
    let m2 = mark_of c.emit_body.new.pass in
    let m3 : Mark = record {
      place = length c.emit_body.new.pass.code.items;
      frame = record { depth = c.emit_body.new.pass.depth; scope = c.emit_body.new.pass.slots; exits = exits_of (spots_of c.pop_spot.new.spots.items) };
      found = c.settle.new.found.items;
    } in
    let h2 = c.in_ok-emit_body.ensures.walked in
    let same : m1.frame ≡ labelled (frame_of c.args.pass.now) = (frame-is (record {
      depth = c.args.pass.now.depth;
      scope = c.args.pass.now.slots;
      exits =
          exits_of (spots_of c.push_spot.new.spots.items);
    }) (labelled (frame_of c.args.pass.now)) refl refl
    (exits-push (spots_of c.push_spot.new.spots.items) (spots_of c.args.pass.now.spots.items) _ c.in_ok-push_spot.ensures)) in
    labelled-walked rows (tables_of c.args.tables.now).types (tree_of c.args.body.now) (mark_of c.args.pass.now) m1 m2 m3 refl same
    c.in_ok-number.ensures.found h2 refl
    (frame-is m3.frame (frame_of c.args.pass.now) (ap (λ (z : Mark). z.frame.depth) h2) (ap (λ (z : Mark). z.frame.scope) h2)
    (exits-pop _ _ c.pop_spot.ensures ∙ ap (λ (z : Mark). drop 1 z.frame.exits) h2 ∙ ap (λ (z : Frame). drop 1 z.exits) same))
    (c.in_ok-settle.ensures.found ∙ ap (λ z. set c.emit_body.new.pass.found.items z (length c.emit_body.new.pass.code.items)) c.in_ok-number.ensures.number)

pub emit_guarded-returns-in_err-emit_body-clause-told : goal.emit_guarded-returns-in_err-emit_body-clause-told
emit_guarded-returns-in_err-emit_body-clause-told t c =
    passed _ c.from_residual-in_err-emit_body.result c.in_err-emit_body.field-0.0 c.from_residual-in_err-emit_body.ensures.1
    (λ told. c.in_err-emit_body.ensures.told
    (under-told rows (tables_of c.args.tables.now).types c.args.label (tree_of c.args.body.now) (mark_of c.args.pass.now) (record {
      place = length c.put.new.code.items;
      frame = record { depth = c.in_ok-inner.inner; scope = c.args.pass.now.slots; exits = exits_of (spots_of c.replace-outside.new.dest.items) };
      found = c.reserve.new.found.items;
    })
    (grown c.args.pass.now.code.items c.put.new.code.items (PushHandler c.in_ok-record.record c.label-target.result ∷ []) 1 c.in_ok-put.ensures refl)
    (frame-is (record { depth = c.in_ok-inner.inner; scope = c.args.pass.now.slots; exits = exits_of (spots_of c.replace-outside.new.dest.items) }) (guarded
    c.args.label (frame_of c.args.pass.now)) c.in_ok-inner.ensures refl
    (under-frame (frame_of c.args.pass.now) (frame_of c.args.pass.now) c.args.label (spots_of c.args.pass.now.spots.items) (spots_of
    c.replace-outside.new.dest.items) (spot_of c.spot_at-outer.result) (spot_of c.left_spot-spot.result) refl
    (c.spot_at-outer.ensures ∙ ap (λ (z : List Spot). get_or (spots_of z) c.args.label no_spot) c.deref.ensures.value) c.left_spot-spot.ensures
    (ap (λ (z : Vec Spot Global). spots_of z.items) c.replace-outside.ensures.after ∙ c.in_ok-inside.ensures)))
    c.in_ok-number.ensures.found c.args.sure c.args.at.now.labels.items told))

pub emit_guarded-returns-clause-walked : goal.emit_guarded-returns-clause-walked
emit_guarded-returns-clause-walked t c =
    let m2 = mark_of c.emit_body.new.pass in
    let h2 = c.in_ok-emit_body.ensures.walked in
    ok-then c.settle.result (λ h. under-walked rows (tables_of c.args.tables.now).types c.args.label (tree_of c.args.body.now) (mark_of c.args.pass.now)
    (record {
      place = length c.put.new.code.items;
      frame = record { depth = c.in_ok-inner.inner; scope = c.args.pass.now.slots; exits = exits_of (spots_of c.replace-outside.new.dest.items) };
      found = c.reserve.new.found.items;
    })
    (grown c.args.pass.now.code.items c.put.new.code.items (PushHandler c.in_ok-record.record c.label-target.result ∷ []) 1 c.in_ok-put.ensures refl)
    (frame-is (record { depth = c.in_ok-inner.inner; scope = c.args.pass.now.slots; exits = exits_of (spots_of c.replace-outside.new.dest.items) }) (guarded
    c.args.label (frame_of c.args.pass.now)) c.in_ok-inner.ensures refl
    (under-frame (frame_of c.args.pass.now) (frame_of c.args.pass.now) c.args.label (spots_of c.args.pass.now.spots.items) (spots_of
    c.replace-outside.new.dest.items) (spot_of c.spot_at-outer.result) (spot_of c.left_spot-spot.result) refl
    (c.spot_at-outer.ensures ∙ ap (λ (z : List Spot). get_or (spots_of z) c.args.label no_spot) c.deref.ensures.value) c.left_spot-spot.ensures
    (ap (λ (z : Vec Spot Global). spots_of z.items) c.replace-outside.ensures.after ∙ c.in_ok-inside.ensures)))
    c.in_ok-number.ensures.found m2 _ h2 refl
    (frame-is _ (frame_of c.args.pass.now) refl (ap (λ (z : Mark). z.frame.scope) h2) (ap (λ (z : Vec Spot Global). exits_of (spots_of z.items))
    c.replace-outside.ensures.value))
    (h ∙ ap (λ z. set c.emit_body.new.pass.found.items z (length c.emit_body.new.pass.code.items)) c.in_ok-number.ensures.number)) c.settle.ensures.found

pub emit_guarded-returns-clause-told : goal.emit_guarded-returns-clause-told
emit_guarded-returns-clause-told t c =
    err-then c.settle.result (λ e h told. h
    (λ s. ap (λ z. get_or c.args.at.now.labels.items z 0) c.in_ok-number.ensures.number ∙ under-settled rows (tables_of c.args.tables.now).types c.args.label
    (tree_of c.args.body.now) (mark_of c.args.pass.now) (record {
      place = length c.put.new.code.items;
      frame = record { depth = c.in_ok-inner.inner; scope = c.args.pass.now.slots; exits = exits_of (spots_of c.replace-outside.new.dest.items) };
      found = c.reserve.new.found.items;
    })
    (grown c.args.pass.now.code.items c.put.new.code.items (PushHandler c.in_ok-record.record c.label-target.result ∷ []) 1 c.in_ok-put.ensures refl)
    (frame-is (record { depth = c.in_ok-inner.inner; scope = c.args.pass.now.slots; exits = exits_of (spots_of c.replace-outside.new.dest.items) }) (guarded
    c.args.label (frame_of c.args.pass.now)) c.in_ok-inner.ensures refl
    (under-frame (frame_of c.args.pass.now) (frame_of c.args.pass.now) c.args.label (spots_of c.args.pass.now.spots.items) (spots_of
    c.replace-outside.new.dest.items) (spot_of c.spot_at-outer.result) (spot_of c.left_spot-spot.result) refl
    (c.spot_at-outer.ensures ∙ ap (λ (z : List Spot). get_or (spots_of z) c.args.label no_spot) c.deref.ensures.value) c.left_spot-spot.ensures
    (ap (λ (z : Vec Spot Global). spots_of z.items) c.replace-outside.ensures.after ∙ c.in_ok-inside.ensures)))
    c.in_ok-number.ensures.found c.args.sure c.args.at.now.labels.items told (mark_of c.emit_body.new.pass) c.in_ok-emit_body.ensures.walked s))
    c.settle.ensures.told

-- What stands behind it.

pub emit_ends-loop-left-init : goal.emit_ends-loop-left-init
emit_ends-loop-left-init t c =
    let at = places_of c.args.tables.now c.args.at.now in
    let xs = c.args.steps.now in
    record {
      within = search rules;
      kept = λ p e h. ends-start-kept at xs (length xs) e (env_of c.args.pass.now) refl h;
      code = λ p e h. ends-start-code at xs (length xs) e c.args.pass.now.code.items (length c.args.pass.now.code.items) refl;
      ends = λ p e h. ends-start-stand at (label_in c.args.at.now) xs c.args.numbers.now (length xs) e (length c.args.pass.now.code.items) refl;
      met = λ front back pc f hk hl hs. ends-start rows (tables_of c.args.tables.now).types step_of xs (length xs) pc (length c.args.pass.now.code.items) f
          (frame_of c.args.pass.now) front back c.args.pass.now.found.items refl hk hl;
    }

pub emit_ends-loop-left-preserved : goal.emit_ends-loop-left-preserved
emit_ends-loop-left-preserved t c =
    let at = places_of c.args.tables.now c.args.at.now in
    let label = label_in c.args.at.now in
    let w = c.loop-left.invariant.within in
    let q = c.loop-left-test.true in
    let left = c.loop-left.left in
    let k = left - 1 in
    let m : left ≡ k + 1 = omega (arith, q) in
    let lt : k < length c.args.steps.now = omega (arith, w, q) in
    let xs = c.args.steps.now in
    let x = c.index-steps-left.result in
    let old = c.args.pass.now.code.items in
    let now = c.loop-left.pass.code.items in
    let new = c.emit_end.new.pass.code.items in
    let was = λ (p : c.args.sure ≡ true) (e : Env) (h : Kept (after_all at e (map step_of xs)) (env_of c.args.pass.now)).
    ends-kept at c.rows_are_right.ensures label xs k left x x e (env_of c.loop-left.pass) m lt c.index-steps-left.is (c.loop-left.invariant.kept p e h) in
    record {
      within = omega (arith, w);
      kept = λ p e h. c.in_ok-emit_end.ensures.kept p (after_all at e (map step_of (take k xs))) (was p e h);
      code = λ p e h. ends-code-step at c.rows_are_right.ensures label xs k left x x e old now new m lt c.index-steps-left.is (c.loop-left.invariant.code p e h)
          (c.in_ok-emit_end.ensures.code p (after_all at e (map step_of (take k xs))) (was p e h));
      ends = λ p e h. ends-stand-step at c.rows_are_right.ensures label xs c.args.numbers.now k left c.number_at-number.result x x e old now m lt
          c.index-steps-left.is
          c.number_at-number.ensures (c.loop-left.invariant.code p e h) (c.loop-left.invariant.ends p e h)
          (c.in_ok-emit_end.ensures.ends p (after_all at e (map step_of (take k xs))) (was p e h));
      met = λ front back pc f hk hl hs. ends-turn rows (tables_of c.args.tables.now).types step_of xs k x lt c.index-steps-left.is left pc (length old)
          c.number_at-number.result
          c.args.numbers.now f front back (mark_of c.loop-left.pass) (mark_of c.emit_end.new.pass) m (c.loop-left.invariant.met front back pc f hk hl hs) hs
          c.number_at-number.ensures c.in_ok-emit_end.ensures.walked;
    }

pub emit_ends-returns-in_err-emit_end-clause-told : goal.emit_ends-returns-in_err-emit_end-clause-told
emit_ends-returns-in_err-emit_end-clause-told t c =
    let w = c.loop-left.invariant.within in
    let q = c.loop-left-test.true in
    let left = c.loop-left.left in
    let k = left - 1 in
    let m : left ≡ k + 1 = omega (arith, q) in
    let lt : k < length c.args.steps.now = omega (arith, w, q) in
    passed _ c.from_residual.result c.in_err-emit_end.field-0.0 c.from_residual.ensures.1
    (λ front back pc f hk hl hs told inside.
    let opened_ = opened_all rows (tables_of c.args.tables.now).types pc f (map step_of c.args.steps.now) in
    let long : length c.args.pass.now.found.items ≡ length front + (length opened_ + length back) =
    ap length hl ∙ length-append front (opened_ ++ back) ∙ ap (λ z. length front + z) (length-append opened_ back) in
    ends-turn-told rows (tables_of c.args.tables.now).types step_of c.args.steps.now k c.index-steps-left.result lt c.index-steps-left.is left pc (length
    c.args.pass.now.code.items)
    c.number_at-number.result c.args.numbers.now f front back (mark_of c.loop-left.pass) (mark_of c.emit_end.new.pass) m (c.loop-left.invariant.met front back
    pc f hk hl hs) hs
    c.number_at-number.ensures c.args.sure c.args.at.now.labels.items (length c.args.pass.now.found.items) long told inside c.in_err-emit_end.ensures.told)

pub emit_ends-returns-clause-walked : goal.emit_ends-returns-clause-walked
emit_ends-returns-clause-walked t c front back pc f hk hl hs =
    ends-finish rows (tables_of c.args.tables.now).types step_of c.args.steps.now c.loop-left.left pc (length c.args.pass.now.code.items) f front back
    (mark_of c.loop-left.pass)
    c.loop-left-test.false (c.loop-left.invariant.met front back pc f hk hl hs)

pub emit_ends-returns-clause-code : goal.emit_ends-returns-clause-code
emit_ends-returns-clause-code t c p e h =
    ends-done-code (places_of c.args.tables.now c.args.at.now) c.args.steps.now c.loop-left.left e c.args.pass.now.code.items c.loop-left.pass.code.items
    c.loop-left-test.false
    (c.loop-left.invariant.code p e h)

pub emit_ends-returns-clause-kept : goal.emit_ends-returns-clause-kept
emit_ends-returns-clause-kept t c p e h =
    ends-done-kept (places_of c.args.tables.now c.args.at.now) c.args.steps.now c.loop-left.left e (env_of c.loop-left.pass) c.loop-left-test.false
    (c.loop-left.invariant.kept p e h)

pub emit_ends-returns-clause-ends : goal.emit_ends-returns-clause-ends
emit_ends-returns-clause-ends t c p e h =
    ends-done-stand (places_of c.args.tables.now c.args.at.now) (label_in c.args.at.now) c.args.steps.now c.args.numbers.now c.loop-left.left e (length
    c.args.pass.now.code.items)
    c.loop-left-test.false (c.loop-left.invariant.ends p e h)

pub emit_end-returns-in_ok-emit_body-in-Attempt-clause-code : goal.emit_end-returns-in_ok-emit_body-in-Attempt-clause-code
emit_end-returns-in_ok-emit_body-in-Attempt-clause-code t c p e h =
    attempt-end-code (places_of c.args.tables.now c.args.at.now) c.rows_are_right.ensures e (env_of c.args.pass.now) c.args.step.now c.in-Attempt.kind
    c.in-Attempt.primitive _ c.in-Attempt.variable
    c.in-Attempt.raised c.deref.result.now c.depth_of-depth.result c.args.pass.now.code.items c.emit_late.new.code.items c.emit_body.new.pass.code.items
    c.in-Attempt.is c.deref.ensures h
    c.depth_of-depth.ensures c.in_ok-emit_late-in-Attempt.ensures (c.in_ok-emit_body-in-Attempt.ensures.code p)

pub emit_end-returns-in-Label-clause-kept : goal.emit_end-returns-in-Label-clause-kept
emit_end-returns-in-Label-clause-kept t c p e h =
    label-end-kept (places_of c.args.tables.now c.args.at.now) e (env_of c.args.pass.now) _ c.args.step.now c.in-Label.params _ c.len.result c.in-Label.is h
    (omega (arith, c.len.ensures, c.in-Label.params.ok.0))
    c.leave-in-Label.ensures.depth c.leave-in-Label.ensures.slots refl

pub emit_end-returns-in-Again-clause-kept : goal.emit_end-returns-in-Again-clause-kept
emit_end-returns-in-Again-clause-kept t c p e h =
    again-end-kept (places_of c.args.tables.now c.args.at.now) e (env_of c.args.pass.now) _ c.args.step.now c.in-Again.params _ c.len-in-Again.result
    c.in-Again.is h (omega (arith, c.len-in-Again.ensures, c.in-Again.params.ok.0))
    c.leave-in-Again.ensures.depth c.leave-in-Again.ensures.slots c.pop_spot.ensures

pub emit_end-returns-in_ok-settle-in-Case-clause-code : goal.emit_end-returns-in_ok-settle-in-Case-clause-code
emit_end-returns-in_ok-settle-in-Case-clause-code t c =
    case-end-code (places_of c.args.tables.now c.args.at.now) c.rows_are_right.ensures (label_in c.args.at.now) c.emit_body-in-Case.result c.args.sure
    c.args.step.now _ c.in-Case.tag c.in-Case.others
    c.in-Case.last c.deref-in-Case.result.now c.deref-in-Case-3.result.now c.deref-in-Case-4.result.now c.in_ok-tags-in-Case.tags.items
    c.deref-in-Case-2.result.now
    (choice_of c.in_ok-how-in-Case.how) c.in_ok-first-in-Case.first c.in_ok-end-in-Case.end (env_of c.args.pass.now) (env_of c.emit_arms.new.pass)
    c.args.pass.now.code.items
    c.emit_arms.new.pass.code.items c.emit_body-in-Case.new.pass.code.items c.in-Case.is c.deref-in-Case.ensures.value
    c.deref-in-Case-3.ensures.value c.deref-in-Case-4.ensures c.in_ok-tags-in-Case.ensures c.deref-in-Case-2.ensures.value c.in_ok-how-in-Case.ensures
    c.in_ok-end-in-Case.ensures.arms c.in_ok-end-in-Case.ensures.kept c.in_ok-settle-in-Case.ensures.sure c.emit_body-in-Case.ensures.code

pub emit_end-returns-in_ok-settle-in-Case-clause-kept : goal.emit_end-returns-in_ok-settle-in-Case-clause-kept
emit_end-returns-in_ok-settle-in-Case-clause-kept t c =
    case-end-kept (places_of c.args.tables.now c.args.at.now) c.rows_are_right.ensures (label_in c.args.at.now) c.emit_body-in-Case.result c.args.sure
    c.args.step.now _ c.in-Case.tag
    c.in-Case.others c.in-Case.last (env_of c.args.pass.now) (env_of c.emit_arms.new.pass) (env_of c.emit_body-in-Case.new.pass) c.in-Case.is
    c.in_ok-end-in-Case.ensures.kept
    c.emit_body-in-Case.ensures.kept

pub emit_end-returns-in_ok-settle-in-Case-clause-ends : goal.emit_end-returns-in_ok-settle-in-Case-clause-ends
emit_end-returns-in_ok-settle-in-Case-clause-ends t c =
    case-end-stands (places_of c.args.tables.now c.args.at.now) c.rows_are_right.ensures (label_in c.args.at.now) c.emit_body-in-Case.result c.args.sure
    c.args.step.now _ c.in-Case.tag c.args.number
    c.in_ok-first-in-Case.first c.in_ok-end-in-Case.end c.in-Case.others c.in-Case.last c.deref-in-Case.result.now c.deref-in-Case-3.result.now
    c.deref-in-Case-4.result.now
    c.in_ok-tags-in-Case.tags.items c.deref-in-Case-2.result.now (choice_of c.in_ok-how-in-Case.how) (env_of c.args.pass.now) (env_of c.emit_arms.new.pass)
    c.args.pass.now.code.items
    c.emit_arms.new.pass.code.items c.emit_body-in-Case.new.pass.code.items c.in-Case.is c.deref-in-Case.ensures.value
    c.deref-in-Case-3.ensures.value c.deref-in-Case-4.ensures c.in_ok-tags-in-Case.ensures c.deref-in-Case-2.ensures.value c.in_ok-how-in-Case.ensures
    c.in_ok-first-in-Case.ensures
    c.in_ok-end-in-Case.ensures.arms c.in_ok-end-in-Case.ensures.kept c.in_ok-settle-in-Case.ensures.sure c.emit_body-in-Case.ensures.code

pub emit_end-returns-in-Plain-clause-walked : goal.emit_end-returns-in-Plain-clause-walked
emit_end-returns-in-Plain-clause-walked t c front back pc f hf hl hn =
    variable-ends (tables_of c.args.tables.now).types c.args.step.now front back pc f (mark_of c.args.pass.now) hf hl _ c.in-Plain.is refl
    c.leave-in-Plain.ensures.depth c.leave-in-Plain.ensures.slots refl refl

pub emit_end-returns-in_err-settle-in-Attempt-clause-told : goal.emit_end-returns-in_err-settle-in-Attempt-clause-told
emit_end-returns-in_err-settle-in-Attempt-clause-told t c =
    passed _ c.from_residual.result c.in_err-settle-in-Attempt.field-0.0 c.from_residual.ensures.1
    (λ front back pc f hf hl hn told inside. c.in_err-settle-in-Attempt.ensures.told
    (attempt-settles (tables_of c.args.tables.now).types c.args.step.now front back pc f (mark_of c.args.pass.now) hf hl c.args.number hn c.in-Attempt.kind
    c.in-Attempt.primitive _ c.in-Attempt.variable c.in-Attempt.raised c.in-Attempt.raised.value c.in-Attempt.is refl c.args.sure c.args.at.now.labels.items
    told))

pub emit_end-returns-in_err-emit_body-in-Attempt-clause-told : goal.emit_end-returns-in_err-emit_body-in-Attempt-clause-told
emit_end-returns-in_err-emit_body-in-Attempt-clause-told t c =
    passed _ c.from_residual-in_err-emit_body-in-Attempt.result c.in_err-emit_body-in-Attempt.field-0.0 c.from_residual-in_err-emit_body-in-Attempt.ensures.1
    (λ front back pc f hf hl hn told inside. c.in_err-emit_body-in-Attempt.ensures.told
    (attempt-asks (tables_of c.args.tables.now).types c.args.step.now front back pc f (mark_of c.args.pass.now) hf hl c.args.number hn c.in-Attempt.kind
    c.in-Attempt.primitive _ c.in-Attempt.variable c.in-Attempt.raised c.deref.result.now c.in-Attempt.is c.deref.ensures (record {
      place = length
          c.emit_late.new.code.items;
      frame = frame_of c.args.pass.now;
      found = c.settle.new.found.items;
    })
    (late-long (rows.late (operands_of c.in-Attempt.kind) c.in-Attempt.primitive) _ _ c.args.pass.now.code.items c.emit_late.new.code.items
    c.in_ok-emit_late-in-Attempt.ensures) refl
    c.in_ok-settle-in-Attempt.ensures.found c.args.sure c.args.at.now.labels.items inside))

pub emit_end-returns-in_ok-emit_body-in-Attempt-clause-walked : goal.emit_end-returns-in_ok-emit_body-in-Attempt-clause-walked
emit_end-returns-in_ok-emit_body-in-Attempt-clause-walked t c front back pc f hf hl hn =
    attempt-ends (tables_of c.args.tables.now).types c.args.step.now front back pc f (mark_of c.args.pass.now) hf hl c.args.number hn c.in-Attempt.kind
    c.in-Attempt.primitive _ c.in-Attempt.variable c.in-Attempt.raised c.deref.result.now c.in-Attempt.is c.deref.ensures (record {
      place = length
          c.emit_late.new.code.items;
      frame = frame_of c.args.pass.now;
      found = c.settle.new.found.items;
    })
    (late-long (rows.late (operands_of c.in-Attempt.kind) c.in-Attempt.primitive) _ _ c.args.pass.now.code.items c.emit_late.new.code.items
    c.in_ok-emit_late-in-Attempt.ensures) refl
    c.in_ok-settle-in-Attempt.ensures.found (mark_of c.emit_body.new.pass) _ c.in_ok-emit_body-in-Attempt.ensures.walked refl
    c.leave.ensures.depth c.leave.ensures.slots refl refl

pub emit_end-returns-in-Turn-clause-walked : goal.emit_end-returns-in-Turn-clause-walked
emit_end-returns-in-Turn-clause-walked t c front back pc f hf hl hn =
    same-ends (tables_of c.args.tables.now).types c.args.step.now front back pc f (mark_of c.args.pass.now) hf hl (mark_of c.args.pass.now) c.in-Turn.is refl
    refl refl

pub emit_end-returns-in-Label-clause-walked : goal.emit_end-returns-in-Label-clause-walked
emit_end-returns-in-Label-clause-walked t c front back pc f hf hl hn =
    label-ends (tables_of c.args.tables.now).types c.args.step.now front back pc f (mark_of c.args.pass.now) hf hl c.in-Label.params _ c.len.result _
    c.in-Label.is (omega (arith, c.len.ensures, c.in-Label.params.ok.0)) refl c.leave-in-Label.ensures.depth
    c.leave-in-Label.ensures.slots refl refl

pub emit_end-returns-in-Again-clause-walked : goal.emit_end-returns-in-Again-clause-walked
emit_end-returns-in-Again-clause-walked t c front back pc f hf hl hn =
    again-ends (tables_of c.args.tables.now).types c.args.step.now front back pc f (mark_of c.args.pass.now) hf hl c.in-Again.params _ c.len-in-Again.result _
    c.in-Again.is (omega (arith, c.len-in-Again.ensures, c.in-Again.params.ok.0)) refl c.leave-in-Again.ensures.depth
    c.leave-in-Again.ensures.slots (exits-pop _ _ c.pop_spot.ensures) refl

pub emit_end-returns-in_err-settle-in-When-clause-told : goal.emit_end-returns-in_err-settle-in-When-clause-told
emit_end-returns-in_err-settle-in-When-clause-told t c =
    passed _ c.from_residual-in_err-settle-in-When.result c.in_err-settle-in-When.field-0.0 c.from_residual-in_err-settle-in-When.ensures.1
    (λ front back pc f hf hl hn told inside. c.in_err-settle-in-When.ensures.told
    (when-settles (tables_of c.args.tables.now).types c.args.step.now front back pc f (mark_of c.args.pass.now) hf hl c.args.number hn _ _ c.in-When.other
    c.in-When.other.value c.in-When.is refl c.args.sure c.args.at.now.labels.items told))

pub emit_end-returns-in_ok-settle-in-When-clause-walked : goal.emit_end-returns-in_ok-settle-in-When-clause-walked
emit_end-returns-in_ok-settle-in-When-clause-walked t c =
    ok-then c.emit_body-in-When.result (λ h front back pc f hf hl hn. when-ends (tables_of c.args.tables.now).types c.args.step.now front back pc f (mark_of
    c.args.pass.now) hf hl c.args.number hn _ _ c.in-When.other c.deref-in-When.result.now c.in-When.is c.deref-in-When.ensures (record {
      place = length
          c.args.pass.now.code.items;
      frame = frame_of c.args.pass.now;
      found = c.settle-in-When.new.found.items;
    }) refl refl c.in_ok-settle-in-When.ensures.found
    (mark_of c.emit_body-in-When.new.pass) h) c.emit_body-in-When.ensures.walked

pub emit_end-returns-in_ok-settle-in-When-clause-told : goal.emit_end-returns-in_ok-settle-in-When-clause-told
emit_end-returns-in_ok-settle-in-When-clause-told t c =
    err-then c.emit_body-in-When.result (λ e h front back pc f hf hl hn told inside. h (when-asks (tables_of c.args.tables.now).types c.args.step.now front
    back pc f (mark_of c.args.pass.now) hf hl c.args.number hn _ _ c.in-When.other c.deref-in-When.result.now c.in-When.is c.deref-in-When.ensures (record {
      place = length c.args.pass.now.code.items;
      frame = frame_of c.args.pass.now;
      found = c.settle-in-When.new.found.items;
    }) refl refl
    c.in_ok-settle-in-When.ensures.found
    c.args.sure c.args.at.now.labels.items inside)) c.emit_body-in-When.ensures.told

pub emit_end-returns-in_err-end-in-Case-clause-told : goal.emit_end-returns-in_err-end-in-Case-clause-told
emit_end-returns-in_err-end-in-Case-clause-told t c =
    passed _ c.from_residual-in_err-end-in-Case.result c.in_err-end-in-Case.field-0.0 c.from_residual-in_err-end-in-Case.ensures.1
    (λ front back pc f hf hl hn told inside. case-asks (places_of c.args.tables.now c.args.at.now) c.rows_are_right.ensures (label_in c.args.at.now)
    c.args.step.now _ c.in-Case.tag c.args.number c.in_ok-first-in-Case.first pc c.in-Case.others c.in-Case.last c.deref-in-Case.result.now
    c.deref-in-Case-3.result.now c.in-Case.last.value
    c.in_ok-tags-in-Case.tags.items c.deref-in-Case-2.result.now (choice_of c.in_ok-how-in-Case.how) front back f (mark_of c.args.pass.now) c.in-Case.is
    c.deref-in-Case.ensures.value c.deref-in-Case-3.ensures.value refl
    c.in_ok-tags-in-Case.ensures c.deref-in-Case-2.ensures.value c.in_ok-how-in-Case.ensures c.in_ok-first-in-Case.ensures hf hl hn c.args.sure
    c.args.at.now.labels.items told inside c.in_err-end-in-Case.ensures.told)

pub emit_end-returns-in_err-settle-in-Case-clause-told : goal.emit_end-returns-in_err-settle-in-Case-clause-told
emit_end-returns-in_err-settle-in-Case-clause-told t c =
    passed _ c.from_residual-in_err-settle-in-Case.result c.in_err-settle-in-Case.field-0.0 c.from_residual-in_err-settle-in-Case.ensures.1
    (λ front back pc f hf hl hn told inside. c.in_err-settle-in-Case.ensures.told
    (case-settles (places_of c.args.tables.now c.args.at.now) c.rows_are_right.ensures (label_in c.args.at.now) c.args.step.now _ c.in-Case.tag c.args.number
    c.in_ok-first-in-Case.first pc c.in-Case.others c.in-Case.last c.deref-in-Case.result.now c.deref-in-Case-3.result.now c.in-Case.last.value
    c.in_ok-tags-in-Case.tags.items c.deref-in-Case-2.result.now (choice_of c.in_ok-how-in-Case.how) front back f (mark_of c.args.pass.now) c.in-Case.is
    c.deref-in-Case.ensures.value c.deref-in-Case-3.ensures.value refl
    c.in_ok-tags-in-Case.ensures c.deref-in-Case-2.ensures.value c.in_ok-how-in-Case.ensures c.in_ok-first-in-Case.ensures hf hl hn c.in_ok-end-in-Case.end
    (mark_of c.emit_arms.new.pass) c.in_ok-end-in-Case.ensures.walked c.args.sure c.args.at.now.labels.items told))

pub emit_end-returns-in_ok-settle-in-Case-clause-walked : goal.emit_end-returns-in_ok-settle-in-Case-clause-walked
emit_end-returns-in_ok-settle-in-Case-clause-walked t c =
    ok-then c.emit_body-in-Case.result (λ h front back pc f hf hl hn. case-ends (places_of c.args.tables.now c.args.at.now) c.rows_are_right.ensures (label_in
    c.args.at.now) c.args.step.now _ c.in-Case.tag c.args.number c.in_ok-first-in-Case.first pc c.in-Case.others c.in-Case.last c.deref-in-Case.result.now
    c.deref-in-Case-3.result.now c.deref-in-Case-4.result.now
    c.in_ok-tags-in-Case.tags.items c.deref-in-Case-2.result.now (choice_of c.in_ok-how-in-Case.how) front back f (mark_of c.args.pass.now) c.in-Case.is
    c.deref-in-Case.ensures.value c.deref-in-Case-3.ensures.value c.deref-in-Case-4.ensures
    c.in_ok-tags-in-Case.ensures c.deref-in-Case-2.ensures.value c.in_ok-how-in-Case.ensures c.in_ok-first-in-Case.ensures hf hl hn c.in_ok-end-in-Case.end
    (mark_of c.emit_arms.new.pass) c.in_ok-end-in-Case.ensures.walked
    (record { place = length c.emit_arms.new.pass.code.items; frame = frame_of c.emit_arms.new.pass; found = c.settle-in-Case.new.found.items }) refl refl
    c.in_ok-settle-in-Case.ensures.found (mark_of c.emit_body-in-Case.new.pass) h) c.emit_body-in-Case.ensures.walked

pub emit_end-returns-in_ok-settle-in-Case-clause-told : goal.emit_end-returns-in_ok-settle-in-Case-clause-told
emit_end-returns-in_ok-settle-in-Case-clause-told t c =
    err-then c.emit_body-in-Case.result (λ e h front back pc f hf hl hn told inside. h (case-last (places_of c.args.tables.now c.args.at.now)
    c.rows_are_right.ensures (label_in c.args.at.now) c.args.step.now _ c.in-Case.tag c.args.number c.in_ok-first-in-Case.first pc c.in-Case.others
    c.in-Case.last c.deref-in-Case.result.now c.deref-in-Case-3.result.now c.deref-in-Case-4.result.now
    c.in_ok-tags-in-Case.tags.items c.deref-in-Case-2.result.now (choice_of c.in_ok-how-in-Case.how) front back f (mark_of c.args.pass.now) c.in-Case.is
    c.deref-in-Case.ensures.value c.deref-in-Case-3.ensures.value c.deref-in-Case-4.ensures
    c.in_ok-tags-in-Case.ensures c.deref-in-Case-2.ensures.value c.in_ok-how-in-Case.ensures c.in_ok-first-in-Case.ensures hf hl hn c.in_ok-end-in-Case.end
    (mark_of c.emit_arms.new.pass) c.in_ok-end-in-Case.ensures.walked
    (record { place = length c.emit_arms.new.pass.code.items; frame = frame_of c.emit_arms.new.pass; found = c.settle-in-Case.new.found.items }) refl refl
    c.in_ok-settle-in-Case.ensures.found c.args.sure c.args.at.now.labels.items inside)) c.emit_body-in-Case.ensures.told

-- Arms.

pub emit_arms-loop-i-init : goal.emit_arms-loop-i-init
emit_arms-loop-i-init t c = record {
  kept = search rules;
  code = search rules;
  met = λ front back hn hl. arms-start rows (tables_of c.args.tables.now).types arm_of c.args.arms.now (choice_of c.args.how) c.args.first (length
      c.args.pass.now.code.items)
      (frame_of c.args.pass.now) front back c.args.pass.now.found.items hn hl;
}

pub emit_arms-loop-i-preserved : goal.emit_arms-loop-i-preserved
emit_arms-loop-i-preserved t c = record {
  kept = λ p.
      let was = c.loop-i.invariant.kept p in
      let now = c.in_ok-emit_body.ensures.kept p in
      record { depth = now.depth ∙ was.depth; scope = now.scope ∙ was.scope; spots = now.spots ∙ was.spots };
  code = λ p. arms-turn (places_of c.args.tables.now c.args.at.now) c.rows_are_right.ensures (label_in c.args.at.now) (choice_of c.args.how) c.args.arms.now
      c.loop-i.i c.index-arms-i.result
      c.args.first c.loop-i.number c.in_ok-number.number (env_of c.args.pass.now) (env_of c.loop-i.pass) c.args.pass.now.code.items c.loop-i.pass.code.items
      c.emit_arm_test.new.code.items c.emit_body.new.pass.code.items c.loop-i-test.true c.index-arms-i.is c.in_ok-number.ensures (c.loop-i.invariant.kept p)
      (c.loop-i.invariant.code p) (c.in_ok-settle.ensures.sure p) c.in_ok-emit_arm_test.ensures (c.in_ok-emit_body.ensures.code p);
  met = λ front back hn hl. mark-turn rows (tables_of c.args.tables.now).types arm_of c.args.arms.now c.loop-i.i c.index-arms-i.result c.loop-i-test.true
      c.index-arms-i.is
      (choice_of c.args.how) c.args.first c.loop-i.number (length c.args.pass.now.code.items) (frame_of c.args.pass.now) front back (mark_of c.loop-i.pass)
      (c.loop-i.invariant.met front back hn hl) (tree_of c.index-arms-i.result.body) c.settle.new.found.items (length c.emit_arm_test.new.code.items)
      c.in_ok-number.number
      (mark_of c.emit_body.new.pass) (ap (λ (a : ArmTree). a.body) (arm-is c.index-arms-i.result)) c.in_ok-settle.ensures.found
      (arm-test-long (choice_of c.args.how) c.loop-i.pass.depth c.index-arms-i.result.tag (label_in c.args.at.now (suc c.loop-i.number))
      c.loop-i.pass.code.items
      c.emit_arm_test.new.code.items c.in_ok-emit_arm_test.ensures)
      c.in_ok-emit_body.ensures.walked c.in_ok-number.ensures;
}

pub emit_arms-returns-clause-walked : goal.emit_arms-returns-clause-walked
emit_arms-returns-clause-walked t c front back hn hl =
    arms-finish rows (tables_of c.args.tables.now).types arm_of c.args.arms.now (choice_of c.args.how) c.loop-i.i c.args.first c.loop-i.number (length
    c.args.pass.now.code.items)
    (mark_of c.loop-i.pass) (frame_of c.args.pass.now) front back c.loop-i-test.false (c.loop-i.invariant.met front back hn hl)

pub emit_arms-returns-clause-arms : goal.emit_arms-returns-clause-arms
emit_arms-returns-clause-arms t c p =
    arms-end (places_of c.args.tables.now c.args.at.now) c.rows_are_right.ensures (label_in c.args.at.now) (choice_of c.args.how) c.args.arms.now c.loop-i.i
    c.args.first c.loop-i.number
    (env_of c.args.pass.now) c.args.pass.now.code.items c.loop-i.pass.code.items c.loop-i-test.false (c.loop-i.invariant.code p)

pub emit_arms-returns-in_err-settle-clause-told : goal.emit_arms-returns-in_err-settle-clause-told
emit_arms-returns-in_err-settle-clause-told t c =
    passed _ c.from_residual.result c.in_err-settle.field-0.0 c.from_residual.ensures.1
    (λ front back hn hl told inside. c.in_err-settle.ensures.told (arms-turn-told rows (tables_of c.args.tables.now).types arm_of c.args.arms.now c.loop-i.i
    c.index-arms-i.result c.loop-i-test.true c.index-arms-i.is (choice_of c.args.how) c.args.first c.loop-i.number
    (length c.args.pass.now.code.items) (frame_of c.args.pass.now) front back (mark_of c.loop-i.pass) (c.loop-i.invariant.met front back hn hl) c.args.sure
    c.args.at.now.labels.items (length c.args.pass.now.found.items) (ap length hl ∙ length-append front (blank (length c.args.arms.now) ++ back)
    ∙ ap (λ z. length front + z) (length-append (blank (length c.args.arms.now)) back ∙ ap (λ z. z + length back) (blank-length (length c.args.arms.now))))
    told inside).0)

pub emit_arms-returns-in_err-emit_body-clause-told : goal.emit_arms-returns-in_err-emit_body-clause-told
emit_arms-returns-in_err-emit_body-clause-told t c =
    passed _ c.from_residual-in_err-emit_body.result c.in_err-emit_body.field-0.0 c.from_residual-in_err-emit_body.ensures.1
    (λ front back hn hl told inside. c.in_err-emit_body.ensures.told
    (body-told rows (tables_of c.args.tables.now).types arm_of c.args.arms.now c.loop-i.i c.index-arms-i.result c.loop-i-test.true c.index-arms-i.is
    (choice_of c.args.how) c.args.first c.loop-i.number
    (length c.args.pass.now.code.items) (frame_of c.args.pass.now) front back (mark_of c.loop-i.pass) (c.loop-i.invariant.met front back hn hl) c.args.sure
    c.args.at.now.labels.items (tree_of c.index-arms-i.result.body) c.settle.new.found.items (length c.emit_arm_test.new.code.items)
    (ap (λ (a : ArmTree). a.body) (arm-is c.index-arms-i.result)) c.in_ok-settle.ensures.found
    (arm-test-long (choice_of c.args.how) c.loop-i.pass.depth c.index-arms-i.result.tag (label_in c.args.at.now (suc c.loop-i.number)) c.loop-i.pass.code.items
    c.emit_arm_test.new.code.items c.in_ok-emit_arm_test.ensures)
    (arms-turn-told rows (tables_of c.args.tables.now).types arm_of c.args.arms.now c.loop-i.i c.index-arms-i.result c.loop-i-test.true c.index-arms-i.is
    (choice_of c.args.how) c.args.first c.loop-i.number
    (length c.args.pass.now.code.items) (frame_of c.args.pass.now) front back (mark_of c.loop-i.pass) (c.loop-i.invariant.met front back hn hl) c.args.sure
    c.args.at.now.labels.items (length c.args.pass.now.found.items) (ap length hl ∙ length-append front (blank (length c.args.arms.now) ++ back)
    ∙ ap (λ z. length front + z) (length-append (blank (length c.args.arms.now)) back ∙ ap (λ z. z + length back) (blank-length (length c.args.arms.now))))
    told inside).1))
