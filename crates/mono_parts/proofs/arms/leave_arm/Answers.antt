use Rattle.std.proofs.Common.{[], ap, ◌∙◌}
use Rattle.std.proofs.lemmas.Result.{IfOk-weaker}
use Rattle.ir_tables.specs.Tables.{strings_of}
use Rattle.plain_tree.specs.TreeOf as tree
use Rattle.tests_check.specs.Reads.{reading}
use Rattle.monomorphise.specs.Monomorphise.{copy_case, case_needs}
use Rattle.mono_close.specs.Closing.{standing}
use Rattle.mono_state.specs.of_mono_words.Words.{arm_sign}
use Rattle.mono_state.specs.of_mono_words.Seen.{with_needs}
use Rattle.mono_state.specs.Seen.{seen, copy_reading}
use Rattle.mono_state.proofs.Growing.{sooner}
use Rattle.mono_state.proofs.Going.{goes-then, if-both}
use Rattle.mono_parts.specs.Arms.{left, bound_in}
use Rattle.mono_parts.proofs.Putting.{sign-put}
use Rattle.mono_parts.proofs.arms.leave_arm.Goals as goal

pub case_of-requires-clause-is_open : goal.case_of-requires-clause-is_open
case_of-requires-clause-is_open c = (c.close_arm.ensures.goes []).open_

pub case_of-requires-clause-right : goal.case_of-requires-clause-right
case_of-requires-clause-right c = (c.close_arm.ensures.goes c.args.tables.now.types).right c.requires.right

pub returns-clause-goes : goal.returns-clause-goes
returns-clause-goes c =
    let t = c.args.tables.now.types in
    IfOk-weaker c.put.result _ _
    (λ x h. goes-then t c.args.copier.now c.case_of.new.copier c.put.new.self
    (goes-then t c.args.copier.now c.close_arm.new.copier c.case_of.new.copier (c.close_arm.ensures.goes t) c.in_ok-made.ensures.goes) (h t))
    c.put.ensures.goes

pub returns-clause-left : goal.returns-clause-left
returns-clause-left c =
    let t = c.args.tables.now in
    let ss = strings_of t in
    let k = tree.case_of (reading t) c.args.case in
    if-both c.put.result
    (λ x a b. λ H l.
    let m = sooner (b []).longer l in
    let old = seen ss H c.args.copier.now in
    sign-put (with_needs (case_needs k) (left (bound_in c.args.case) old)) (seen ss H c.case_of.new.copier) (seen ss H c.put.new.self)
    (arm_sign (tree.case_of (copy_reading ss H) c.in_ok-made.made)) (arm_sign (copy_case (standing H.types c.args.copier.now.slots) k)) (a ss H)
    (ap arm_sign (c.in_ok-made.ensures.is H m ∙ ap (λ z. copy_case (standing H.types z) k) (c.close_arm.ensures.goes []).slots))
    (c.in_ok-made.ensures.noted ss H m ∙ ap (with_needs (case_needs k)) (c.close_arm.ensures.left ss H)))
    c.put.ensures.put c.put.ensures.goes
