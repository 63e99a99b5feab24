use Rattle.std.proofs.Common.{[], ap, ap₂, ◌∙◌}
use Rattle.std.proofs.lemmas.Result.{IfOk-weaker}
use Rattle.plain_tree.specs.TreeOf as tree
use Rattle.tests_check.specs.Reads.{reading}
use Rattle.monomorphise.specs.Monomorphise.{copy_of, copy_name, name_needs}
use Rattle.mono_state.specs.of_mono_words.Words.{name_sign}
use Rattle.mono_state.specs.of_mono_words.Seen.{with_needs, out}
use Rattle.mono_state.specs.Seen.{seen, name_in, copy_reading}
use Rattle.mono_state.proofs.Growing.{sooner}
use Rattle.mono_state.proofs.Going.{goes-then, if-both}
use Rattle.mono_parts.proofs.Putting.{sign-put}
use Rattle.mono_parts.proofs.steps.leave_name.Goals as goal

pub exception_of-requires : goal.exception_of-requires
exception_of-requires c = (c.leave_variable.ensures.goes []).open_

pub alone-requires : goal.alone-requires
alone-requires c = (c.in_ok-exception.ensures.goes []).open_

pub put-requires : goal.put-requires
put-requires c = (c.in_ok-variable.ensures.goes []).open_

pub returns-clause-goes : goal.returns-clause-goes
returns-clause-goes c =
    IfOk-weaker c.put.result _ _
    (λ x h. λ t. goes-then t c.args.copier.now c.alone.new.copier c.put.new.self
    (goes-then t c.args.copier.now c.exception_of.new.copier c.alone.new.copier
    (goes-then t c.args.copier.now c.leave_variable.new.copier c.exception_of.new.copier (c.leave_variable.ensures.goes t) (c.in_ok-exception.ensures.goes t)) (c.in_ok-variable.ensures.goes t)) (h t))
    c.put.ensures.goes

pub returns-clause-left : goal.returns-clause-left
returns-clause-left c =
    if-both c.put.result
    (λ x a b. λ t ss H l.
    let m = sooner (b []).longer l in
    let n = sooner (c.in_ok-variable.ensures.goes []).longer m in
    let y = tree.exception_of (reading t) c.args.exception in
    sign-put (with_needs (name_needs y) (out (seen ss H c.args.copier.now))) (seen ss H c.alone.new.copier) (seen ss H c.put.new.self)
    (name_sign (name_in H c.in_ok-variable.variable) (tree.exception_of (copy_reading ss H) c.in_ok-exception.exception)) (name_sign (copy_of c.args.variable []) (copy_name y)) (a ss H)
    (ap₂ name_sign (c.in_ok-variable.ensures.is H m) (c.in_ok-exception.ensures.is t ss H n))
    (c.in_ok-variable.ensures.stays ss H ∙ c.in_ok-exception.ensures.noted t ss H n ∙ ap (with_needs (name_needs y)) (c.leave_variable.ensures.left ss H)))
    c.put.ensures.put c.put.ensures.goes
