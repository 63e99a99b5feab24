use Rattle.std.proofs.Common.{[], ap, ap₂, ◌∙◌}
use Rattle.std.proofs.lemmas.Result.{IfOk-weaker}
use Rattle.ty_core.specs.Statics.{replace}
use Rattle.ty_table.specs.TypeAt.{type_at}
use Rattle.monomorphise.specs.Monomorphise.{copy_of}
use Rattle.mono_close.specs.Closing.{standing}
use Rattle.mono_state.specs.of_mono_words.Words.{last_sign}
use Rattle.mono_state.specs.of_mono_words.Seen.{out}
use Rattle.mono_state.specs.Seen.{seen, name_in}
use Rattle.mono_state.proofs.Growing.{sooner}
use Rattle.mono_state.proofs.Going.{goes-then, if-both}
use Rattle.mono_parts.proofs.Putting.{sign-put}
use Rattle.mono_parts.proofs.steps.leave_last.Goals as goal

pub parameter_of-requires-clause-is_open : goal.parameter_of-requires-clause-is_open
parameter_of-requires-clause-is_open c = (c.leave_variable.ensures.goes []).open_

pub parameter_of-requires-clause-right : goal.parameter_of-requires-clause-right
parameter_of-requires-clause-right c = (c.leave_variable.ensures.goes c.args.tables.now.types).right c.requires.right

pub returns-clause-goes : goal.returns-clause-goes
returns-clause-goes c =
    let t = c.args.tables.now.types in
    IfOk-weaker c.put.result _ _
    (λ x h. goes-then t c.args.copier.now c.parameter_of.new.copier c.put.new.self
    (goes-then t c.args.copier.now c.leave_variable.new.copier c.parameter_of.new.copier (c.leave_variable.ensures.goes t) c.in_ok-made.ensures.goes) (h t))
    c.put.ensures.goes

pub returns-clause-left : goal.returns-clause-left
returns-clause-left c =
    let u = type_at c.args.tables.now.types c.args.last.ty in
    if-both c.put.result
    (λ x a b. λ ss H l.
    let m = sooner (b []).longer l in
    let p = c.in_ok-made.ensures.is H m in
    sign-put (out (seen ss H c.args.copier.now)) (seen ss H c.parameter_of.new.copier) (seen ss H c.put.new.self)
    (last_sign (name_in H c.in_ok-made.made.variable) (type_at H.types c.in_ok-made.made.ty)) (last_sign (copy_of c.args.last.variable []) (replace (standing H.types c.args.copier.now.slots) u)) (a ss H)
    (ap₂ last_sign p.variable (p.type ∙ ap (λ z. replace (standing H.types z) u) (c.leave_variable.ensures.goes []).slots))
    (c.in_ok-made.ensures.stays ss H ∙ c.leave_variable.ensures.left ss H))
    c.put.ensures.put c.put.ensures.goes
