use Rattle.std.proofs.Common.{[], ap, ◌∙◌}
use Rattle.std.proofs.lemmas.Result.{IfOk-weaker}
use Rattle.std.specs.Option.{option_map}
use Rattle.ty_table.specs.TypeAt.{type_at}
use Rattle.monomorphise.specs.Monomorphise.{copy_of, copy_argument}
use Rattle.mono_close.specs.Closing.{standing}
use Rattle.mono_state.specs.of_mono_words.Words.{exception_sign}
use Rattle.mono_state.specs.of_mono_words.Seen.{out}
use Rattle.mono_state.specs.Seen.{seen, name_in}
use Rattle.mono_state.proofs.Growing.{sooner}
use Rattle.mono_state.proofs.Going.{goes-then, if-both}
use Rattle.mono_parts.proofs.Putting.{sign-put}
use Rattle.mono_parts.proofs.steps.leave_exception.Goals as goal

pub argument_of-requires-clause-is_open : goal.argument_of-requires-clause-is_open
argument_of-requires-clause-is_open c = (c.leave_variable.ensures.goes []).open_

pub argument_of-requires-clause-right : goal.argument_of-requires-clause-right
argument_of-requires-clause-right c = (c.leave_variable.ensures.goes c.args.tables.now.types).right c.requires.right

pub alone-requires : goal.alone-requires
alone-requires c = c.in_ok-argument.ensures.goes.open_

pub put-requires : goal.put-requires
put-requires c = (c.in_ok-variable.ensures.goes []).open_

pub returns-clause-goes : goal.returns-clause-goes
returns-clause-goes c =
    let t = c.args.tables.now.types in
    IfOk-weaker c.put.result _ _
    (λ x h. goes-then t c.args.copier.now c.alone.new.copier c.put.new.self
    (goes-then t c.args.copier.now c.argument_of.new.copier c.alone.new.copier
    (goes-then t c.args.copier.now c.leave_variable.new.copier c.argument_of.new.copier (c.leave_variable.ensures.goes t) c.in_ok-argument.ensures.goes) (c.in_ok-variable.ensures.goes t)) (h t))
    c.put.ensures.goes

pub returns-clause-left : goal.returns-clause-left
returns-clause-left c =
    let u = option_map (type_at c.args.tables.now.types) c.args.argument in
    if-both c.put.result
    (λ x a b. λ ss H l.
    let m = sooner (b []).longer l in
    let n = sooner (c.in_ok-variable.ensures.goes []).longer m in
    sign-put (out (seen ss H c.args.copier.now)) (seen ss H c.alone.new.copier) (seen ss H c.put.new.self)
    (exception_sign (name_in H c.in_ok-variable.variable) c.args.identifier (option_map (type_at H.types) c.in_ok-argument.argument))
    (exception_sign (copy_of c.args.variable []) c.args.identifier (copy_argument (standing H.types c.args.copier.now.slots) u)) (a ss H)
    (λ i. exception_sign (c.in_ok-variable.ensures.is H m i) c.args.identifier ((c.in_ok-argument.ensures.is H n ∙ ap (λ z. copy_argument (standing H.types z) u) (c.leave_variable.ensures.goes []).slots) i))
    (c.in_ok-variable.ensures.stays ss H ∙ c.in_ok-argument.ensures.stays ss H ∙ c.leave_variable.ensures.left ss H))
    c.put.ensures.put c.put.ensures.goes
