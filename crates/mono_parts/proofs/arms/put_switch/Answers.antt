use Rattle.std.proofs.Common.{ap, ap₂, ◌∙◌, ◌∷◌, []}
use Rattle.std.proofs.lemmas.Result.{IfOk-weaker}
use Rattle.mono_state.proofs.Growing.{sooner}
use Rattle.mono_state.proofs.Going.{goes-then, if-both}
use Rattle.monomorphise.specs.Monomorphise.{copy_of}
use Rattle.ty_core.specs.Statics.{replace}
use Rattle.ty_table.specs.TypeAt.{type_at}
use Rattle.mono_close.specs.Closing.{standing}
use Rattle.mono_state.specs.Seen.{seen, name_in}
use Rattle.mono_state.specs.of_mono_words.Words.{switch_sign}
use Rattle.mono_state.specs.of_mono_words.Seen.{with_needs}
use Rattle.mono_parts.proofs.Putting.{sign-put}
use Rattle.mono_parts.proofs.arms.put_switch.Goals as goal

pub atom-requires : goal.atom-requires
atom-requires c = c.in_ok-ty.ensures.goes.open_

pub put-requires : goal.put-requires
put-requires c = (c.in_ok-k.ensures.goes []).open_

pub returns-clause-goes : goal.returns-clause-goes
returns-clause-goes c =
    let t = c.args.tables.now.types in
    IfOk-weaker c.put.result _ _
    (λ x h. goes-then t c.args.copier.now c.atom.new.copier c.put.new.self (goes-then t c.args.copier.now c.type_of.new.copier c.atom.new.copier c.in_ok-ty.ensures.goes (c.in_ok-k.ensures.goes t)) (h t))
    c.put.ensures.goes

pub returns-clause-put : goal.returns-clause-put
returns-clause-put c =
    if-both c.put.result
    (λ x a b. λ ss H l.
    let m = sooner (b []).longer l in
    sign-put (with_needs (copy_of c.args.variable [] ∷ []) (seen ss H c.args.copier.now)) (seen ss H c.atom.new.copier) (seen ss H c.put.new.self)
    (switch_sign (name_in H c.in_ok-k.k) (type_at H.types c.in_ok-ty.ty)) (switch_sign (copy_of c.args.variable []) (replace (standing H.types c.args.copier.now.slots) (type_at c.args.tables.now.types c.args.ty))) (a ss H)
    (ap₂ switch_sign (c.in_ok-k.ensures.is H m) (c.in_ok-ty.ensures.is H (sooner (c.in_ok-k.ensures.goes []).longer m)))
    (c.in_ok-k.ensures.noted ss H m ∙ ap (with_needs (copy_of c.args.variable [] ∷ [])) (c.in_ok-ty.ensures.stays ss H)))
    c.put.ensures.put c.put.ensures.goes
