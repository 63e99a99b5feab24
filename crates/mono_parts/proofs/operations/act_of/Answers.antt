use Rattle.std.proofs.Common.{[], ap₂, subst, ◌∙◌}
use Rattle.mono_close.specs.Closing.{standing}
use Rattle.mono_state.specs.of_mono_words.Seen.{with_needs}
use Rattle.mono_state.specs.Seen.{seen}
use Rattle.mono_state.proofs.Growing.{sooner}
use Rattle.mono_state.proofs.Going.{goes-then}
use Rattle.mono_parts.specs.Operations.{IfType, IfName, if_needs}
use Rattle.mono_parts.proofs.Acts.{both-noted, act-made}
use Rattle.mono_parts.proofs.operations.act_of.Goals as goal

pub first_copy-requires-clause-is_open : goal.first_copy-requires-clause-is_open
first_copy-requires-clause-is_open c = (c.in_ok-second.ensures.goes []).open_

pub first_copy-requires-clause-right : goal.first_copy-requires-clause-right
first_copy-requires-clause-right c =
    let t = c.args.tables.now.types in
    (c.in_ok-second.ensures.goes t).right (c.in_ok-ty.ensures.goes.right c.requires.right)

pub returns-clause-goes : goal.returns-clause-goes
returns-clause-goes c =
    let t = c.args.tables.now.types in
    goes-then t c.args.copier.now c.atom_if.new.copier c.first_copy.new.copier
    (goes-then t c.args.copier.now c.type_if.new.copier c.atom_if.new.copier c.in_ok-ty.ensures.goes (c.in_ok-second.ensures.goes t)) c.in_ok-first.ensures.goes

pub returns-clause-noted : goal.returns-clause-noted
returns-clause-noted c = λ ss H l.
    let t = c.args.tables.now.types in
    let o = c.args.operation.now in
    let g = goes-then t c.args.copier.now c.type_if.new.copier c.atom_if.new.copier c.in_ok-ty.ensures.goes (c.in_ok-second.ensures.goes t) in
    let m = sooner c.in_ok-first.ensures.goes.longer l in
    both-noted c.args.tables.now H o c.args.copier.now c.atom_if.new.copier (seen ss H c.args.copier.now) (seen ss H c.atom_if.new.copier) (seen ss H c.first_copy.new.copier) g.own g.slots
    (c.in_ok-second.ensures.noted ss H m ∙ ap₂ (λ v n. with_needs (if_needs v) n) c.second_said.ensures (c.in_ok-ty.ensures.stays ss H)) (c.in_ok-first.ensures.noted ss H l)

pub returns-clause-is : goal.returns-clause-is
returns-clause-is c = λ H l.
    let t = c.args.tables.now in
    let o = c.args.operation.now in
    let g = goes-then t.types c.args.copier.now c.type_if.new.copier c.atom_if.new.copier c.in_ok-ty.ensures.goes (c.in_ok-second.ensures.goes t.types) in
    let m = sooner c.in_ok-first.ensures.goes.longer l in
    let n = sooner (c.in_ok-second.ensures.goes []).longer m in
    act-made t H o c.args.copier.now c.atom_if.new.copier c.args.strip c.in_ok-ty.ty c.in_ok-first.first c.in_ok-second.second c.with_parts.result g.own g.slots c.with_parts.ensures
    (subst (λ v. IfType H (standing H.types c.args.copier.now.slots) t.types v c.in_ok-ty.ty) c.type_said.ensures (c.in_ok-ty.ensures.is H n)) (c.in_ok-first.ensures.is H l)
    (subst (λ v. IfName H v c.in_ok-second.second) c.second_said.ensures (c.in_ok-second.ensures.is H m))
