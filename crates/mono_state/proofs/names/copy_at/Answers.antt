use Rattle.std.proofs.Common.{refl}
use Rattle.std.proofs.lemmas.Result.{IfOk-weaker}
use Rattle.mono_state.specs.Seen.{held_of}
use Rattle.mono_state.proofs.Growing.{with-copies, copies-longer}
use Rattle.mono_state.proofs.Going.{goes-on}
use Rattle.mono_state.proofs.Naming.{name-at}
use Rattle.mono_state.proofs.names.copy_at.Goals as goal

pub returns-clause-goes : goal.returns-clause-goes
returns-clause-goes c =
    let old = c.args.copier.now in
    IfOk-weaker c.number.result _ _
    (λ n h. λ sources. goes-on sources old (record old { copies = c.number.new.self }) c.requires
    (with-copies (held_of old) c.number.new.self (copies-longer old.copies (c.args.variable, c.args.list) n c.number.new.self h)) refl refl refl refl c.requires.few)
    c.number.ensures.ok

pub returns-clause-is : goal.returns-clause-is
returns-clause-is c = IfOk-weaker c.number.result _ _ (λ n h. λ H l. name-at n c.args.variable c.args.list l h.held) c.number.ensures.ok
