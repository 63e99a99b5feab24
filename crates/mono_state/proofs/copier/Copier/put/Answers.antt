use Rattle.std.proofs.Common.{refl}
use Rattle.mono_state.specs.Seen.{held_of}
use Rattle.mono_state.proofs.Growing.{same-longer}
use Rattle.mono_state.proofs.Going.{goes-on, put-seen}
use Rattle.mono_state.proofs.copier.Copier.put.Goals as goal

pub returns-clause-goes : goal.returns-clause-goes
returns-clause-goes c =
    let old = c.args.self.now in
    λ sources. goes-on sources old (record old { words = c.push.new.self }) c.requires (same-longer (held_of old)) refl refl refl refl c.requires.few

pub returns-clause-put : goal.returns-clause-put
returns-clause-put c =
    let old = c.args.self.now in
    λ ss H. put-seen ss H old (record old { words = c.push.new.self }) c.args.word.now c.in_ok-push.ensures.items refl refl refl
