use Rattle.std.proofs.Common.{nat_eq, sym}
use Rattle.indexmap.specs.IndexMap.{get}
use Rattle.mono_number.specs.Moves.{after_of}
use Rattle.mono_number.proofs.Given.{if-ok}
use Rattle.mono_number.proofs.Moving.{at-after}
use Rattle.mono_number.proofs.Heads.{plain-moves}
use Rattle.mono_number.proofs.steps.put_plain.Goals as goal

pub follow-requires : goal.follow-requires
follow-requires c = (c.in_ok-make.ensures (get nat_eq c.args.known.now)).open_

pub returns : goal.returns
returns c =
    if-ok _ _ c.follow.result
    (λ u h ws. plain-moves c.args.limit (get nat_eq c.args.known.now) c.args.word.now c.in_ok-made.made ws c.args.walk.now c.make.new.walk c.follow.new.walk c.in_ok-made.ensures (c.in_ok-make.ensures (get nat_eq c.args.known.now))
    (at-after c.args.limit (get nat_eq c.args.known.now) (after_of c.args.word.now) c.after.result c.make.new.walk c.follow.new.walk (sym c.after.ensures) h))
    c.follow.ensures
