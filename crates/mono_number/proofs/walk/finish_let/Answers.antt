use Rattle.std.proofs.Common.{nat_eq}
use Rattle.indexmap.specs.IndexMap.{get}
use Rattle.mono_number.proofs.Given.{if-ok}
use Rattle.mono_number.proofs.Moving.{let-moves}
use Rattle.mono_number.proofs.walk.finish_let.Goals as goal

pub bind-requires : goal.bind-requires
bind-requires c = (c.in_ok-make.ensures (get nat_eq c.args.known.now)).open_

pub returns : goal.returns
returns c =
    if-ok _ _ c.bind.result
    (λ u h. let-moves c.args.limit (get nat_eq c.args.known.now) c.args.copy c.args.ty c.in_ok-ty.ty c.args.walk.now c.make.new.walk c.bind.new.walk (λ H index N. c.in_ok-ty.ensures c.args.limit H index N) (c.in_ok-make.ensures (get nat_eq c.args.known.now)) (h (get nat_eq c.args.known.now))) c.bind.ensures
