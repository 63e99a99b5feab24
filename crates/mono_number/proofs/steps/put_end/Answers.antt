use Rattle.std.proofs.Common.{nat_eq}
use Rattle.indexmap.specs.IndexMap.{get}
use Rattle.mono_number.proofs.Given.{if-ok}
use Rattle.mono_number.proofs.Heads.{end-moves}
use Rattle.mono_number.proofs.steps.put_end.Goals as goal

pub close-requires : goal.close-requires
close-requires c = (c.in_ok-make.ensures (get nat_eq c.args.known.now)).open_

pub returns : goal.returns
returns c = if-ok _ _ c.close.result (λ u h ws. end-moves c.args.limit (get nat_eq c.args.known.now) ws c.args.walk.now c.make.new.walk c.close.new.walk (c.in_ok-make.ensures (get nat_eq c.args.known.now)) h) c.close.ensures
