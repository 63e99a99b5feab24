use Rattle.std.proofs.Common.{ap, ◌∙◌, slice_set, map}
use Rattle.std.proofs.lemmas.List.{map-set}
use Rattle.datatype_equality.proofs.fall.fell.Goals as goal

pub returns-clause-rests : goal.returns-clause-rests
returns-clause-rests c = map-set (λ l. l.items) c.args.rests.now.items c.args.v c.replace-resting.new.dest ∙ ap (slice_set (map (λ l. l.items) c.args.rests.now.items) c.args.v) (cc)
