use Rattle.std.proofs.Common.{[], ap, ◌∙◌}
use Rattle.final_types.specs.Making.{image_at, namings_of}
use Rattle.final_types.specs.Nodes.{types_of}
use Rattle.final_types.proofs.Imaging.{past-image}
use Rattle.final_types.proofs.source.Source.place_of.Goals as goal

pub returns-in-None : goal.returns-in-None
returns-in-None c = λ g k. ap (image_at c.args.self.now g k) c.in-None.is ∙ past-image (types_of c.args.self.now.solver.now) [] (namings_of c.args.self.now) g k
