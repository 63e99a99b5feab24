use Rattle.elab_worlds.proofs.ordered.are_ordered.Goals as goal

pub returns : goal.returns
returns c = λ t. record { settled = c.requires; types = c.are_types_ordered.ensures t }
