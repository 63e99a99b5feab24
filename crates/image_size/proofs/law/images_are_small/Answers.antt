use Rattle.image_size.proofs.Texts.{small, large}
use Rattle.image_size.proofs.law.images_are_small.Goals as goal

pub returns-clause-words : goal.returns-clause-words
returns-clause-words c = small c.images_are_short.ensures.constants c.images_are_short-2.ensures.code

pub returns-clause-long : goal.returns-clause-long
returns-clause-long c = large c.images_are_short.ensures.constants c.images_are_short-2.ensures.code
