use Rattle.image_law.proofs.Texts.{image-is-right}
use Rattle.image_law.proofs.law.image_is_right.Goals as goal

pub returns : goal.returns
returns c = image-is-right c.images_are_right.ensures c.texts_of_made_are_enough.ensures
