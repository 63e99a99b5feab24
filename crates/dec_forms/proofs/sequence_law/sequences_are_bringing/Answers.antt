use Rattle.dec_forms.proofs.Sequence.{sequence_is}
use Rattle.dec_forms.proofs.sequence_law.sequences_are_bringing.Goals as goal

pub returns : goal.returns
returns c S T C D p ds xs a b h = sequence_is S T C D p ds xs a b h
