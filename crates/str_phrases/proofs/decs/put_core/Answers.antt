use Rattle.module_code.specs.TreeOf.{str_dec_of}
use Rattle.str_phrases.proofs.Growing.{longer-map}
use Rattle.str_phrases.proofs.decs.put_core.Goals as goal

pub returns-in_ok-pushed-in-Mixed-clause-list : goal.returns-in_ok-pushed-in-Mixed-clause-list
returns-in_ok-pushed-in-Mixed-clause-list g c = λ of. rw c.in-Mixed.is (longer-map (str_dec_of of) c.in-Mixed.all.items _ c.core.result c.in_ok-pushed-in-Mixed.ensures _ (c.core.ensures of))
