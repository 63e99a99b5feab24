use Rattle.mono_exceptions.proofs.Making.{copies-make-no-more}
use Rattle.mono_exceptions.proofs.law.copies_make_no_more.Goals as goal

pub returns : goal.returns
returns c = copies-make-no-more
