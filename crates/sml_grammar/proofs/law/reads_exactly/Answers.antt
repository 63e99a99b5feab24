use Rattle.sml_grammar.proofs.LawSound.{sound}
use Rattle.sml_grammar.proofs.LawDeepSound.{deep-sound}
use Rattle.sml_grammar.proofs.LawComplete.{complete, deep-complete, bad-sound}
use Rattle.sml_grammar.proofs.law.reads_exactly.Goals as goal

pub returns-clause-sound : goal.returns-clause-sound
returns-clause-sound c = sound

pub returns-clause-complete : goal.returns-clause-complete
returns-clause-complete c = complete

pub returns-clause-deep_sound : goal.returns-clause-deep_sound
returns-clause-deep_sound c = deep-sound

pub returns-clause-deep_complete : goal.returns-clause-deep_complete
returns-clause-deep_complete c = deep-complete

pub returns-clause-bad_sound : goal.returns-clause-bad_sound
returns-clause-bad_sound c = bad-sound
