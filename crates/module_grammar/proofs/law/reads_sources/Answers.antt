use Rattle.module_grammar.proofs.SourceComplete.{complete}
use Rattle.module_grammar.proofs.SourceFar.{deep-sound}
use Rattle.module_grammar.proofs.SourceOver.{deep-complete, bad-sound}
use Rattle.module_grammar.proofs.SourceSound.{sound}
use Rattle.module_grammar.proofs.law.reads_sources.Goals as goal

pub returns : goal.returns
returns c = record { sound = sound; complete = complete; deep_sound = deep-sound; deep_complete = deep-complete; bad_sound = bad-sound }
