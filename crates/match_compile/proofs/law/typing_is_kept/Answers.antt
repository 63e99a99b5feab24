use Rattle.match_compile.proofs.Programs.{typing-kept}
use Rattle.match_compile.proofs.law.typing_is_kept.Goals as goal

pub returns : goal.returns
returns c ds constructors after h = typing-kept ds constructors after h
