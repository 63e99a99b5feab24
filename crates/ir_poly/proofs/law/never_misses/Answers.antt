use Rattle.ir_poly.proofs.MissLemmas.{never-misses}
use Rattle.ir_poly.proofs.law.never_misses.Goals as goal

pub returns : goal.returns
returns c table e t h call env w other other' = never-misses table call h env w other other'
