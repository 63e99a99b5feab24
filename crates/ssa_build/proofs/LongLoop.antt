-- A loop of 10,000 tail calls, by computation: at as many turns it comes to its end, at one less it is cut off.
use Rattle.std.proofs.Common.{◌≡◌, ℕ, [], ◌∷◌, refl}
use Rattle.mlc_runs.specs.Outcome.{going}
use Rattle.ir_ssa.specs.Meaning as after
use Rattle.ssa_build.specs.Build.{ssa}
use Rattle.ssa_build.proofs.Examples.{looping}

long_loop : (after.meaning (ssa (looping 10000)) 10001).output ≡ 66 ∷ []
long_loop = refl

long_loop_cut : (after.meaning (ssa (looping 10000)) 10000).end ≡ going
long_loop_cut = refl
