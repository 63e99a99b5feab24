use Rattle.ir_mono.specs.Types as table
use Rattle.mono_read.specs.Building.{build}
use Rattle.std.proofs.Common.{length, drop, ◌≡◌, ◌≤◌, List}
use Rattle.mono_read.specs.Reads.{Texts, signs_of, stack_in}
use Rattle.mono_read.proofs.read.read.Given as goal

abbrev pub invariant-loop-left : goal.invariant-loop-left
invariant-loop-left l = record {
  within : l.left ≤ length l.words;
  built : (types : List table.Row) (strings : Texts) → stack_in types strings l.stack.items ≡ build (signs_of types strings (drop l.left l.words));
}

abbrev pub decreases-loop-left : goal.decreases-loop-left
decreases-loop-left l = l.left
