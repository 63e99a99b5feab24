use Rattle.std.proofs.Common.{◌≡◌, ◌++◌, map, drop}
use Rattle.ir_code.specs.declared.instr.Instr.TheVariants.{Jmp}
use Rattle.emit_code.proofs.choice.push_jumps.Given as goal

abbrev pub invariant-loop-place : goal.invariant-loop-place
invariant-loop-place l = l.code.items ++ map Jmp (drop l.place-index l.places) ≡ l.initial.code.items ++ map Jmp l.places
