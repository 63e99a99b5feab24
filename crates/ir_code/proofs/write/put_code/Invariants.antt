use Rattle.std.proofs.Common.{◌≡◌, ◌++◌, take}
use Rattle.std.specs.List.{AllByRecursion, flat_map}
use Rattle.ir_code.specs.Reading.{instr_bytes, HasWords}
use Rattle.ir_code.proofs.write.put_code.Given as goal

abbrev pub invariant-loop-instr : goal.invariant-loop-instr
invariant-loop-instr l = record {
  written : l.out.items ≡ l.initial.out.items ++ flat_map instr_bytes (take l.instr-index l.code);
  are_words : AllByRecursion HasWords (take l.instr-index l.code);
}
