use Rattle.std.proofs.Common.{◌≡◌, ◌++◌, map, take}
use Rattle.std.specs.String.{string_bytes}
use Rattle.mlc_faults.specs.FaultLine.{shown_byte}
use Rattle.mlc_faults.proofs.fault.push_name.Given as goal

abbrev pub invariant-loop-byte : goal.invariant-loop-byte
invariant-loop-byte l = string_bytes l.text ≡ string_bytes l.fn.text ++ map shown_byte (take l.byte-index l.name)
