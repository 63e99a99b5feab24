-- Laws of the machine that runs.
use Rattle.std.specs.Prelude.{ℕ, ◌+◌, List, Option}
use Rattle.ir_code.specs.Machine.{State}
use Rattle.ir_code.specs.declared.instr.Instr.{Instr}
use Rattle.heap_vm.specs.declared.stop.Stop.{Stop}
use Rattle.heap_vm.specs.declared.stop.Stop.TheVariants.{Steps}
use Rattle.heap_vm.specs.Went.{Went}

-- a run that answered Steps, and one that goes on from there, are one run of all their steps
abbrev pub RunsJoin : Type 0
RunsJoin = (code : List Instr) (from middle to : State) (n m : ℕ) (stop : Stop) (old half new : Option (List ℕ)) (before between now : ℕ) →
    Went Steps code from n middle old half before between → Went stop code middle m to half new between now →
    Went stop code from (n + m) to old new before now
