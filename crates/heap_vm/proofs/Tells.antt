-- What a first run tells, and the name after it.
use Rattle.std.proofs.Common.{◌≡◌, ℕ, List, [], Option, Some, ◌∙◌}
use Rattle.mlc_outside.specs.Sink.{adds, WasPut}
use Rattle.mlc_outside.specs.declared.sink.Put.{Put}
use Rattle.mlc_outside.specs.declared.sink.Put.TheVariants.{Done, Failed}
use Rattle.ir_code.specs.Machine.{State}
use Rattle.ir_code.specs.Run.{RunResult, uncaught, uncaught_name}
use Rattle.heap_vm.specs.declared.stop.Stop.{Stop}
use Rattle.heap_vm.specs.declared.stop.Stop.TheVariants.{Steps, Ended, Uncaught, NoHeap, NoStack, Stuck, WriteFault}
use Rattle.heap_vm.specs.Loaded.{told_name}
use Rattle.heap_vm.specs.Told.{NameSent, Tells, TellsFirst}
use Rattle.heap_vm.proofs.Sinks.{adds-none}

put_all : (put : Put) (piece : List ℕ) (old new : Option (List ℕ)) (before now : ℕ) → put ≡ Done → WasPut put piece old new before now → new ≡ adds old piece
put_all Done piece old new before now e p = p.wrote
put_all Failed piece old new before now e p = cc

name_sent : (stop : Stop) (put : Put) (r : RunResult) (after : State) (old new old_name new_name : Option (List ℕ)) (before now b n : ℕ) → Tells stop r after old new before now → WasPut put (told_name stop after) old_name new_name b n → put ≡ Done → NameSent stop r old_name new_name
name_sent Steps put r after old new old_name new_name before now b n t p e = put_all put [] old_name new_name b n e p ∙ adds-none old_name
name_sent Ended put r after old new old_name new_name before now b n t p e = put_all put [] old_name new_name b n e p ∙ adds-none old_name
name_sent Uncaught put r after old new old_name new_name before now b n t p e =
    let end : r.end ≡ uncaught (uncaught_name after) = let told : Some (uncaught (uncaught_name after)) ≡ Some r.end = t.end in cc in
    (uncaught_name after, end, put_all put (uncaught_name after) old_name new_name b n e p)
name_sent NoHeap put r after old new old_name new_name before now b n t p e = put_all put [] old_name new_name b n e p ∙ adds-none old_name
name_sent NoStack put r after old new old_name new_name before now b n t p e = put_all put [] old_name new_name b n e p ∙ adds-none old_name
name_sent Stuck put r after old new old_name new_name before now b n t p e = put_all put [] old_name new_name b n e p ∙ adds-none old_name
name_sent WriteFault put r after old new old_name new_name before now b n t p e = put_all put [] old_name new_name b n e p ∙ adds-none old_name

-- from what `run` tells and what `put_name` sends
pub tells_first : (stop : Stop) (put : Put) (r : RunResult) (after : State) (old new old_name new_name : Option (List ℕ)) (before now b n : ℕ) → Tells stop r after old new before now → WasPut put (told_name stop after) old_name new_name b n → TellsFirst stop put r old new before now old_name new_name
tells_first stop put r after old new old_name new_name before now b n t p = record {
  after = after;
  told = t;
  name = λ e. name_sent stop put r after old new old_name new_name before now b n t p e;
}
