-- What a run of the machine did.
use Rattle.std.specs.Prelude.{◌≡◌, ℕ, ◌<◌, ◌≤◌, List, [], ◌++◌, Option, None, take}
use Rattle.mlc_outside.specs.Faults.{Rose}
use Rattle.mlc_outside.specs.Sink.{adds}
use Rattle.ir_code.specs.Machine.{State, Prints, Ran, next, run, step}
use Rattle.ir_code.specs.declared.instr.Instr.{Instr}
use Rattle.heap_vm.specs.declared.stop.Stop.{Stop}
use Rattle.heap_vm.specs.declared.stop.Stop.TheVariants.{Steps, Ended, Uncaught, NoHeap, NoStack, Stuck, WriteFault}
use Rattle.heap_vm.specs.Loaded.{stop_of}

-- all the steps were made, and all of their output taken
pub record Whole (stop : Stop) (ran : Ran) (after : State) (old new : Option (List ℕ)) (before now : ℕ) : Type 0 where
  pub stopped : stop ≡ stop_of ran.halt
  pub came_to : after ≡ ran.state
  pub wrote : new ≡ adds old ran.out
  pub kept : before ≤ now

-- a fault of the sink cut the run short at a Print, of whose text a part may have been taken
pub record Cut (code : List Instr) (from : State) (steps : ℕ) (after : State) (old new : Option (List ℕ)) (before now : ℕ) : Type 0 where
  pub rose : Rose before now
  pub kept : before ≤ now
  pub made : ℕ
  pub fewer : made < steps
  pub sofar : List ℕ
  pub came_to : run code made from [] ≡ record { state = after; out = sofar; halt = None }
  pub text : List ℕ
  pub at_print : step code after ≡ Prints text (next after)
  pub taken : ℕ
  pub wrote : new ≡ adds old (sofar ++ take taken text)
  pub rest : List ℕ
  pub part : (run code steps from []).out ≡ (sofar ++ take taken text) ++ rest

-- what a run of at most so many steps did, by its answer
abbrev pub Went : Stop → List Instr → State → ℕ → State → Option (List ℕ) → Option (List ℕ) → ℕ → ℕ → Type 0
Went Steps code from steps after old new before now = Whole Steps (run code steps from []) after old new before now
Went Ended code from steps after old new before now = Whole Ended (run code steps from []) after old new before now
Went Uncaught code from steps after old new before now = Whole Uncaught (run code steps from []) after old new before now
Went NoHeap code from steps after old new before now = Whole NoHeap (run code steps from []) after old new before now
Went NoStack code from steps after old new before now = Whole NoStack (run code steps from []) after old new before now
Went Stuck code from steps after old new before now = Whole Stuck (run code steps from []) after old new before now
Went WriteFault code from steps after old new before now = Cut code from steps after old new before now

-- nothing was done and nothing written
pub record Stayed {A : Type 0} (from to : A) (old new : Option (List ℕ)) (before now : ℕ) : Type 0 where
  pub same : to ≡ from
  pub wrote : new ≡ old
  pub kept : now ≡ before
