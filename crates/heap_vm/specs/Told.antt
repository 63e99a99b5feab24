-- What the first run of a program tells.
use Rattle.std.specs.Prelude.{◌≡◌, ℕ, List, ◌++◌, Option, Some}
use Rattle.mlc_outside.specs.Faults.{Rose}
use Rattle.mlc_outside.specs.Sink.{adds}
use Rattle.mlc_outside.specs.declared.sink.Put.{Put}
use Rattle.mlc_outside.specs.declared.sink.Put.TheVariants.{Done}
use Rattle.ir_code.specs.Machine.{State}
use Rattle.ir_code.specs.Run.{RunResult, uncaught}
use Rattle.heap_vm.specs.declared.stop.Stop.{Stop}
use Rattle.heap_vm.specs.declared.stop.Stop.TheVariants.{Steps, Ended, Uncaught, NoHeap, NoStack, Stuck, WriteFault}
use Rattle.heap_vm.specs.Loaded.{told_end}

-- the answer is the run's end, and all of its output was taken
pub record ToldAll (stop : Stop) (r : RunResult) (after : State) (old new : Option (List ℕ)) : Type 0 where
  pub end : told_end stop after ≡ Some r.end
  pub wrote : new ≡ adds old r.output

-- the sink failed, and a part of the run's output was taken
pub record ToldPart (r : RunResult) (old new : Option (List ℕ)) (before now : ℕ) : Type 0 where
  pub rose : Rose before now
  pub sent : List ℕ
  pub rest : List ℕ
  pub part : r.output ≡ sent ++ rest
  pub wrote : new ≡ adds old sent

-- what an answer tells of a run with a result
abbrev pub Tells : Stop → RunResult → State → Option (List ℕ) → Option (List ℕ) → ℕ → ℕ → Type 0
Tells Steps r after old new before now = ToldAll Steps r after old new
Tells Ended r after old new before now = ToldAll Ended r after old new
Tells Uncaught r after old new before now = ToldAll Uncaught r after old new
Tells NoHeap r after old new before now = ToldAll NoHeap r after old new
Tells NoStack r after old new before now = ToldAll NoStack r after old new
Tells Stuck r after old new before now = ToldAll Stuck r after old new
Tells WriteFault r after old new before now = ToldPart r old new before now

-- of an uncaught exception its name was sent
abbrev pub NameSent : Stop → RunResult → Option (List ℕ) → Option (List ℕ) → Type 0
NameSent Steps r old new = new ≡ old
NameSent Ended r old new = new ≡ old
NameSent Uncaught r old new = (name : List ℕ) × (r.end ≡ uncaught name) × (new ≡ adds old name)
NameSent NoHeap r old new = new ≡ old
NameSent NoStack r old new = new ≡ old
NameSent Stuck r old new = new ≡ old
NameSent WriteFault r old new = new ≡ old

-- what a first run and the name after it tell of a run with a result
pub record TellsFirst (stop : Stop) (put : Put) (r : RunResult) (old new : Option (List ℕ)) (before now : ℕ)
    (old_name new_name : Option (List ℕ)) : Type 0 where
  pub after : State
  pub told : Tells stop r after old new before now
  pub name : put ≡ Done → NameSent stop r old_name new_name
