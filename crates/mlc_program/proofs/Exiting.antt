-- The exits of a command.
use Rattle.std.proofs.Common.{◌≡◌, inr}
use Rattle.mlc_outside.specs.Store.{with_file}
use Rattle.ir_code.specs.ImageBytes.{IsProgram, image_bytes}
use Rattle.ir_code.specs.Program.{Program}
use Rattle.mlc_program.specs.Command.{Command}
use Rattle.mlc_program.specs.Exits.{Exited}
use Rattle.mlc_program.specs.Outside.{Disk, Stream}
use Rattle.mlc_program.specs.Running.{Runs}
use Rattle.mlc_program.specs.Statuses.{Compiles, Built}
use Rattle.mlc_program.specs.declared.exit.Exit.{Exit}
use Rattle.mlc_program.specs.declared.exit.Exit.TheVariants.{Ended, Uncaught, StepLimit, OutOfHeap, OutOfStack, Refused, Missing, ReadFailed, StoreFailed, OutFailed, NoMemory}

-- of a run, once the image is in its file
module _ (old new : Disk) (out out' : Stream) (c : Command) (image : Program) (program : IsProgram image) (compiles : Compiles old.files c image) (holds : new.files ≡ with_file old.files c.output (image_bytes image)) where
  abbrev built : Built old.files new.files c
  built = record { image = image; is_program = program; compiles = compiles; holds = holds }

  pub run-exit : (e : Exit) → Runs e c image out out' → Exited e old new out out' c
  run-exit Ended r = record { built = built; output = r.0; ends = r.1 }
  run-exit (Uncaught vm) r = record { built = built; output = r.0; ends = r.1 }
  run-exit StepLimit r = record { built = built; output = r.0; ends = r.1 }
  run-exit OutOfHeap r = record { built = built; output = r.0; ends = r.1 }
  run-exit OutOfStack r = record { built = built; output = r.0; ends = r.1 }
  run-exit (Refused line) r = absurd r
  run-exit (Missing path) r = absurd r
  run-exit (ReadFailed path) r = absurd r
  run-exit StoreFailed r = absurd r
  run-exit OutFailed r = record { built = built; rose = r.rose; sent = r.sent; part = r.part; output = r.output }
  run-exit NoMemory r = (inr built, r)
