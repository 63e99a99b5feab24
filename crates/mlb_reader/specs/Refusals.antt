-- Why loading has no answer.
use Rattle.std.specs.Prelude.{Option, Some, None, Result, Ok, Err, String, ⊤}
use Rattle.std.specs.Global.{Global}
use Rattle.mlc_faults.specs.declared.fault.Fault as base
use Rattle.mlc_faults.specs.declared.refused.Refused.{Refused}
use Rattle.mlc_faults.specs.declared.refused.Refused.TheVariants as refusal
use Rattle.mlc_outside.specs.Files.{Files}
use Rattle.mlb_reader.specs.declared.refused.LoadRefused.{LoadRefused}
use Rattle.mlb_reader.specs.declared.refused.LoadRefused.TheVariants as load

abbrev pub load_refused_of : Refused → LoadRefused
load_refused_of (refusal.Fault fault) = load.Fault fault
load_refused_of refusal.Memory = load.Memory

abbrev pub IfNoFile : {T : Type 0} → Result T LoadRefused → (String Global → Type 0) → Type 0
IfNoFile (Ok x) P = ⊤
IfNoFile (Err (load.NoFile path)) P = P path
IfNoFile (Err (load.ReadFault path)) P = ⊤
IfNoFile (Err (load.Fault fault)) P = ⊤
IfNoFile (Err load.Memory) P = ⊤

abbrev pub IfReadFault : {T : Type 0} → Result T LoadRefused → (String Global → Type 0) → Type 0
IfReadFault (Ok x) P = ⊤
IfReadFault (Err (load.NoFile path)) P = ⊤
IfReadFault (Err (load.ReadFault path)) P = P path
IfReadFault (Err (load.Fault fault)) P = ⊤
IfReadFault (Err load.Memory) P = ⊤

abbrev pub IfLoadFault : {T : Type 0} → Result T LoadRefused → (base.Fault → Type 0) → Type 0
IfLoadFault (Ok x) P = ⊤
IfLoadFault (Err (load.NoFile path)) P = ⊤
IfLoadFault (Err (load.ReadFault path)) P = ⊤
IfLoadFault (Err (load.Fault fault)) P = P fault
IfLoadFault (Err load.Memory) P = ⊤

-- a fact of the files, where they are told
abbrev pub IfTold : Option Files → (Files → Type 0) → Type 0
IfTold None P = ⊤
IfTold (Some files) P = P files
