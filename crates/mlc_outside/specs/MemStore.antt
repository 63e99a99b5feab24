-- What a store in memory does: a listed call fails and changes nothing but its count.
use Rattle.std.specs.Prelude.{ℕ, Bool, List, Option, Some, if◌then◌else◌, IsTrue, not}
use Rattle.std.specs.FinMap.{insert}
use Rattle.mlc_outside.specs.Faults.{counted}
use Rattle.mlc_outside.specs.Files.{Files}
use Rattle.mlc_outside.specs.MemSink.{is_listed}
use Rattle.mlc_outside.specs.StoreContents.{StoreContents}
use Rattle.mlc_outside.specs.declared.store.Read.{Read}
use Rattle.mlc_outside.specs.declared.store.Read.TheVariants.{Bytes, Missing, Failed, Memory}
use Rattle.mlc_outside.specs.declared.store.Wrote.{Wrote}
use Rattle.mlc_outside.specs.declared.store.Wrote.TheVariants.{Done, Failed as Failed_write, Memory as Memory_write}

-- all files are told
abbrev pub told : StoreContents → Option Files
told s = Some s.files

abbrev pub fails_next : StoreContents → Bool
fails_next s = is_listed s.fails (counted s.calls)

-- Failed exactly at a listed call
abbrev pub ReadAnswer : StoreContents → Read → Type 0
ReadAnswer s (Bytes bytes) = IsTrue (not (fails_next s))
ReadAnswer s Missing = IsTrue (not (fails_next s))
ReadAnswer s Failed = IsTrue (fails_next s)
ReadAnswer s Memory = IsTrue (not (fails_next s))

abbrev pub WriteAnswer : StoreContents → Wrote → Type 0
WriteAnswer s Done = IsTrue (not (fails_next s))
WriteAnswer s Failed_write = IsTrue (fails_next s)
WriteAnswer s Memory_write = IsTrue (not (fails_next s))

abbrev pub after_read : StoreContents → StoreContents
after_read s =
    if fails_next s then record s { calls = counted s.calls; read_faults = counted s.read_faults }
    else record s { calls = counted s.calls }

abbrev pub after_write : StoreContents → List ℕ → List ℕ → Wrote → StoreContents
after_write s path bytes Done = record s { calls = counted s.calls; files = insert s.files path bytes }
after_write s path bytes Failed_write = record s { calls = counted s.calls; write_faults = counted s.write_faults }
after_write s path bytes Memory_write = record s { calls = counted s.calls }
