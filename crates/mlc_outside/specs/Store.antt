-- What a call of a store does.
use Rattle.std.specs.Prelude.{◌≡◌, ◌≢◌, ℕ, ◌≤◌, List, Option, Some, None, ⊤}
use Rattle.std.specs.FinMap.{get, insert}
use Rattle.mlc_outside.specs.Faults.{Rose}
use Rattle.mlc_outside.specs.Files.{Files}
use Rattle.mlc_outside.specs.declared.store.Read.{Read}
use Rattle.mlc_outside.specs.declared.store.Read.TheVariants.{Bytes, Missing, Failed, Memory}
use Rattle.mlc_outside.specs.declared.store.Wrote.{Wrote}
use Rattle.mlc_outside.specs.declared.store.Wrote.TheVariants.{Done, Failed as Failed_write, Memory as Memory_write}

-- the file at a path is this, where the files are told
abbrev pub HasFile : Option Files → List ℕ → Option (List ℕ) → Type 0
HasFile None path file = ⊤
HasFile (Some files) path file = get files path ≡ file

-- what a read says of the files: nothing changes, Missing means that there is none, and Bytes are the file's
abbrev pub WasRead : Read → List ℕ → Option Files → Option Files → Type 0
WasRead (Bytes bytes) path old new = (new ≡ old) × HasFile old path (Some bytes.items)
WasRead Missing path old new = (new ≡ old) × HasFile old path None
WasRead Failed path old new = new ≡ old
WasRead Memory path old new = new ≡ old

-- a read answers Failed only where it counted a fault
abbrev pub CountsRead : Read → ℕ → ℕ → Type 0
CountsRead (Bytes bytes) before after = before ≤ after
CountsRead Missing before after = before ≤ after
CountsRead Failed before after = (before ≤ after) × Rose before after
CountsRead Memory before after = before ≤ after

-- the files with one more or another one, where they are told
abbrev pub with_file : Option Files → List ℕ → List ℕ → Option Files
with_file None path bytes = None
with_file (Some files) path bytes = Some (insert files path bytes)

-- all other paths have what they had, where the files are told; a store that tells them goes on telling
abbrev pub OthersStay : List ℕ → Option Files → Option Files → Type 0
OthersStay path None new = new ≡ None
OthersStay path (Some old) None = ⊥
OthersStay path (Some old) (Some new) = (other : List ℕ) → other ≢ path → get new other ≡ get old other

-- Done: the path holds the bytes and nothing else changed. Failed: all other paths stay. Memory: nothing changed.
abbrev pub WasWritten : Wrote → List ℕ → List ℕ → Option Files → Option Files → Type 0
WasWritten Done path bytes old new = new ≡ with_file old path bytes
WasWritten Failed_write path bytes old new = OthersStay path old new
WasWritten Memory_write path bytes old new = new ≡ old

-- a write answers Failed only where it counted a fault
abbrev pub CountsWrite : Wrote → ℕ → ℕ → Type 0
CountsWrite Done before after = before ≤ after
CountsWrite Failed_write before after = (before ≤ after) × Rose before after
CountsWrite Memory_write before after = before ≤ after
