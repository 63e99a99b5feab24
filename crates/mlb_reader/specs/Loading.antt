-- Steps of loading.
use Rattle.std.specs.Prelude.{◌≡◌, ℕ, ◌≤◌, List, [], ◌∷◌, ◌++◌, length, map, Option, Some, None, nat_lt, if◌then◌else◌}
use Rattle.mlc_faults.specs.File.{File}
use Rattle.mlc_faults.specs.Files.{LiesIn}
use Rattle.mlc_faults.specs.declared.code.Code.TheVariants.{FilesTooLarge, PathVariable, Extension, TooManyFiles}
use Rattle.mlc_faults.specs.declared.fault.Fault.{Fault}
use Rattle.mlc_base.specs.declared.place.Place.{Place}
use Rattle.mlc_outside.specs.Files.{Files}
use Rattle.mlc_outside.specs.Store.{HasFile}
use Rattle.mlb_reader.specs.Table.{IsTable}
use Rattle.mlb_reader.specs.Broken.{IsBroken, IsMissing, fault_at}
use Rattle.mlb_reader.specs.Counting.{IsCount}
use Rattle.mlb_reader.specs.Mlb.{Item, IsMlb, has_variable, is_source}
use Rattle.mlb_reader.specs.PartOf.{part_of}
use Rattle.mlb_reader.specs.Path.{clean}
use Rattle.mlb_reader.specs.Project.{Loaded, Fits, ComesTo, IsNeeded, most_reads}
use Rattle.mlb_reader.specs.Refusals.{IfTold}
use Rattle.mlb_reader.specs.Within.{AllPlacedIn, HoldsAll}
use Rattle.mlb_reader.specs.declared.counts.Counts.{Counts}
use Rattle.mlb_reader.specs.declared.load.Loading.{Loading}

-- what was loaded, with the table of names and the files that were read
abbrev pub loaded_of : List (List ℕ) → Loading → List File → Loaded
loaded_of names l reads = record { names = names; fixities = l.fixities; parts = map part_of l.parts.items; reads = reads }

-- files are only added
pub record Grows (old new : List File) : Type 0 where
  pub more : List File
  pub are : new ≡ old ++ more

-- the file at a path, which was read, within the limits
pub record IsFetched (files : Option Files) (path : List ℕ) (number : ℕ) (counts : Counts) (old new : List File) : Type 0 where
  pub file : File
  pub path_is : file.path ≡ path
  pub has : HasFile files path (Some file.bytes)
  pub added : new ≡ old ++ file ∷ []
  pub number_is : number ≡ length old
  pub fits : Fits old file.bytes
  pub count : IsCount counts new

-- the file at a path, which was read and isn't within the limits
pub record IsTooLarge (files : Option Files) (path : List ℕ) (byte : ℕ) (fault : Fault) (old new : List File) : Type 0 where
  pub file : File
  pub path_is : file.path ≡ path
  pub has : HasFile files path (Some file.bytes)
  pub added : new ≡ old ++ file ∷ []
  pub no_fit : ¬ (Fits old file.bytes)
  pub fault_is : fault ≡ fault_at FilesTooLarge 0 byte

-- the ML Basis file is the first file that was read, and has these paths
pub record IsBegun (files : Option Files) (path : List ℕ) (items : List Item) (reads : List File) : Type 0 where
  pub file : File
  pub path_is : file.path ≡ path
  pub has : HasFile files path (Some file.bytes)
  pub reads_are : reads ≡ file ∷ []
  pub fits : Fits [] file.bytes
  pub is : IsMlb file.bytes items

-- a byte of a file of so many bytes, or its end
abbrev pub IsPlaceOf : ℕ → ℕ → Place → Type 0
IsPlaceOf file size place = (place.file ≡ file) × (place.byte ≤ size)

-- the table is one, the names of all phrases are held, and their places lie in the files
pub record IsKnown (s : Loaded) : Type 0 where
  pub table : IsTable s.names
  pub held : HoldsAll (length s.names) s.parts
  pub placed : AllPlacedIn (λ place. LiesIn place s.reads) s.parts

-- why a path other than that of the standard basis isn't read, after so many reads
abbrev pub path_fault : Item → ℕ → Option Fault
path_fault item reads =
    if has_variable item.word then Some (fault_at PathVariable 0 item.byte)
    else (if is_source item.word
    then (if nat_lt reads most_reads then None else Some (fault_at TooManyFiles 0 item.byte))
    else Some (fault_at Extension 0 item.byte))

-- loading that comes to this path, with these loaded, is refused
abbrev pub BreaksAt : Option Files → List ℕ → Loaded → Item → Fault → List File → Type 0
BreaksAt files mlb s item fault reads = IfTold files (λ f. (input : List ℕ) → clean input ≡ mlb → ComesTo f input s item → IsBroken f input fault reads)

-- loading that comes to this path needs a file that isn't there
abbrev pub MissesAt : Option Files → List ℕ → Loaded → Item → List ℕ → Type 0
MissesAt files mlb s item path = IfTold files (λ f. (input : List ℕ) → clean input ≡ mlb → ComesTo f input s item → IsMissing f input path)

-- loading that comes to this path needs the file at a path
abbrev pub NeedsAt : Option Files → List ℕ → Loaded → Item → List ℕ → Type 0
NeedsAt files mlb s item path = IfTold files (λ f. (input : List ℕ) → clean input ≡ mlb → ComesTo f input s item → IsNeeded f input path)

-- the ML Basis file at this path is refused
abbrev pub BreaksFirst : Option Files → List ℕ → Fault → List File → Type 0
BreaksFirst files mlb fault reads = IfTold files (λ f. (input : List ℕ) → clean input ≡ mlb → IsBroken f input fault reads)
