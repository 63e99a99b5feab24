-- How much was read, as the code counts it.
use Rattle.std.specs.Prelude.{◌≡◌, ℕ, ◌≤◌, List, length}
use Rattle.mlc_faults.specs.File.{File}
use Rattle.mlb_reader.specs.Project.{Fits, bytes_in, most_bytes_together, most_reads}
use Rattle.mlb_reader.specs.declared.counts.Counts.{Counts}
use Rattle.mlb_reader.specs.declared.counts.Kept as code
use Rattle.mlb_reader.specs.declared.counts.Kept.TheVariants.{TooLarge}
use Rattle.mlb_reader.specs.declared.counts.Kept.TheVariants as variant

-- the counts of these files, which are within the limits
pub record IsCount (counts : Counts) (reads : List File) : Type 0 where
  pub reads_are : counts.reads ≡ length reads
  pub bytes_are : counts.bytes ≡ bytes_in reads
  pub few : length reads ≤ most_reads
  pub small : bytes_in reads ≤ most_bytes_together

-- one file more, of this number, within the limits
pub record KeepsFile (number : ℕ) (old : List File) (bytes : List ℕ) (counts : Counts) (new : List File) : Type 0 where
  pub number_is : number ≡ length old
  pub fits : Fits old bytes
  pub count : IsCount counts new

abbrev pub IsKept : code.Kept → List File → List ℕ → Counts → List File → Type 0
IsKept (variant.Fits number) old bytes counts new = KeepsFile number old bytes counts new
IsKept TooLarge old bytes counts new = ¬ (Fits old bytes)
