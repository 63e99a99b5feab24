-- How much was read.
use Rattle.std.proofs.Common.{◌≡◌, ℕ, ◌+◌, ◌<◌, ◌≤◌, List, [], ◌∷◌, ◌++◌, length, ap, ◌∙◌, arith, length-append}
use Rattle.mlc_faults.specs.File.{File}
use Rattle.mlb_reader.specs.Counting.{IsCount, KeepsFile}
use Rattle.mlb_reader.specs.Project.{bytes_in, most_bytes, most_bytes_together, most_reads}
use Rattle.mlb_reader.specs.declared.counts.Counts.{Counts}

bytes-in-more : (files : List File) (file : File) → bytes_in (files ++ file ∷ []) ≡ bytes_in files + length file.bytes
bytes-in-more [] file = omega arith
bytes-in-more (f ∷ files) file = omega (arith, bytes-in-more files file)

pub keeps-file : (number : ℕ) (old new : List File) (path bytes : List ℕ) (before : Counts) (len : ℕ) → IsCount before old → length old < most_reads → number ≡ length old → len ≡ length bytes → new ≡ old ++ record { path = path; bytes = bytes } ∷ [] → len ≤ most_bytes → before.bytes + len ≤ most_bytes_together →
    KeepsFile number old bytes (record { reads = before.reads + 1; bytes = before.bytes + len }) new
keeps-file number old new path bytes before len count room n l e small together =
    let size : length new ≡ length old + 1 = ap length e ∙ length-append old _ in
    let sum : bytes_in new ≡ bytes_in old + length bytes = ap bytes_in e ∙ bytes-in-more old _ in
    record {
      number_is = n;
      fits = record { small = omega (arith, l, small); together = omega (arith, l, together, count.bytes_are) };
      count = record {
        reads_are = omega (arith, count.reads_are, size);
        bytes_are = omega (arith, count.bytes_are, sum, l);
        few = omega (arith, size, room);
        small = omega (arith, count.bytes_are, sum, l, together);
      };
    }
