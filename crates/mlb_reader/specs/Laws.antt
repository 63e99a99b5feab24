-- What holds of every project.
use Rattle.std.specs.Prelude.{◌≡◌, ℕ, List}
use Rattle.mlc_faults.specs.File.{File}
use Rattle.mlc_outside.specs.Files.{Files}
use Rattle.mlb_reader.specs.Parts.{Part}
use Rattle.mlb_reader.specs.Project.{ProjectOf}

-- the files at a path give one project, with one table of names and one list of files that were read
abbrev pub OneProject : Type 0
OneProject =
    (files : Files) (input : List ℕ) (names names' : List (List ℕ)) (parts parts' : List Part) (reads reads' : List File)
    → ProjectOf files input names parts reads → ProjectOf files input names' parts' reads'
    → (names ≡ names') × (parts ≡ parts') × (reads ≡ reads')
