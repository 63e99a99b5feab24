-- The project that files give at a path. [ML Basis, Semantics]
use Rattle.std.specs.Prelude.{◌≡◌, ℕ, ◌+◌, ◌^◌, ◌<◌, ◌≤◌, true, false, List, [], ◌∷◌, ◌++◌, length, map, Some}
use Rattle.std.specs.FinMap.{get}
use Rattle.mlc_faults.specs.File.{File}
use Rattle.mlc_names.specs.declared.token.Token.{Token}
use Rattle.mlc_outside.specs.Files.{Files}
use Rattle.mlc_names.specs.StandardWords.{standard_words, word_times, word_it}
use Rattle.sml_lexer.specs.Lexes.{Lexes, lexed_of, HoldsAllNames, names_after}
use Rattle.sml_tree.specs.Terminal.{terminals}
use Rattle.sml_tree.specs.Fixity.{Fixity}
use Rattle.module_tree.specs.ReadModules as read
use Rattle.module_tree.specs.ModuleBare.{bare_tops}
use Rattle.module_tree.specs.Scope.{after_tops}
use Rattle.module_grammar.specs.Laws.{IsTree}
use Rattle.mlb_reader.specs.Basis.{standard_fixities}
use Rattle.mlb_reader.specs.Parts.{Part, standard_basis}
use Rattle.mlb_reader.specs.Mlb.{Item, IsMlb, basis_path, has_variable, is_source}
use Rattle.mlb_reader.specs.Path.{clean, path_from}
use Rattle.mlb_reader.specs.Tops.{part_of_tops}

-- limits: reads of files, the ML Basis file's among them; bytes of one file; bytes of all files together
abbrev pub most_reads : ℕ
most_reads = 4096

abbrev pub most_bytes : ℕ
most_bytes = 2 ^ 24

abbrev pub most_bytes_together : ℕ
most_bytes_together = 2 ^ 28

abbrev pub bytes_in : List File → ℕ
bytes_in [] = 0
bytes_in (file ∷ files) = length file.bytes + bytes_in files

-- after the files read so far one of these bytes is within the limits
pub record Fits (reads : List File) (bytes : List ℕ) : Type 0 where
  pub small : length bytes ≤ most_bytes
  pub together : bytes_in reads + length bytes ≤ most_bytes_together

-- the tokens of a source that is read with the table `names`, which has their words after it
pub record HasTokens (names : List (List ℕ)) (bytes : List ℕ) (tokens : List Token) (names' : List (List ℕ)) : Type 0 where
  pub lexes : Lexes bytes (map (lexed_of names') tokens)
  pub held : HoldsAllNames names' tokens
  pub table : names' ≡ names_after names (map (lexed_of names') tokens)

-- a source of these bytes, the file of this number, is this part where it is read with the table `names` under the fixities f: an expression at its top
-- is bound to `it`, and its tree is at most 400 deep; names' and f' hold after it
pub record IsSource (names : List (List ℕ)) (file : ℕ) (f : Fixity) (bytes : List ℕ) (part : Part) (names' : List (List ℕ)) (f' : Fixity) : Type 0 where
  pub tokens : List Token
  pub has_tokens : HasTokens names bytes tokens names'
  pub tree : List read.Top
  pub is : IsTree 400 f (terminals word_times tokens) tree
  pub bare : part ≡ part_of_tops (bare_tops word_it file tree)
  pub after : f' ≡ after_tops f tree

-- what was loaded: the table of names, the fixities in force, the parts, and the files that were read, in order
pub record Loaded : Type 0 where
  pub names : List (List ℕ)
  pub fixities : Fixity
  pub parts : List Part
  pub reads : List File

abbrev pub with_basis : Loaded → Loaded
with_basis s = record s { fixities = standard_fixities ++ s.fixities; parts = s.parts ++ standard_basis ∷ [] }

abbrev pub with_source : File → Part → List (List ℕ) → Fixity → Loaded → Loaded
with_source file part names f s = record { names = names; fixities = f; parts = s.parts ++ part ∷ []; reads = s.reads ++ file ∷ [] }

-- the path is a source's, and one more file may be read
pub record MayRead (s : Loaded) (item : Item) : Type 0 where
  pub no_variable : has_variable item.word ≡ false
  pub extension : is_source item.word ≡ true
  pub room : length s.reads < most_reads

-- the file at a source's path is read
pub record IsRead (files : Files) (mlb : List ℕ) (s : Loaded) (item : Item) (file : File) : Type 0 where
  pub may : MayRead s item
  pub path : file.path ≡ path_from mlb item.word
  pub has : get files file.path ≡ Some file.bytes
  pub fits : Fits s.reads file.bytes

-- paths of the ML Basis file at the path mlb, loaded one after the other
pub data Loads (files : Files) (mlb : List ℕ) : Loaded → List Item → Loaded → Type 0 where
  no_item : (s : Loaded) → Loads files mlb s [] s
  the_basis : {s s' : Loaded} {item : Item} {items : List Item} → item.word ≡ basis_path → Loads files mlb (with_basis s) items s'
      → Loads files mlb s (item ∷ items) s'
  a_source : {s s' : Loaded} {item : Item} {items : List Item} (file : File) {part : Part} {names : List (List ℕ)} {f : Fixity} → IsRead files mlb s item file
      → IsSource s.names (length s.reads) s.fixities file.bytes part names f → Loads files mlb (with_source file part names f s) items s'
      → Loads files mlb s (item ∷ items) s'

-- before the first path: the ML Basis file was read, its basis is empty, and the table has the standard words
abbrev pub begun : File → Loaded
begun file = record { names = standard_words; fixities = []; parts = []; reads = file ∷ [] }

-- the ML Basis file at a path
pub record HasMlb (files : Files) (input : List ℕ) (file : File) (items : List Item) : Type 0 where
  pub path : file.path ≡ clean input
  pub has : get files file.path ≡ Some file.bytes
  pub fits : Fits [] file.bytes
  pub is : IsMlb file.bytes items

-- loading comes to a path of the ML Basis file, with nothing broken before it
pub record ComesTo (files : Files) (input : List ℕ) (s : Loaded) (item : Item) : Type 0 where
  pub file : File
  pub before : List Item
  pub rest : List Item
  pub has_mlb : HasMlb files input file (before ++ item ∷ rest)
  pub loads : Loads files file.path (begun file) before s

-- the files give this project at the path: its parts, the reads of it, and its table of names
pub record ProjectOf (files : Files) (input : List ℕ) (names : List (List ℕ)) (parts : List Part) (reads : List File) : Type 0 where
  pub file : File
  pub items : List Item
  pub last : Loaded
  pub has_mlb : HasMlb files input file items
  pub loads : Loads files file.path (begun file) items last
  pub names_are : names ≡ last.names
  pub parts_are : parts ≡ last.parts
  pub reads_are : reads ≡ last.reads

-- the paths that loading comes to read
pub data IsNeeded (files : Files) (input : List ℕ) : List ℕ → Type 0 where
  the_mlb : IsNeeded files input (clean input)
  of_source : {s : Loaded} {item : Item} (to : ComesTo files input s item) → MayRead s item → IsNeeded files input (path_from (clean input) item.word)
