-- Why loading refuses a project, in the one order, with the files that were read.
use Rattle.std.specs.Prelude.{◌≡◌, ◌≢◌, ℕ, ◌≤◌, true, false, List, [], ◌∷◌, ◌++◌, length, Some, None}
use Rattle.std.specs.FinMap.{get}
use Rattle.mlc_faults.specs.File.{File}
use Rattle.mlc_faults.specs.declared.code.Code.{Code}
use Rattle.mlc_faults.specs.declared.code.Code.TheVariants.{FilesTooLarge, MlbSyntax, PathVariable, Extension, TooManyFiles}
use Rattle.mlc_faults.specs.declared.fault.Fault.{Fault}
use Rattle.mlc_names.specs.declared.token.Token.{Token}
use Rattle.mlc_names.specs.StandardWords.{word_times}
use Rattle.mlc_outside.specs.Files.{Files}
use Rattle.sml_lexer.specs.Lexes as lexer
use Rattle.sml_lexer.specs.Lexes.{Lexed, Lexes}
use Rattle.sml_tree.specs.Fixity.{Fixity}
use Rattle.sml_tree.specs.Terminal.{terminals}
use Rattle.sml_parser.specs.Core.{IsStop}
use Rattle.sml_modparse.specs.Programs.{Cause}
use Rattle.mlb_reader.specs.Mlb.{Item, IsMlb, basis_path, has_variable, is_source}
use Rattle.mlb_reader.specs.Path.{clean, path_from}
use Rattle.mlb_reader.specs.Project.{Loaded, Fits, HasTokens, MayRead, IsRead, ComesTo, IsNeeded, most_reads}

abbrev pub fault_at : Code → ℕ → ℕ → Fault
fault_at code file byte = record { code = code; place = record { file = file; byte = byte }; name = None }

-- a source that has no tokens, or that no tree at most 400 deep reads under these fixities; names is the table before it
pub data IsBad (names : List (List ℕ)) (number : ℕ) (fixities : Fixity) (bytes : List ℕ) : Fault → Type 0 where
  no_tokens : {f : Fault} → lexer.IsRefused bytes number f → ((tokens : List Lexed) → ¬ (Lexes bytes tokens)) → IsBad names number fixities bytes f
  no_tree : {f : Fault} (tokens : List Token) (names' : List (List ℕ)) → HasTokens names bytes tokens names'
      → Cause fixities (terminals word_times tokens) f.code
      → IsStop (record { file = number; star = word_times }) (length bytes) tokens f.place → f.name ≡ None → IsBad names number fixities bytes f

pub data IsBroken (files : Files) (input : List ℕ) : Fault → List File → Type 0 where
  large_mlb : (file : File) → file.path ≡ clean input → get files file.path ≡ Some file.bytes → ¬ (Fits [] file.bytes)
      → IsBroken files input (fault_at FilesTooLarge 0 0) (file ∷ [])
  no_mlb : (file : File) → file.path ≡ clean input → get files file.path ≡ Some file.bytes → Fits [] file.bytes
      → ((items : List Item) → ¬ (IsMlb file.bytes items)) → IsBroken files input (fault_at MlbSyntax 0 0) (file ∷ [])
  variable : {s : Loaded} {item : Item} → ComesTo files input s item → item.word ≢ basis_path → has_variable item.word ≡ true
      → IsBroken files input (fault_at PathVariable 0 item.byte) s.reads
  extension : {s : Loaded} {item : Item} → ComesTo files input s item → has_variable item.word ≡ false → is_source item.word ≡ false
      → IsBroken files input (fault_at Extension 0 item.byte) s.reads
  too_many : {s : Loaded} {item : Item} → ComesTo files input s item → has_variable item.word ≡ false → is_source item.word ≡ true → most_reads ≤ length s.reads
      → IsBroken files input (fault_at TooManyFiles 0 item.byte) s.reads
  too_large : {s : Loaded} {item : Item} (file : File) → ComesTo files input s item → MayRead s item → file.path ≡ path_from (clean input) item.word
      → get files file.path ≡ Some file.bytes → ¬ (Fits s.reads file.bytes) → IsBroken files input (fault_at FilesTooLarge 0 item.byte) (s.reads ++ file ∷ [])
  bad_source : {s : Loaded} {item : Item} {f : Fault} (to : ComesTo files input s item) (file : File) → IsRead files (clean input) s item file
      → IsBad s.names (length s.reads) s.fixities file.bytes f → IsBroken files input f (s.reads ++ file ∷ [])

-- a path that is needed, and has no file
pub record IsMissing (files : Files) (input path : List ℕ) : Type 0 where
  pub is_needed : IsNeeded files input path
  pub has_no_file : get files path ≡ None
