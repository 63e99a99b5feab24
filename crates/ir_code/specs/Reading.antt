-- How far bytes are read.
use Rattle.std.specs.Prelude.{◌≡◌, ℕ, ◌+◌, ◌*◌, ◌^◌, ◌≤◌, false, List, [], ◌∷◌, ◌++◌, length}
use Rattle.std.specs.List.{AllByRecursion, flat_map}
use Rattle.ir_code.specs.declared.instr.Instr.{Instr}
use Rattle.ir_code.specs.ImageBytes.{Row, IsWord, magic, word_bytes, words_of, words, fours, is_instr}

-- an instruction's sixteen bytes
abbrev pub instr_bytes : Instr → List ℕ
instr_bytes i = flat_map word_bytes (words_of i)

abbrev pub HasWords : Instr → Type 0
HasWords i = AllByRecursion IsWord (words_of i)

-- the header, and as many bytes after it as it says
pub record HasHeader (bytes : List ℕ) (constants code : ℕ) (rest : List ℕ) : Type 0 where
  pub parts : bytes ≡ magic ++ flat_map word_bytes (1 ∷ constants ∷ code ∷ []) ++ rest
  pub left : length rest ≡ 4 * constants + 16 * code
  pub small : constants + 4 * code ≤ 2 ^ 27

-- words were read, and the rest is left
pub record HasConstants (bytes constants rest : List ℕ) : Type 0 where
  pub parts : bytes ≡ flat_map word_bytes constants ++ rest
  pub are_words : AllByRecursion IsWord constants

-- an instruction was read, and the rest is left
pub record HasInstr (bytes : List ℕ) (instr : Instr) (rest : List ℕ) : Type 0 where
  pub parts : bytes ≡ instr_bytes instr ++ rest
  pub are_words : HasWords instr

-- the first four words are no instruction
pub record HasNoInstr (bytes rest : List ℕ) : Type 0 where
  pub row : Row
  pub parts : fours (words bytes) ≡ row ∷ fours (words rest)
  pub unknown : is_instr row ≡ false

-- instructions were read, and the rest is left
pub record HasCode (bytes : List ℕ) (code : List Instr) (rest : List ℕ) : Type 0 where
  pub parts : bytes ≡ flat_map instr_bytes code ++ rest
  pub are_words : AllByRecursion HasWords code
