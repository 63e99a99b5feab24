-- Images as bytes. All numbers are words of four bytes, the least byte first.
use Rattle.std.specs.Prelude.{◌≡◌, ℕ, ◌+◌, ◌*◌, ◌^◌, ◌<◌, ◌≤◌, min, Bool, not, ◌&&◌, ◌||◌, eqb, List, [], ◌∷◌, ◌++◌, length, map, drop, Option, Some, None, option_map, nat_lt, nat_le, ◌==◌, if◌then◌else◌, slice_index, codes}
use Rattle.std.specs.List.{AllByRecursion, flat_map, list_any, position, starts_with}
use Rattle.std.specs.Option.{option_or}
use Rattle.std.specs.Int.{w32, to_le_bytes, from_le_bytes}
use Rattle.ir_code.specs.Program.{Program}
use Rattle.ir_code.specs.declared.instr.Instr.{Instr}
use Rattle.ir_code.specs.declared.instr.Instr.TheVariants.{Li, Mov, Jmp, Brz, Switch, Call, Ret, Acc, PushHandler, PopHandler, Raise, End, Alloc, AllocVar, Ld, St, Copy, Add, Sub, Mul, IDiv, IMod, IQuot, IRem, WAdd, WSub, WMul, WDiv, WMod, And, Or, Xor, Shl, Shr, Sar, ILt, ULt, Eq, SCmp, IText, Print}

-- the operation's number and the operands a, b and c
abbrev pub Row : Type 0
Row = ℕ × ℕ × ℕ × ℕ

-- an operand that the instruction doesn't name is 0
abbrev pub row_of : Instr → Row
row_of (Li dst value) = (1, dst, value, 0)
row_of (Mov dst src) = (2, dst, src, 0)
row_of (Jmp target) = (3, target, 0, 0)
row_of (Brz test target) = (4, test, target, 0)
row_of (Switch index last) = (5, index, last, 0)
row_of (Call target frame) = (6, target, frame, 0)
row_of (Ret value) = (7, value, 0, 0)
row_of (Acc dst) = (8, dst, 0, 0)
row_of (PushHandler record_slot target) = (9, record_slot, target, 0)
row_of (PopHandler record_slot) = (10, record_slot, 0, 0)
row_of (Raise packet) = (11, packet, 0, 0)
row_of End = (12, 0, 0, 0)
row_of (Alloc dst words) = (13, dst, words, 0)
row_of (AllocVar dst words) = (14, dst, words, 0)
row_of (Ld dst base offset) = (15, dst, base, offset)
row_of (St base offset src) = (16, base, offset, src)
row_of (Copy dst src count) = (17, dst, src, count)
row_of (Add dst left right) = (18, dst, left, right)
row_of (Sub dst left right) = (19, dst, left, right)
row_of (Mul dst left right) = (20, dst, left, right)
row_of (IDiv dst left right) = (21, dst, left, right)
row_of (IMod dst left right) = (22, dst, left, right)
row_of (IQuot dst left right) = (23, dst, left, right)
row_of (IRem dst left right) = (24, dst, left, right)
row_of (WAdd dst left right) = (25, dst, left, right)
row_of (WSub dst left right) = (26, dst, left, right)
row_of (WMul dst left right) = (27, dst, left, right)
row_of (WDiv dst left right) = (28, dst, left, right)
row_of (WMod dst left right) = (29, dst, left, right)
row_of (And dst left right) = (30, dst, left, right)
row_of (Or dst left right) = (31, dst, left, right)
row_of (Xor dst left right) = (32, dst, left, right)
row_of (Shl dst left right) = (33, dst, left, right)
row_of (Shr dst left right) = (34, dst, left, right)
row_of (Sar dst left right) = (35, dst, left, right)
row_of (ILt dst left right) = (36, dst, left, right)
row_of (ULt dst left right) = (37, dst, left, right)
row_of (Eq dst left right) = (38, dst, left, right)
row_of (SCmp dst left right) = (39, dst, left, right)
row_of (IText dst src) = (40, dst, src, 0)
row_of (Print text) = (41, text, 0, 0)

abbrev pub listed : Row → List ℕ
listed r = r.0 ∷ r.1 ∷ r.2 ∷ r.3 ∷ []

-- an instruction's four words
abbrev pub words_of : Instr → List ℕ
words_of i = listed (row_of i)

-- a word's four bytes
abbrev pub word_bytes : ℕ → List ℕ
word_bytes n = to_le_bytes w32 n

-- the first four bytes of an image
abbrev pub magic : List ℕ
magic = codes "MLX1"

-- after these: the version, how many constant words and instructions there are, and both
abbrev pub image_words : Program → List ℕ
image_words p = 1 ∷ length p.constants ∷ length p.code ∷ (p.constants ++ flat_map words_of p.code)

abbrev pub image_bytes : Program → List ℕ
image_bytes p = magic ++ flat_map word_bytes (image_words p)

-- the bytes are the program's
abbrev pub ImageBytes : Program → List ℕ → Type 0
ImageBytes p bytes = bytes ≡ image_bytes p

abbrev pub IsWord : ℕ → Type 0
IsWord n = n < 2 ^ 32

-- a program of words, at most 2^27 of them
pub record IsProgram (p : Program) : Type 0 where
  pub constants : AllByRecursion IsWord p.constants
  pub code : AllByRecursion (λ i. AllByRecursion IsWord (words_of i)) p.code
  pub small : length p.constants + 4 * length p.code ≤ 2 ^ 27

-- a list cut into fours; what is left over is dropped
abbrev pub fours : List ℕ → List Row
fours (a ∷ b ∷ c ∷ d ∷ rest) = (a, b, c, d) ∷ fours rest
fours _ = []

abbrev pub word_of : Row → ℕ
word_of r = from_le_bytes w32 (listed r)

-- bytes as words
abbrev pub words : List ℕ → List ℕ
words bytes = map word_of (fours bytes)

-- the operations that name all of a, b and c; a and b; a
abbrev pub names_three : ℕ → Bool
names_three op = nat_le 15 op && nat_le op 39

abbrev pub names_two : ℕ → Bool
names_two op = list_any (λ k. op == k) (1 ∷ 2 ∷ 4 ∷ 5 ∷ 6 ∷ 9 ∷ 13 ∷ 14 ∷ 40 ∷ [])

abbrev pub names_one : ℕ → Bool
names_one op = list_any (λ k. op == k) (3 ∷ 7 ∷ 8 ∷ 10 ∷ 11 ∷ 41 ∷ [])

-- a known operation, and 0 for each operand that it doesn't name
abbrev pub is_instr : Row → Bool
is_instr r = names_three r.0 || ((r.3 == 0) && (names_two r.0 || ((r.2 == 0) && (names_one r.0 || ((r.1 == 0) && (r.0 == 12))))))

-- the constant words and the instructions that the header announces
abbrev pub constants_said : List ℕ → ℕ
constants_said bytes = slice_index (words bytes) 2

abbrev pub code_said : List ℕ → ℕ
code_said bytes = slice_index (words bytes) 3

-- where the code begins, and where it ends
abbrev pub code_start : List ℕ → ℕ
code_start bytes = 16 + 4 * constants_said bytes

abbrev pub code_end : List ℕ → ℕ
code_end bytes = code_start bytes + 16 * code_said bytes

-- in bytes that begin at start: where the first four words that are no instruction begin
unfoldable pub unknown_from : ℕ → List ℕ → Option ℕ
unknown_from start bytes = option_map (λ i. start + 16 * i) (position (λ r. not (is_instr r)) (fours (words bytes)))

-- the checks of the header and of the length, in their order: the offset that the first failed one names
unfoldable pub header_failed : List ℕ → Option ℕ
header_failed bytes =
    if nat_lt (length bytes) 16 then Some (length bytes)
    else (if not (starts_with eqb bytes magic) then Some 0
    else (if not (slice_index (words bytes) 1 == 1) then Some 4
    else (if nat_lt (2 ^ 27) (constants_said bytes + 4 * code_said bytes) then Some 8
    else (if not (length bytes == code_end bytes) then Some (min (length bytes) (code_end bytes))
    else None))))

-- these, and then the instructions
unfoldable pub first_failed : List ℕ → Option ℕ
first_failed bytes = option_or (header_failed bytes) (unknown_from (code_start bytes) (drop (code_start bytes) bytes))
