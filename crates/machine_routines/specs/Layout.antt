-- Values and the words that stand for them, over a layout of the memory in use, which only grows.
use Rattle.std.specs.Prelude.{◌≡◌, ℕ, zero, suc, ◌+◌, ◌^◌, ◌<◌, List, [], ◌∷◌, length, Bool, true, false, Option, Some, None, slice_get}
use Rattle.ir_code.specs.Machine.{all_bytes}
use Rattle.ir_code.specs.Words.{word_of}
use Rattle.mlc_prims.specs.LitOf.{Literal, int, word, char, string, truth}
use Rattle.first_values.specs.Values.{Value, literal, cell, reference, name, packet, Values, no_values, value}

-- a word in use: one that stays, that of a reference, or that of an exception name, which stays
pub data Word : Type 0 where
  stays : ℕ → Word
  changes : Word
  names : ℕ → Word

abbrev pub is_reference : Word → Bool
is_reference (stays y) = false
is_reference changes = true
is_reference (names y) = false

abbrev pub is_name : Word → Bool
is_name (stays y) = false
is_name changes = false
is_name (names y) = true

abbrev pub after_one : Option ℕ → Option ℕ
after_one None = None
after_one (Some x) = Some (suc x)

abbrev pub nth_step : Bool → ℕ → (ℕ → Option ℕ) → Option ℕ
nth_step false i rest = after_one (rest i)
nth_step true zero rest = Some 0
nth_step true (suc i) rest = after_one (rest i)

-- the address of the i-th word of a kind
abbrev pub nth_at : (Word → Bool) → List Word → ℕ → Option ℕ
nth_at is [] i = None
nth_at is (w ∷ l) i = nth_step (is w) i (nth_at is l)

-- bytes, one in a word
abbrev pub BytesAt : List Word → List ℕ → ℕ → Type 0
BytesAt l [] x = Unit {0}
BytesAt l (c ∷ t) x = (slice_get l x ≡ Some (stays c)) × BytesAt l t (x + 1)

-- a text: how many bytes it has, and then the bytes
abbrev pub TextAt : List Word → List ℕ → ℕ → Type 0
TextAt l t x = (slice_get l x ≡ Some (stays (length t))) × BytesAt l t (x + 1) × (all_bytes t ≡ true)

-- an integer in its word, a word of 32 bits or a character of 8 itself, a string by its address; truth values are cells
abbrev pub IsLiteral : List Word → Literal → ℕ → Type 0
IsLiteral l (int z) x = word_of z ≡ Some x
IsLiteral l (word n) x = (x ≡ n) × (n < 2 ^ 32)
IsLiteral l (char n) x = (x ≡ n) × (n < 256)
IsLiteral l (string t) x = TextAt l t x
IsLiteral l (truth b) x = ⊥

-- the word stands for the value
abbrev mutual
  pub Is : List Word → Value → ℕ → Type 0
  Is l (literal c) x = IsLiteral l c x
  Is l (cell t vs) x = (slice_get l x ≡ Some (stays t)) × AreAt l vs (x + 1)
  Is l (reference i) x = nth_at is_reference l i ≡ Some x
  Is l (name i) x = nth_at is_name l i ≡ Some x
  Is l (packet i v) x = (a : ℕ) × (y : ℕ) × (slice_get l x ≡ Some (stays a)) × (nth_at is_name l i ≡ Some a) × (slice_get l (x + 1) ≡ Some (stays y)) × Is l v y

  -- the words from x on do
  pub AreAt : List Word → Values → ℕ → Type 0
  AreAt l no_values x = Unit {0}
  AreAt l (value v vs) x = (y : ℕ) × (slice_get l x ≡ Some (stays y)) × Is l v y × AreAt l vs (x + 1)

-- the words that stay are in the memory
abbrev pub Shows : List Word → List ℕ → Type 0
Shows l m = (x y : ℕ) → slice_get l x ≡ Some (stays y) → slice_get m x ≡ Some y
