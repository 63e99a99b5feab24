-- Values that primitives take and give.
use Rattle.std.specs.Prelude.{ℕ, ℤ, Bool, List, [], ◌∷◌, map, Option, Some, None, option_map}
use Rattle.mlc_prims.specs.declared.lit.Lit.{Lit}
use Rattle.mlc_prims.specs.declared.lit.Lit.TheVariants as code
use Rattle.mlc_prims.specs.declared.args.IntPair.{IntPair}
use Rattle.mlc_prims.specs.declared.args.WordPair.{WordPair}
use Rattle.mlc_prims.specs.declared.args.StringPair.{StringPair}

-- a value that is no record, constructor or function
pub data Literal : Type 0 where
  int : ℤ → Literal
  word : ℕ → Literal
  char : ℕ → Literal
  string : List ℕ → Literal
  truth : Bool → Literal

abbrev pub lit_of : Lit → Literal
lit_of (code.Int z) = int z
lit_of (code.Word n) = word n
lit_of (code.Char n) = char n
lit_of (code.Str s) = string s.items
lit_of (code.Truth b) = truth b

abbrev pub lits_of : List Lit → List Literal
lits_of = map lit_of

-- the integer, string, word, character or truth value that a value is
abbrev pub int_in : Literal → Option ℤ
int_in (int z) = Some z
int_in (word n) = None
int_in (char n) = None
int_in (string s) = None
int_in (truth b) = None

abbrev pub string_in : Literal → Option (List ℕ)
string_in (int z) = None
string_in (word n) = None
string_in (char n) = None
string_in (string s) = Some s
string_in (truth b) = None

abbrev pub word_in : Literal → Option ℕ
word_in (int z) = None
word_in (word n) = Some n
word_in (char n) = None
word_in (string s) = None
word_in (truth b) = None

abbrev pub char_in : Literal → Option ℕ
char_in (int z) = None
char_in (word n) = None
char_in (char n) = Some n
char_in (string s) = None
char_in (truth b) = None

abbrev pub truth_in : Literal → Option Bool
truth_in (int z) = None
truth_in (word n) = None
truth_in (char n) = None
truth_in (string s) = None
truth_in (truth b) = Some b

abbrev pub both : {A : Type 0} → Option A → Option A → Option (A × A)
both None o = None
both (Some a) None = None
both (Some a) (Some b) = Some (a, b)

-- both values of a list of two
abbrev pub two_in : {A : Type 0} → (Literal → Option A) → List Literal → Option (A × A)
two_in f [] = None
two_in f (a ∷ []) = None
two_in f (a ∷ b ∷ []) = both (f a) (f b)
two_in f (a ∷ b ∷ c ∷ more) = None

-- the value of a list of one
abbrev pub one_in : {A : Type 0} → (Literal → Option A) → List Literal → Option A
one_in f [] = None
one_in f (a ∷ []) = f a
one_in f (a ∷ b ∷ more) = None

abbrev pub ints_in : List Literal → Option (ℤ × ℤ)
ints_in = two_in int_in

abbrev pub strings_in : List Literal → Option (List ℕ × List ℕ)
strings_in = two_in string_in

abbrev pub words_in : List Literal → Option (ℕ × ℕ)
words_in = two_in word_in

abbrev pub as_ints : Option IntPair → Option (ℤ × ℤ)
as_ints = option_map (λ p. (p.left, p.right))

abbrev pub as_words : Option WordPair → Option (ℕ × ℕ)
as_words = option_map (λ p. (p.left, p.right))

abbrev pub as_strings : Option StringPair → Option (List ℕ × List ℕ)
as_strings = option_map (λ p. (p.left.now, p.right.now))
