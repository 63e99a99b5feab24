-- The command line.
use Rattle.std.specs.Prelude.{◌≡◌, ℕ, ◌^◌, ◌<◌, ◌≤◌, Bool, not, ◌==◌, List, [], ◌∷◌, true, codes}
use Rattle.std.specs.List.{list_all}
use Rattle.std.specs.Str.Parse.{IsNumeral, digits_value, without_leading_plus}

-- `exec IN.mlb OUT.mlx HEAP STACK STEPS`: compile, write the image, and run it
pub record Command : Type 0 where
  pub input : List ℕ
  pub output : List ℕ
  pub heap : ℕ
  pub stack : ℕ
  pub steps : ℕ

-- what Rust reads as a u64: decimal digits, perhaps after a plus
pub record IsNumber (word : List ℕ) (n : ℕ) : Type 0 where
  pub digits : IsNumeral 10 (without_leading_plus word)
  pub value : n ≡ digits_value 10 (without_leading_plus word)
  pub fits : n < 2 ^ 64

-- a word that doesn't begin with -
abbrev pub is_no_option : List ℕ → Bool
is_no_option [] = true
is_no_option (b ∷ word) = not (b == 45)

-- the command of these words, with its numbers in range
pub record HasNumbers (input output heap_word stack_word steps_word : List ℕ) (command : Command) : Type 0 where
  pub input_is : command.input ≡ input
  pub output_is : command.output ≡ output
  pub heap_is : IsNumber heap_word command.heap
  pub stack_is : IsNumber stack_word command.stack
  pub steps_are : IsNumber steps_word command.steps
  pub heap_least : 2 ^ 10 ≤ command.heap
  pub heap_most : command.heap ≤ 2 ^ 28
  pub stack_least : 2 ^ 8 ≤ command.stack
  pub stack_most : command.stack ≤ 2 ^ 24

-- the words are this command
pub record IsCommand (words : List (List ℕ)) (command : Command) : Type 0 where
  pub input : List ℕ
  pub output : List ℕ
  pub heap_word : List ℕ
  pub stack_word : List ℕ
  pub steps_word : List ℕ
  pub words_are : words ≡ codes "exec" ∷ input ∷ output ∷ heap_word ∷ stack_word ∷ steps_word ∷ []
  pub no_options : list_all is_no_option words ≡ true
  pub numbers : HasNumbers input output heap_word stack_word steps_word command
