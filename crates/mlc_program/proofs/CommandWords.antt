-- Six words.
use Rattle.std.proofs.Common.{◌≡◌, ℕ, List, [], ◌∷◌, length, get_or, String, Global, arith, codes, sym, ◌∙◌}
use Rattle.mlc_program.specs.Command.{Command, HasNumbers, IsCommand}

pub six_words : (ws : List (String Global)) (a b c d e f : String Global) → length ws ≡ 6 → a ≡ get_or ws 0 a → b ≡ get_or ws 1 b → c ≡ get_or ws 2 c → d ≡ get_or ws 3 d → e ≡ get_or ws 4 e → f ≡ get_or ws 5 f → ws ≡ a ∷ b ∷ c ∷ d ∷ e ∷ f ∷ []
six_words (x0 ∷ x1 ∷ x2 ∷ x3 ∷ x4 ∷ x5 ∷ []) a b c d e f l i0 i1 i2 i3 i4 i5 = cc
six_words [] a b c d e f l i0 i1 i2 i3 i4 i5 = absurd (omega arith)
six_words (x0 ∷ []) a b c d e f l i0 i1 i2 i3 i4 i5 = absurd (omega arith)
six_words (x0 ∷ x1 ∷ []) a b c d e f l i0 i1 i2 i3 i4 i5 = absurd (omega arith)
six_words (x0 ∷ x1 ∷ x2 ∷ []) a b c d e f l i0 i1 i2 i3 i4 i5 = absurd (omega arith)
six_words (x0 ∷ x1 ∷ x2 ∷ x3 ∷ []) a b c d e f l i0 i1 i2 i3 i4 i5 = absurd (omega arith)
six_words (x0 ∷ x1 ∷ x2 ∷ x3 ∷ x4 ∷ []) a b c d e f l i0 i1 i2 i3 i4 i5 = absurd (omega arith)
six_words (x0 ∷ x1 ∷ x2 ∷ x3 ∷ x4 ∷ x5 ∷ x6 ∷ ws) a b c d e f l i0 i1 i2 i3 i4 i5 = absurd (omega arith)

-- numbers out of range are no command
pub not_numbers : (words : List (List ℕ)) (a b c d e f : List ℕ) → words ≡ a ∷ b ∷ c ∷ d ∷ e ∷ f ∷ [] → ((k : Command) → HasNumbers b c d e f k → ⊥) → (k : Command) → IsCommand words k → ⊥
not_numbers words a b c d e f is none k command =
    let same : a ∷ b ∷ c ∷ d ∷ e ∷ f ∷ [] ≡ codes "exec" ∷ command.input ∷ command.output ∷ command.heap_word ∷ command.stack_word ∷ command.steps_word ∷ [] = sym is ∙ command.words_are in
    let in_ : command.input ≡ b = cc in
    let out_ : command.output ≡ c = cc in
    let heap_ : command.heap_word ≡ d = cc in
    let stack_ : command.stack_word ≡ e = cc in
    let steps_ : command.steps_word ≡ f = cc in
    none k (record {
      input_is = command.numbers.input_is ∙ in_;
      output_is = command.numbers.output_is ∙ out_;
      heap_is = rw (← heap_) command.numbers.heap_is;
      stack_is = rw (← stack_) command.numbers.stack_is;
      steps_are = rw (← steps_) command.numbers.steps_are;
      heap_least = command.numbers.heap_least;
      heap_most = command.numbers.heap_most;
      stack_least = command.numbers.stack_least;
      stack_most = command.numbers.stack_most;
    })
