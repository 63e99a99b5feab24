-- What a pass of the compiler keeps.
use Rattle.std.specs.Prelude.{ℕ, ◌^◌, List, [], ◌∷◌, ◌++◌, All, Contains}
use Rattle.mlc_names.specs.StandardWords.{word_Match, word_Bind, word_Overflow, word_Div, word_Subscript, word_Size, word_Chr}

-- the exceptions of the initial basis, in the order in which their names are made
abbrev pub initial_exceptions : List ℕ
initial_exceptions = word_Match ∷ word_Bind ∷ word_Overflow ∷ word_Div ∷ word_Subscript ∷ word_Size ∷ word_Chr ∷ []

-- each exception identifier of a program is one of another program or of the initial basis
abbrev pub BringsNone : List ℕ → List ℕ → Type 0
BringsNone given made = All (Contains (given ++ initial_exceptions)) made

-- a program written out has at most so many nodes
abbrev pub greatest_expansion : ℕ
greatest_expansion = 2 ^ 20
