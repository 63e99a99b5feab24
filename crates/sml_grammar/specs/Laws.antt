-- What the reading function gives, and that the grammar is not ambiguous.
use Rattle.std.specs.Prelude.{ℕ, suc, ◌≡◌, ◌≤◌, List, []}
use Rattle.sml_tree.specs.Terminal.{Terminal}
use Rattle.sml_tree.specs.Fixity.{Fixity}
use Rattle.sml_tree.specs.ReadTree.{Decs}
use Rattle.sml_tree.specs.Depth.{depth_decs}
use Rattle.sml_tree.specs.Grammar.{Declares}
use Rattle.sml_grammar.specs.Answer.{bad, deep, read}
use Rattle.sml_grammar.specs.Expressions.{read_all}
use Rattle.sml_grammar.specs.Partial.{OpensDecs}

-- the declarations that all terminals are, at most n deep
abbrev pub IsTree : ℕ → Fixity → List Terminal → Decs → Type 0
IsTree n f i ds = Declares f i ds [] × (depth_decs ds ≤ n)

abbrev pub Sound : Type 0
Sound = (n : ℕ) (f : Fixity) (i : List Terminal) (ds : Decs) → read_all n f i ≡ read ds [] → IsTree n f i ds

abbrev pub Complete : Type 0
Complete = (n : ℕ) (f : Fixity) (i : List Terminal) (ds : Decs) → IsTree n f i ds → read_all n f i ≡ read ds []

-- no terminals have two trees
abbrev pub OneTree : Type 0
OneTree = (f : Fixity) (i : List Terminal) (ds es : Decs) → Declares f i ds [] → Declares f i es [] → ds ≡ es

-- too deep: exactly where a partial tree that is n + 1 deep reads a front of the terminals
abbrev pub DeepSound : Type 0
DeepSound = (n : ℕ) (f : Fixity) (i : List Terminal) → read_all n f i ≡ deep → OpensDecs f i (suc n)

abbrev pub DeepComplete : Type 0
DeepComplete = (n : ℕ) (f : Fixity) (i : List Terminal) → OpensDecs f i (suc n) → read_all n f i ≡ deep

-- a syntax error: no tree, of any depth, is there
abbrev pub BadSound : Type 0
BadSound = (n : ℕ) (f : Fixity) (i : List Terminal) (ds : Decs) → read_all n f i ≡ bad → Declares f i ds [] → ⊥
