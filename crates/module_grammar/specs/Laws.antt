-- What the reading function gives, and that the grammar is not ambiguous.
use Rattle.std.specs.Prelude.{ℕ, suc, ◌≡◌, ◌≤◌, ◌<◌, true, List, []}
use Rattle.sml_tree.specs.Terminal.{Terminal}
use Rattle.sml_tree.specs.Fixity.{Fixity}
use Rattle.module_tree.specs.ReadModules.{Top}
use Rattle.module_tree.specs.ModuleDepth.{depth_tops}
use Rattle.module_tree.specs.ModuleGrammar.{IsSource}
use Rattle.sml_grammar.specs.Answer.{bad, deep, read}
use Rattle.module_grammar.specs.PartialModules.{OpensTops}
use Rattle.module_grammar.specs.Sources.{read_source}

-- what all terminals of a source are, at most n deep
abbrev pub IsTree : ℕ → Fixity → List Terminal → List Top → Type 0
IsTree n f i ts = IsSource f i ts × (depth_tops ts ≤ n)

abbrev pub Sound : Type 0
Sound = (n : ℕ) (f : Fixity) (i : List Terminal) (ts : List Top) (o : List Terminal) → read_source n f i ≡ read ts o → IsTree n f i ts

abbrev pub Complete : Type 0
Complete = (n : ℕ) (f : Fixity) (i : List Terminal) (ts : List Top) → IsTree n f i ts → read_source n f i ≡ read ts []

-- no terminals are a source in two ways
abbrev pub OneTree : Type 0
OneTree = (f : Fixity) (i : List Terminal) (ts us : List Top) → IsSource f i ts → IsSource f i us → ts ≡ us

-- too deep: exactly where a partial tree that is n + 1 deep reads a front of the terminals
abbrev pub DeepSound : Type 0
DeepSound = (n : ℕ) (f : Fixity) (i : List Terminal) → read_source n f i ≡ deep → OpensTops f true i (suc n)

abbrev pub DeepComplete : Type 0
DeepComplete = (n : ℕ) (f : Fixity) (i : List Terminal) → OpensTops f true i (suc n) → read_source n f i ≡ deep

-- a syntax error: no tree, of any depth, is there
abbrev pub BadSound : Type 0
BadSound = (n : ℕ) (f : Fixity) (i : List Terminal) (ts : List Top) → read_source n f i ≡ bad → IsSource f i ts → ⊥

-- what terminals are, at a limit of n: a source that isn't deeper, too deep, or neither of these: a syntax error
pub data Outcome (n : ℕ) (f : Fixity) (i : List Terminal) : Type 0 where
  is_source : (ts : List Top) → IsTree n f i ts → Outcome n f i
  is_too_deep : OpensTops f true i (suc n) → Outcome n f i
  is_wrong : ((ts : List Top) → IsSource f i ts → ⊥) → (OpensTops f true i (suc n) → ⊥) → Outcome n f i

-- they are one of the three, and never both a source that isn't deeper and too deep
abbrev pub OneOutcome : Type 0
OneOutcome = (n : ℕ) (f : Fixity) (i : List Terminal)
    → Outcome n f i × ((ts : List Top) → IsTree n f i ts → OpensTops f true i (suc n) → ⊥)

-- a tree has a partial one of each depth up to its own
abbrev pub Cut : Type 0
Cut = (f : Fixity) (i : List Terminal) (ts : List Top) (d : ℕ) → IsSource f i ts → 0 < d → d ≤ depth_tops ts → OpensTops f true i d
