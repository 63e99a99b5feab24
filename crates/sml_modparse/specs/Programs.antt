-- What the parser of programs with modules answers for the tokens of a source, and why it refuses them.
use Rattle.std.specs.Prelude.{ℕ, ◌≡◌, List, map, true}
use Rattle.mlc_faults.specs.declared.code.Code.{Code}
use Rattle.mlc_faults.specs.declared.code.Code.TheVariants as code
use Rattle.mlc_names.specs.declared.token.Token.{Token}
use Rattle.sml_tree.specs.Terminal.{Terminal}
use Rattle.sml_tree.specs.Fixity.{Fixity}
use Rattle.sml_tree.specs.TreeOf.{dec_of}
use Rattle.sml_tree.specs.declared.tree.Dec.{Dec}
use Rattle.module_tree.specs.ReadModules as read
use Rattle.module_tree.specs.ModuleBare.{bare_tops}
use Rattle.module_tree.specs.ModuleGrammar.{IsSource}
use Rattle.module_tree.specs.Scope.{after_tops}
use Rattle.module_grammar.specs.Laws.{IsTree}
use Rattle.module_grammar.specs.PartialModules.{OpensTops}
use Rattle.module_code.specs.TreeOf.{top_of}
use Rattle.module_code.specs.declared.sources.Top.{Top}
use Rattle.phrase_base.specs.declared.source.Source.{Source}
use Rattle.phrase_base.specs.Left.{left}

-- what stands in a tree of all the terminals that is at most 400 deep, without derived forms, and the fixities after it; `it` is the name of that identifier
pub record IsProgram (it : ℕ) (f : Fixity) (s : Source) (tokens : List Token) (tops : List (Top Dec)) (fixities : Fixity) : Type 0 where
  pub tree : List read.Top
  pub is : IsTree 400 f (left s tokens) tree
  pub bare : map (top_of dec_of) tops ≡ bare_tops it s.file tree
  pub after : fixities ≡ after_tops f tree

-- E11: no tree of any depth, and no partial tree that is 401 deep; E14: such a partial tree, and no tree that is at most 400 deep. No other code comes.
abbrev pub Cause : Fixity → List Terminal → Code → Type 0
Cause f i code.Syntax = ((tree : List read.Top) → IsSource f i tree → ⊥) × (OpensTops f true i 401 → ⊥)
Cause f i code.TooDeep = OpensTops f true i 401 × ((tree : List read.Top) → IsTree 400 f i tree → ⊥)
Cause f i _ = ⊥
