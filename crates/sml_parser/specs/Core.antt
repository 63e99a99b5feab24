-- What the parser answers for the tokens of a file, and why it refuses them.
use Rattle.std.specs.Prelude.{ℕ, ◌≡◌, ◌≤◌, ◌<◌, ◌⊎◌, List, [], length, map, slice_index_or}
use Rattle.mlc_faults.specs.declared.code.Code.{Code}
use Rattle.mlc_faults.specs.declared.code.Code.TheVariants as code
use Rattle.mlc_base.specs.declared.place.Place.{Place}
use Rattle.mlc_names.specs.declared.token.Token.{Token}
use Rattle.sml_tree.specs.Terminal.{Terminal}
use Rattle.sml_tree.specs.Fixity.{Fixity}
use Rattle.sml_tree.specs.ReadTree.{Decs}
use Rattle.sml_tree.specs.Depth.{depth_decs}
use Rattle.sml_tree.specs.Levels.{after}
use Rattle.sml_tree.specs.Grammar.{Declares}
use Rattle.sml_tree.specs.Bare.{bare_decs}
use Rattle.sml_tree.specs.TreeOf.{dec_of, decs_of}
use Rattle.sml_tree.specs.declared.tree.Dec.{Dec}
use Rattle.sml_grammar.specs.Partial.{OpensDecs}
use Rattle.phrase_base.specs.declared.source.Source.{Source}
use Rattle.phrase_base.specs.Left.{left}

-- a tree of all the terminals that is at most 400 deep
pub record Shallow (f : Fixity) (i : List Terminal) (tree : Decs) : Type 0 where
  pub reads : Declares f i tree []
  pub shallow : depth_decs tree ≤ 400

-- the declarations of such a tree without derived forms, and the fixities after them
pub record IsCore (f : Fixity) (s : Source) (tokens : List Token) (decs : List Dec) (fixities : Fixity) : Type 0 where
  pub tree : Decs
  pub is : Shallow f (left s tokens) tree
  pub bare : decs_of (map dec_of decs) ≡ bare_decs s.file tree
  pub after : fixities ≡ after f tree

-- E11: no tree of any depth, and no partial tree that is 401 deep; E14: such a partial tree, and no tree that is at most 400 deep. No other code comes.
abbrev pub Cause : Fixity → List Terminal → Code → Type 0
Cause f i code.Syntax = ((tree : Decs) → Declares f i tree [] → ⊥) × (OpensDecs f i 401 → ⊥)
Cause f i code.TooDeep = OpensDecs f i 401 × ((tree : Decs) → Shallow f i tree → ⊥)
Cause f i _ = ⊥

-- a token of the tokens begins at this byte
pub record BeginsToken (tokens : List Token) (byte : ℕ) : Type 0 where
  pub token : Token
  pub index : ℕ
  pub inside : index < length tokens
  pub is : token ≡ slice_index_or tokens index token
  pub begins : token.span.first ≡ byte

-- the first byte of a token, or the file's end
pub record IsStop (s : Source) (end : ℕ) (tokens : List Token) (place : Place) : Type 0 where
  pub file : place.file ≡ s.file
  pub byte : (place.byte ≡ end) ⊎ BeginsToken tokens place.byte
