-- What was read of heads of clauses, against the reading function's answer.
use Rattle.std.specs.Prelude.{ℕ, suc, ◌≡◌, ◌≤◌, ◌<◌, List, length, map, max}
use Rattle.mlc_names.specs.declared.token.Token.{Token}
use Rattle.sml_tree.specs.Terminal.{Terminal}
use Rattle.sml_tree.specs.ReadTree as read
use Rattle.sml_tree.specs.ReadTree.{head_place, head_vid, head_vid_place, head_count}
use Rattle.sml_tree.specs.Bare.{at, bare_pat, head_pats}
use Rattle.sml_tree.specs.Depth.{depth_pat, depth_head}
use Rattle.sml_tree.specs.TreeOf.{pat_of}
use Rattle.sml_grammar.specs.Answer.{Read, Answer, ok}
use Rattle.sml_grammar.specs.Terminals.{place_at}
use Rattle.sml_grammar.specs.Patterns.{Bracketed}
use Rattle.phrase_base.specs.declared.source.Source.{Source}
use Rattle.sml_phrases.specs.declared.heads.Head.{Head}
use Rattle.sml_phrases.specs.declared.heads.Pair.{Pair}
use Rattle.phrase_base.specs.Left.{left}

-- a head that begins at i, whose patterns are at most n deep
pub record IsHead (s : Source) (n : ℕ) (i : List Terminal) (head : Head) (d : ℕ) (o : List Token) (got : Read read.Head) : Type 0 where
  pub rest : left s o ≡ got.rest
  pub place : head.place ≡ at s.file (head_place got.tree)
  pub vid_place : head.vid_place ≡ at s.file (head_vid_place got.tree)
  pub vid : head.vid ≡ head_vid got.tree
  pub bare : map pat_of head.pats.items ≡ head_pats s.file got.tree
  pub count : length head.pats.items ≡ head_count got.tree
  pub depth : d ≡ depth_head got.tree
  pub begins : head_place got.tree ≡ place_at i
  pub fits : depth_head got.tree ≤ n
  pub shorter : length got.rest < length i

-- what is in the brackets of a pattern that begins at i and is d deep
pub record IsPair (s : Source) (pair : Pair) (i : List Terminal) (d : ℕ) (b : Bracketed) : Type 0 where
  pub left_is : pat_of pair.left ≡ bare_pat s.file b.left
  pub right_is : pat_of pair.right ≡ bare_pat s.file b.right
  pub vid_place : pair.vid_place ≡ at s.file b.vid.place
  pub vid : pair.vid ≡ b.vid.it
  pub place : b.place ≡ place_at i
  pub depth : d ≡ suc (suc (max (depth_pat b.left) (depth_pat b.right)))

-- no pattern was read
abbrev pub NoPattern : Answer read.Pat → Type 0
NoPattern a = (y : Read read.Pat) → a ≡ ok y → ⊥
