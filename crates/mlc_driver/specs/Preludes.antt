-- The prelude of the standard basis.
use Rattle.std.specs.Prelude.{ℕ, List}
use Rattle.sml_lexer.specs.NameTable.{Keeps}
use Rattle.sml_tree.specs.BareTree.{Decs}
use Rattle.sml_tree.specs.Fixity.{Fixity}
use Rattle.mlb_reader.specs.Basis.{standard_fixities}
use Rattle.mlb_reader.specs.Parts.{source}
use Rattle.mlb_reader.specs.Project.{IsSource}
use Rattle.mlc_driver.specs.declared.prelude.TheConstants.{PRELUDE}

-- the declarations that the prelude's text is, read with the table `names` as the file of this number, under the fixities of the standard basis;
-- names' has all of the table behind it
pub record IsPrelude (names : List (List ℕ)) (file : ℕ) (prelude : Decs) (names' : List (List ℕ)) : Type 0 where
  pub behind : List (List ℕ)
  pub fixities : Fixity
  pub is : IsSource names file standard_fixities PRELUDE.now (source prelude) behind fixities
  pub kept : Keeps behind names'
