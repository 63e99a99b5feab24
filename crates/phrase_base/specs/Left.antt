-- The terminals that are left.
use Rattle.std.specs.Prelude.{List}
use Rattle.mlc_names.specs.declared.token.Token.{Token}
use Rattle.sml_tree.specs.Terminal.{Terminal, terminals}
use Rattle.phrase_base.specs.declared.source.Source.{Source}

abbrev pub left : Source → List Token → List Terminal
left s tokens = terminals s.star tokens
