use Rattle.std.proofs.Common.{length, sym, ap, ◌∙◌, arith}
use Rattle.sml_tree.proofs.FixityLemmas.{as_many}
use Rattle.sml_tree.specs.Trie.{some_trie_of}
use Rattle.sml_tree.proofs.fixity.Fixities.len.Goals as goal

pub returns : goal.returns
returns c = sym (as_many (some_trie_of c.self.inside.by_age) c.self.inside.count c.self.inside.count (omega arith) c.self.invariant.aged) ∙ ap length c.self.view_is
