use Rattle.sml_tree.proofs.trie.+insert.Given as goal

abbrev pub decreases-insert : goal.decreases-insert
decreases-insert l = l.number
