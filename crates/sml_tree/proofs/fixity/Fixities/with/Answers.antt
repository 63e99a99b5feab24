use Rattle.sml_tree.proofs.FixityLemmas.{one_more, one_first}
use Rattle.sml_tree.specs.Trie.{trie_of, some_trie_of}
use Rattle.sml_tree.proofs.fixity.Fixities.with.Goals as goal

pub invariant_of-result : goal.invariant_of-result
invariant_of-result c =
    one_more (some_trie_of c.self.inside.by_age) (some_trie_of c.self.inside.by_vid) (trie_of c.in_ok-by_age.by_age.value) (trie_of c.in_ok-by_vid.by_vid.value) c.self.inside.count c.vid_number-number.result c.args.directive
    c.vid_number-number.ensures.value (c.in_ok-by_age.ensures) (λ n pos. c.in_ok-by_vid.ensures n pos) c.self.invariant

pub returns : goal.returns
returns c =
    one_first (some_trie_of c.self.inside.by_age) (some_trie_of c.self.inside.by_vid) (trie_of c.in_ok-by_age.by_age.value) (trie_of c.in_ok-by_vid.by_vid.value) c.self.inside.count c.vid_number-number.result c.args.directive
    c.vid_number-number.ensures.value (c.in_ok-by_age.ensures) (λ n pos. c.in_ok-by_vid.ensures n pos) c.self.invariant c.args.self.now c.self.view_is
