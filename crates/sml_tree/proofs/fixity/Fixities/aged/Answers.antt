use Rattle.std.proofs.Common.{◌≡◌, ◌-◌, ◌∷◌, ◌≤◌, length, drop, subst, sym, ap, ◌∙◌, arith}
use Rattle.sml_tree.proofs.FixityLemmas.{as_many, at_age, has_age}
use Rattle.sml_tree.specs.Fixity.{Fixity}
use Rattle.sml_tree.specs.Trie.{some_trie_of}
use Rattle.sml_tree.proofs.fixity.Fixities.aged.Goals as goal

pub unreachable-requires : goal.unreachable-requires
unreachable-requires c =
    let n = as_many (some_trie_of c.self.inside.by_age) c.self.inside.count c.self.inside.count (omega arith) c.self.invariant.aged in
    let l : length c.args.self.now ≡ c.self.inside.count = ap length (sym c.self.view_is) ∙ n in
    let le : c.args.age ≤ c.self.inside.count = omega (arith, c.requires.held, l) in
    has_age (some_trie_of c.self.inside.by_age) c.args.age c.self.inside.count c.requires.positive le c.self.invariant.aged (sym c.find.ensures ∙ c.in-None.is)

pub returns : goal.returns
returns c =
    let n = as_many (some_trie_of c.self.inside.by_age) c.self.inside.count c.self.inside.count (omega arith) c.self.invariant.aged in
    let l : length c.args.self.now ≡ c.self.inside.count = ap length (sym c.self.view_is) ∙ n in
    let le : c.args.age ≤ c.self.inside.count = omega (arith, c.requires.held, l) in
    let at = at_age (some_trie_of c.self.inside.by_age) c.args.age c.self.inside.count c.in-Some.directive c.requires.positive le c.self.invariant.aged (sym c.find.ensures ∙ c.in-Some.is) in
    rw l (subst (λ (ds : Fixity). drop (c.self.inside.count - c.args.age) ds ≡ c.in-Some.directive ∷ drop (c.self.inside.count - (c.args.age - 1)) ds) c.self.view_is at)
