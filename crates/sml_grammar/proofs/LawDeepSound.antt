-- Where the terminals are told too deep, a partial tree that is too deep reads a front of them.
use Rattle.std.proofs.Common.{◌≡◌, List, [], ◌∷◌, inl, inr}
use Rattle.sml_tree.specs.Terminal.{Terminal}
use Rattle.sml_tree.specs.ReadTree.{Decs}
use Rattle.sml_grammar.specs.Answer.{deep}
use Rattle.sml_grammar.specs.Expressions.{readers, at_end}
use Rattle.sml_grammar.specs.Laws as laws
use Rattle.sml_grammar.proofs.Answers.{then_deep, not_deep, bad_deep}
use Rattle.sml_grammar.proofs.ExpGiven.{below, far_below}
use Rattle.sml_grammar.proofs.ExpFar.{readers-far}

never-deep : (ds : Decs) (o : List Terminal) {A : Type 0} → at_end ds o ≡ deep → A
never-deep ds [] h = not_deep h
never-deep ds (t ∷ o) h = bad_deep {A = Decs} h

pub deep-sound : laws.DeepSound
deep-sound n f i h = elim (then_deep ((readers n).decs f i) at_end h) [ inl e ↦ (readers-far below far_below n).decs f i e | inr t ↦ never-deep t.0.tree t.0.rest t.2 ]
