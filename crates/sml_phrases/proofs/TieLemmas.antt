-- Lemmas about ties.
use Rattle.std.proofs.Common.{◌≡◌, ℕ, List, Bool, true, false, refl}
use Rattle.std.proofs.lemmas.Bool.{eq-eqb, ne_eqb}
use Rattle.sml_tree.specs.Terminal.{Terminal}
use Rattle.sml_tree.specs.ReadTree as read
use Rattle.sml_tree.specs.Levels.{joint_level, joint_right}
use Rattle.sml_tree.specs.Fixity.{Fixity}
use Rattle.sml_tree.specs.declared.tree.Joint.{Joint}
use Rattle.sml_grammar.specs.Answer.{bad}
use Rattle.sml_grammar.specs.Expressions.{Next, joint, mark, handler, nothing, next_of}
use Rattle.sml_grammar.specs.Patterns.{same}
use Rattle.sml_phrases.specs.Ties.{joint_from, next_from, PartEnds, PartGoes}
use Rattle.sml_phrases.specs.declared.ties.Tie.{Tie}
use Rattle.sml_phrases.specs.declared.ties.Tie.TheVariants as tie

same-true : (a b : Bool) → a ≡ b → same a b ≡ true
same-true true true e = refl
same-true false false e = refl
same-true true false e = absurd (cc)
same-true false true e = absurd (cc)

same-false : (a b : Bool) → (a ≡ b → ⊥) → same a b ≡ false
same-false true true h = absurd (h refl)
same-false false false h = absurd (h refl)
same-false true false h = refl
same-false false true h = refl
