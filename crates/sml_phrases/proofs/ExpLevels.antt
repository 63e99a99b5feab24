-- A chain has the level of its first joint.
use Rattle.std.proofs.Common.{◌≡◌, ℕ, suc, List, length, Bool, nat_eq, inl, inr, refl, subst}
use Rattle.sml_tree.specs.Terminal.{Terminal}
use Rattle.sml_tree.specs.Fixity.{Fixity}
use Rattle.sml_tree.specs.ReadTree as read
use Rattle.sml_tree.specs.ReadTree.{Parts, part, last_part, Joint}
use Rattle.sml_tree.specs.Levels.{joint_level, joint_right, parts_level}
use Rattle.sml_grammar.specs.Answer.{Read, ok, read, Turn, last, more}
use Rattle.sml_grammar.specs.Patterns.{same}
use Rattle.sml_grammar.specs.Expressions.{Reader, Next, joint, mark, handler, nothing, next_of, part_next, part_turn, whole_parts}
use Rattle.sml_grammar.proofs.Answers.{many-ok, GoodTurn, then_ok, got, chosen, bad_ok}

abbrev LevelOf : Fixity → Joint → List Terminal → Parts → List Terminal → Type 0
LevelOf f s i b o = parts_level f b ≡ joint_level f s

part-last : (f : Fixity) (j : Joint) (b : read.Exp) (i i0 : List Terminal) (y : Read (Turn Parts Joint)) → read (last (last_part j b)) i ≡ ok y → GoodTurn (LevelOf f) j i0 y.tree y.rest
part-last f j b i i0 y e = subst (λ (z : Read (Turn Parts Joint)). GoodTurn (LevelOf f) j i0 z.tree z.rest) (got e) refl

part-more : (f : Fixity) (j k : Joint) (b : read.Exp) (i0 m : List Terminal) (y : Read (Turn Parts Joint)) → read (more (part j b) k) m ≡ ok y → GoodTurn (LevelOf f) j i0 y.tree y.rest
part-more f j k b i0 m y e = subst (λ (z : Read (Turn Parts Joint)). GoodTurn (LevelOf f) j i0 z.tree z.rest) (got e) (λ c o h. refl)

part-good : (f : Fixity) (l : ℕ) (r : Bool) (j : Joint) (b : read.Exp) (i i0 : List Terminal) (n : Next) (y : Read (Turn Parts Joint)) → part_next f l r j b i n ≡ ok y → GoodTurn (LevelOf f) j i0 y.tree y.rest
part-good f l r j b i i0 nothing y e = part-last f j b i i0 y e
part-good f l r j b i i0 (mark m) y e = part-last f j b i i0 y e
part-good f l r j b i i0 (handler m) y e = part-last f j b i i0 y e
part-good f l r j b i i0 (joint k m) y e =
    elim (chosen (nat_eq (joint_level f k) l) _ _ e) [
      | inl p ↦ elim (chosen (same (joint_right f k) r) _ _ p.1) [ inl q ↦ part-more f j k b i0 m y q.1 | inr q ↦ bad_ok q.1 ]
      | inr p ↦ part-last f j b i i0 y p.1
    ]

pub chain-level : (self : Reader) (f : Fixity) (j : Joint) (m : List Terminal) (y : Read Parts) → whole_parts self f j m ≡ ok y → parts_level f y.tree ≡ joint_level f j
chain-level self f j m y h =
    many-ok (part_turn self f (joint_level f j) (joint_right f j)) (LevelOf f)
    (λ s i z e. let u = then_ok (self f (suc (joint_level f j)) i) (λ b o. part_next f (joint_level f j) (joint_right f j) s b o (next_of f o)) z e in
    part-good f (joint_level f j) (joint_right f j) s u.0.tree u.0.rest i (next_of f u.0.rest) z u.2)
    (suc (length m)) j m y h
