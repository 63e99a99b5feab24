-- Ties of the code, against what may follow an expression in the grammar's function.
use Rattle.std.specs.Prelude.{ℕ, suc, ◌≡◌, List, Bool}
use Rattle.sml_tree.specs.Terminal.{Terminal}
use Rattle.sml_tree.specs.Bare.{joint_of}
use Rattle.sml_tree.specs.ReadTree as read
use Rattle.sml_tree.specs.ReadTree.{and_also, or_else, infixed, chain, typed, handle, part, last_part}
use Rattle.sml_tree.specs.Levels.{joint_level, joint_right}
use Rattle.sml_tree.specs.Fixity.{Fixity}
use Rattle.sml_tree.specs.declared.tree.Joint.{Joint}
use Rattle.sml_tree.specs.declared.tree.Joint.TheVariants.{AndAlso, OrElse, Infix}
use Rattle.sml_grammar.specs.Answer.{Answer, read, then_read, last, more}
use Rattle.sml_grammar.specs.Types.{read_ty}
use Rattle.sml_grammar.specs.Expressions.{Reader, Next, joint, mark, handler, next_of, part_next, whole_parts, read_match}
use Rattle.phrase_base.specs.Gives.{Fails}
use Rattle.phrase_base.specs.declared.stop.Stop.{Stop}
use Rattle.sml_phrases.specs.declared.ties.Tie.{Tie}
use Rattle.sml_phrases.specs.declared.ties.Tie.TheVariants as tie

-- the joint that was read, of the code's
abbrev pub joint_from : Joint → read.Joint
joint_from AndAlso = and_also
joint_from OrElse = or_else
joint_from (Infix q v) = infixed (record { place = q.byte; it = v })

abbrev pub next_from : Tie → List Terminal → Next
next_from (tie.Joint j) o = joint (joint_from j) o
next_from tie.Mark o = mark o
next_from tie.Handle o = handler o

-- the place of a joint is in this file
abbrev pub FromFile : ℕ → Tie → Type 0
FromFile file (tie.Joint j) = joint_of file (joint_from j) ≡ j
FromFile file tie.Mark = Unit {0}
FromFile file tie.Handle = Unit {0}

-- the level of what a tie makes, and that which the expression before it has to have
abbrev pub tie_level : Fixity → Tie → ℕ
tie_level f (tie.Joint j) = joint_level f (joint_from j)
tie_level f tie.Mark = 5
tie_level f tie.Handle = 0

abbrev pub tie_least : Fixity → Tie → ℕ
tie_least f (tie.Joint j) = suc (joint_level f (joint_from j))
tie_least f tie.Mark = 5
tie_least f tie.Handle = 0

-- what is read after the expression a and a tie
abbrev pub tie_rest : Reader → ℕ → Fixity → read.Exp → Tie → List Terminal → Answer read.Exp
tie_rest self n f a (tie.Joint j) m = then_read (whole_parts self f (joint_from j) m) (λ ps o. read (chain (joint_right f (joint_from j)) a ps) o)
tie_rest self n f a tie.Mark m = then_read (read_ty n 0 m) (λ t o. read (typed a t) o)
tie_rest self n f a tie.Handle m = then_read (read_match n self f m) (λ rs o. read (handle a rs) o)

-- whether a chain of level l that associates as r says goes on after an operand
abbrev pub PartEnds : Fixity → ℕ → Bool → List Terminal → Type 0
PartEnds f l r i = (j : read.Joint) (b : read.Exp) → part_next f l r j b i (next_of f i) ≡ read (last (last_part j b)) i

abbrev pub PartGoes : Fixity → ℕ → Bool → List Terminal → Joint → List Terminal → Type 0
PartGoes f l r i k m = (j : read.Joint) (b : read.Exp) → part_next f l r j b i (next_of f i) ≡ read (more (part j b) (joint_from k)) m

abbrev pub PartFails : Fixity → ℕ → Bool → List Terminal → Stop → Type 0
PartFails f l r i e = (j : read.Joint) (b : read.Exp) → Fails e (part_next f l r j b i (next_of f i))
