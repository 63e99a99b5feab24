-- What a reader answers: it has read a phrase, no phrase is there, or the phrase is nested too deep.
use Rattle.std.specs.Prelude.{ℕ, zero, suc, List, length, Bool, true, false}
use Rattle.sml_tree.specs.Terminal.{Terminal}

-- a phrase, and the terminals after it
pub record Read (A : Type 0) : Type 0 where
  pub tree : A
  pub rest : List Terminal

pub data Answer (A : Type 0) : Type 0 where
  ok : Read A → Answer A
  bad : Answer A
  deep : Answer A

abbrev pub read : {A : Type 0} → A → List Terminal → Answer A
read t o = ok (record { tree = t; rest = o })

abbrev pub then_read : {A B : Type 0} → Answer A → (A → List Terminal → Answer B) → Answer B
then_read (ok r) g = g r.tree r.rest
then_read bad g = bad
then_read deep g = deep

abbrev pub deep_if : {A : Type 0} → Bool → Answer A
deep_if true = deep
deep_if false = bad

-- Loops. One turn of a loop either ends it with what it gives, or says what the rest's value is put into, and the state of the next turn.
pub data Turn (B : Type 0) (S : Type 0) : Type 0 where
  last : B → Turn B S
  more : (B → B) → S → Turn B S

abbrev pub after_turn : {B S : Type 0} → (S → List Terminal → Answer B) → Turn B S → List Terminal → Answer B
after_turn g (last b) m = read b m
after_turn g (more put s) m = then_read (g s m) (λ b o. read (put b) o)

unfoldable pub many : {B S : Type 0} → (S → List Terminal → Answer (Turn B S)) → ℕ → S → List Terminal → Answer B
many step zero s i = bad
many step (suc k) s i = then_read (step s i) (after_turn (many step k))

-- each turn but the last takes a terminal or more, so these are enough
abbrev pub whole : {B S : Type 0} → (S → List Terminal → Answer (Turn B S)) → S → List Terminal → Answer B
whole step s i = many step (suc (length i)) s i
