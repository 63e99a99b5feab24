-- Words at the head of terminals that are told by a path, and one turn of a loop over a list.
use Rattle.std.proofs.Common.{◌≡◌, ℕ, List, ◌∷◌, None, inl, inr, sym, subst}
use Rattle.mlc_names.specs.declared.token.Reserved.{Reserved}
use Rattle.sml_tree.specs.Terminal.{Terminal, reserved}
use Rattle.sml_grammar.specs.Answer.{Read, ok, read, Turn, last, more}
use Rattle.sml_grammar.specs.Terminals.{after_word, separated}
use Rattle.sml_grammar.proofs.Words.{WordAt, at_word, word-at}
use Rattle.sml_grammar.proofs.Answers.{got, separated-ok, separated-more, GoodTurn}

-- what is said of the terminals m, said of the word that they begin with
pub at-head : {w : Reserved} {m o : List Terminal} → WordAt w m o → (R : List Terminal → Type 0) → R m → (p : ℕ) × R (reserved p w ∷ o)
at-head (at_word p) R r = (p, r)

pub at-front : {w : Reserved} {i o : List Terminal} → WordAt w i o → (R : List Terminal → Type 0) → ((p : ℕ) → R (reserved p w ∷ o)) → R i
at-front (at_word p) R k = k p

pub given : {B : Type 0} (P : B → List Terminal → Type 0) {b : B} {o : List Terminal} {y : Read B} → read b o ≡ ok y → P b o → P y.tree y.rest
given {B} P {y} e k = subst (λ (z : Read B). P z.tree z.rest) (got e) k

-- an element of a list, and a separator or none after it
pub sep-good : {B S : Type 0} (P : S → List Terminal → B → List Terminal → Type 0) (s s' : S) (i o : List Terminal) (w : Reserved) (put : B → B) (end : B) (y : Read (Turn B S)) →
    separated (after_word w o) put end s' o ≡ ok y → (after_word w o ≡ None → P s i end o) → ((m : List Terminal) → WordAt w o m → (b : B) (k : List Terminal) → P s' m b k → P s i (put b) k) →
    GoodTurn P s i y.tree y.rest
sep-good {B} {S} P s s' i o w put end y h ends goes =
    elim (separated-ok (after_word w o) put end s' o h) [
      | inl q ↦ subst (λ (z : Read (Turn B S)). GoodTurn P s i z.tree z.rest) q.1 (ends q.0)
      | inr q ↦ subst (λ (z : Read (Turn B S)). GoodTurn P s i z.tree z.rest) q.2 (goes q.0 (word-at w o q.0 q.1))
    ]

-- the loop goes on after a separator
pub sep-more : {B S : Type 0} (o : List Terminal) (w : Reserved) (put : B → B) (end : B) (s : S) (put' : B → B) (t : S) (m : List Terminal) →
    separated (after_word w o) put end s o ≡ read (more put' t) m → WordAt w o m × (s ≡ t)
sep-more o w put end s put' t m h = let q = separated-more (after_word w o) put end s o put' t m h in (word-at w o m q.0, q.2)

-- the loop goes on with the state of a turn
abbrev Went : {B S : Type 0} → (S → List Terminal → Type 0) → Turn B S → List Terminal → Type 0
Went Q (last b) m = Unit
Went Q (more put t) m = Q t m

pub went : {B S : Type 0} (Q : S → List Terminal → Type 0) {put put' : B → B} {t t' : S} {m m' : List Terminal} → read (more put t) m ≡ read (more put' t') m' → Q t' m' → Q t m
went {B} {S} Q e q = subst (λ (z : Read (Turn B S)). Went Q z.tree z.rest) (sym (got e)) q

abbrev Ended : {B S : Type 0} → Type 0 → Turn B S → Type 0
Ended A (last b) = Unit
Ended A (more put t) = A

pub last-more : {A B S : Type 0} {put : B → B} {b : B} {t : S} {m m' : List Terminal} → read (last b) m ≡ read (more put t) m' → A
last-more {A} {B} {S} e = subst (λ (z : Read (Turn B S)). Ended A z.tree) (got e) tt
