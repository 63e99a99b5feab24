-- The memory in use, as it is laid out: words that stay, the words of references, and those of exception names.
use Rattle.std.specs.Prelude.{◌≡◌, ℕ, List, [], ◌∷◌, ◌++◌}
use Rattle.ir_ssa.specs.of_first_values.Values.{Value}
use Rattle.machine_routines.specs.Layout.{Word, stays, changes, names, TextAt, Is}

-- the text that each identifier of an exception is, and the whole layout
module _ (text_of : ℕ → List ℕ) (all : List Word) where
  pub data Agrees : List Word → List ℕ → List Value → List ℕ → Type 0 where
    nothing : Agrees [] [] [] []
    a_word : (x : ℕ) {l : List Word} {m : List ℕ} {vs : List Value} {es : List ℕ} → Agrees l m vs es → Agrees (stays x ∷ l) (x ∷ m) vs es
    a_reference : (v : Value) (x : ℕ) {l : List Word} {m : List ℕ} {vs : List Value} {es : List ℕ} → Is all v x → Agrees l m vs es
        → Agrees (changes ∷ l) (x ∷ m) (v ∷ vs) es
    a_name : (e : ℕ) (x : ℕ) {l : List Word} {m : List ℕ} {vs : List Value} {es : List ℕ} → TextAt all (text_of e) x → Agrees l m vs es
        → Agrees (names x ∷ l) (x ∷ m) vs (e ∷ es)

-- values one by one
pub data AreAll (l : List Word) : List Value → List ℕ → Type 0 where
  none : AreAll l [] []
  more : (v : Value) (x : ℕ) {vs : List Value} {xs : List ℕ} → Is l v x → AreAll l vs xs → AreAll l (v ∷ vs) (x ∷ xs)

pub record Begins (old new : List Word) : Type 0 where
  pub rest : List Word
  pub is : new ≡ old ++ rest
