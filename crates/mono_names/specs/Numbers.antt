-- What is there has a number.
use Rattle.std.specs.Prelude.{◌≡◌, ℕ, List, [], ◌∷◌, ◌++◌, length, slice_get, Some}

module _ {A : Type 0} where
  -- each is there once
  abbrev pub AreOnce : List A → Type 0
  AreOnce l = (n m : ℕ) (x : A) → slice_get l n ≡ Some x → slice_get l m ≡ Some x → n ≡ m

  -- x has the number n in new, which is old with it; it goes last if it wasn't there
  pub record IsNumbered (old : List A) (x : A) (n : ℕ) (new : List A) : Type 0 where
    pub held : slice_get new n ≡ Some x
    pub known : (m : ℕ) → slice_get old m ≡ Some x → new ≡ old
    pub added : ((m : ℕ) → slice_get old m ≡ Some x → ⊥) → (new ≡ old ++ x ∷ []) × (n ≡ length old)
