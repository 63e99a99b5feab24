-- What is done along a list: where what follows an element is seen, and something is carried along.
use Rattle.std.specs.Prelude.{Bool, true, ◌&&◌, List, [], ◌∷◌}

module _ {A S : Type 0} where
  -- from the first element on
  abbrev pub run : (A → List A → S → S) → List A → S → S
  run step [] s = s
  run step (x ∷ xs) s = run step xs (step x xs s)

  -- from the last element on
  abbrev pub run_back : (A → S → S) → List A → S → S
  run_back step [] s = s
  run_back step (x ∷ xs) s = step x (run_back step xs s)

  -- whether each element is right, where `next` says what is carried on
  abbrev pub hold : (S → A → List A → Bool) → (S → A → S) → S → List A → Bool
  hold is_right next s [] = true
  hold is_right next s (x ∷ xs) = is_right s x xs && hold is_right next (next s x) xs

-- where nothing is carried
abbrev pub all_hold : {A : Type 0} → (A → Bool) → List A → Bool
all_hold is_right [] = true
all_hold is_right (x ∷ xs) = is_right x && all_hold is_right xs
