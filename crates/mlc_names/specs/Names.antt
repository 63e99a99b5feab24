-- What interning does.
use Rattle.std.specs.Prelude.{ℕ, List, [], ◌∷◌, ◌++◌, if◌then◌else◌}
use Rattle.std.specs.List.{list_any}
use Rattle.std.specs.Str.{bytes_eq}

-- the texts that are held once this one was asked for: it goes last if it is new
abbrev pub with_text : List (List ℕ) → List ℕ → List (List ℕ)
with_text texts text = if list_any (bytes_eq text) texts then texts else texts ++ text ∷ []

-- the texts that are held once these were asked for, one after the other
abbrev pub with_texts : List (List ℕ) → List (List ℕ) → List (List ℕ)
with_texts held [] = held
with_texts held (text ∷ texts) = with_texts (with_text held text) texts
