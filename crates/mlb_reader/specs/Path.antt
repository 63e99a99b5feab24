-- Paths in the words of ML Basis files.
use Rattle.std.specs.Prelude.{ℕ, ◌-◌, Bool, false, not, ◌||◌, ◌==◌, if◌then◌else◌, List, [], ◌∷◌, ◌++◌, length, take, reverse, codes}
use Rattle.std.specs.List.{suffix_len}
use Rattle.std.specs.Str.{bytes_eq}

-- a path as what stands before, between and after its slashes
abbrev pub put_front : ℕ → List (List ℕ) → List (List ℕ)
put_front b [] = (b ∷ []) ∷ []
put_front b (s ∷ ss) = (b ∷ s) ∷ ss

abbrev pub segments : List ℕ → List (List ℕ)
segments [] = [] ∷ []
segments (b ∷ i) = if b == 47 then [] ∷ segments i else put_front b (segments i)

abbrev pub joined : List (List ℕ) → List ℕ
joined [] = []
joined (s ∷ []) = s
joined (s ∷ t ∷ ss) = s ++ 47 ∷ joined (t ∷ ss)

abbrev pub is_here : List ℕ → Bool
is_here s = bytes_eq s (codes ".")

abbrev pub is_up : List ℕ → Bool
is_up s = bytes_eq s (codes "..")

-- a folder's name: neither empty nor `.` nor `..`
abbrev pub is_name : List ℕ → Bool
is_name s = not (bytes_eq s [] || (is_here s || is_up s))

-- a further segment after those that are left so far, the latest first: `.` is dropped, and `..` with the name before it
abbrev pub next_up : List ℕ → List (List ℕ) → List (List ℕ)
next_up s [] = s ∷ []
next_up s (t ∷ ts) = if is_name t then ts else s ∷ t ∷ ts

abbrev pub next_segment : List (List ℕ) → List ℕ → List (List ℕ)
next_segment done s = if is_here s then done else (if is_up s then next_up s done else s ∷ done)

abbrev pub kept_segments : List (List ℕ) → List (List ℕ) → List (List ℕ)
kept_segments done [] = done
kept_segments done (s ∷ ss) = kept_segments (next_segment done s) ss

-- the path without `.` and `x/..`. Two paths that give the same one name one file.
abbrev pub clean : List ℕ → List ℕ
clean path = joined (reverse (kept_segments [] (segments path)))

abbrev pub is_no_slash : ℕ → Bool
is_no_slash b = not (b == 47)

-- a path up to its last `/`
abbrev pub folder_of : List ℕ → List ℕ
folder_of path = take (length path - suffix_len is_no_slash path) path

abbrev pub begins_with_slash : List ℕ → Bool
begins_with_slash [] = false
begins_with_slash (b ∷ i) = b == 47

-- the path that a word in the file at this path names: taken from its folder, unless it begins with `/`
abbrev pub path_from : List ℕ → List ℕ → List ℕ
path_from path word = clean (if begins_with_slash word then word else folder_of path ++ word)
