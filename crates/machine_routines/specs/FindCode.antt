-- Code that goes to the place of a tag: by a jump table, or by a search.
use Rattle.std.specs.Prelude.{ℕ, zero, suc, ◌+◌, ◌*◌, ◌/◌, ◌≤◌, ◌<◌, List, [], ◌∷◌, ◌++◌, length, take, drop, Option, Some, None, Bool, true, false, nat_eq, nat_lt, nat_le, if◌then◌else◌}
use Rattle.ir_code.specs.declared.instr.Instr.{Instr}
use Rattle.ir_code.specs.declared.instr.Instr.TheVariants.{Li, Jmp, Brz, Switch, Eq, ULt}

-- where to go for a tag
pub record Target : Type 0 where
  pub tag : ℕ
  pub place : ℕ

abbrev pub member_at : ℕ → List Target → Option ℕ
member_at t [] = None
member_at t (m ∷ ms) = if nat_eq t m.tag then Some m.place else member_at t ms

-- a place or another
abbrev pub or_place : Option ℕ → ℕ → ℕ
or_place None p = p
or_place (Some q) p = q

-- from the tag i on, n jumps: for each tag to the place of its member, or else to p
abbrev pub jumps : List Target → ℕ → ℕ → ℕ → List Instr
jumps set p i zero = []
jumps set p i (suc n) = Jmp (or_place (member_at i set) p) ∷ jumps set p (suc i) n

-- by a table of n tags, with the tag in slot k
abbrev pub table_code : List Target → ℕ → ℕ → ℕ → List Instr
table_code set k p n = Switch k n ∷ (jumps set p 0 n ++ (Jmp p ∷ []))

-- A search: at a node the tags below c go to the left.
pub data Search : Type 0 where
  only : (place : ℕ) → Search
  exactly : (tag place : ℕ) → Search
  node : (c : ℕ) → Search → Search → Search

abbrev pub search_size : Search → ℕ
search_size (only q) = 1
search_size (exactly t q) = 4
search_size (node c a b) = 3 + (search_size a + search_size b)

-- at the place pc, with the tag in slot k and a free slot e; tags that are none go to p
abbrev pub search_code : ℕ → ℕ → ℕ → ℕ → Search → List Instr
search_code pc k e p (only q) = Jmp q ∷ []
search_code pc k e p (exactly t q) = Li e t ∷ Eq e k e ∷ Brz e p ∷ Jmp q ∷ []
search_code pc k e p (node c a b) =
    Li e c ∷ ULt e k e ∷ Brz e (pc + 3 + search_size a) ∷ (search_code (pc + 3) k e p a ++ search_code (pc + 3 + search_size a) k e p b)

-- what a search finds
abbrev pub finds : ℕ → Search → ℕ → ℕ
finds t (only q) p = q
finds t (exactly s q) p = if nat_eq t s then q else p
finds t (node c a b) p = if nat_lt t c then finds t a p else finds t b p

-- how it finds: by a table of n tags, or by a search
pub data Way : Type 0 where
  by_table : (n : ℕ) → Way
  by_search : Search → Way

abbrev pub way_size : Way → ℕ
way_size (by_table n) = 2 + n
way_size (by_search s) = search_size s

abbrev pub way_code : List Target → ℕ → ℕ → ℕ → ℕ → Way → List Instr
way_code set pc k e p (by_table n) = table_code set k p n
way_code set pc k e p (by_search s) = search_code pc k e p s

-- The search of a set whose tags rise: half of them on each side.
abbrev pub half : List Target → ℕ
half set = length set / 2

-- with a test at the end, where other tags may come
abbrev pub leaf : Bool → Target → Search
leaf true m = exactly m.tag m.place
leaf false m = only m.place

abbrev pub joined : Bool → ℕ → List Target → List Target → Search → Search → Search
joined tests p xs [] a b = only p
joined tests p [] (m ∷ ms) a b = leaf tests m
joined tests p (x ∷ xs) (m ∷ ms) a b = node m.tag a b

abbrev pub search_of : Bool → ℕ → ℕ → List Target → Search
search_of tests p zero set = only p
search_of tests p (suc k) set = joined tests p (take (half set) set) (drop (half set) set) (search_of tests p k (take (half set) set))
    (search_of tests p k (drop (half set) set))

-- a dense table where the members are at least half of the tags below n, else a search
abbrev pub way_of : Bool → ℕ → ℕ → List Target → Way
way_of tests p n set = if nat_le n (2 * length set) then by_table n else by_search (search_of tests p (length set) set)

abbrev pub Rises : ℕ → List Target → Type 0
Rises least [] = Unit {0}
Rises least (m ∷ ms) = (least ≤ m.tag) × Rises (suc m.tag) ms

-- all tags are below n
abbrev pub Below : ℕ → List Target → Type 0
Below n [] = Unit {0}
Below n (m ∷ ms) = (m.tag < n) × Below n ms
