-- The copies that numbers stand for.
use Rattle.std.specs.Prelude.{◌≡◌, ◌≢◌, ◌<◌, ℕ, List, [], true, map, length, get_or, slice_get, Some, AllPairs}
use Rattle.ty_core.specs.Types.{Typ}
use Rattle.ty_table.specs.TypeAt.{type_at, AllBelow}
use Rattle.monomorphise.specs.Monomorphise.{Name, copy_of, is_same}
use Rattle.mono_names.specs.Numbers.{AreOnce}

-- the types that a list of numbers stands for
abbrev pub types_named : List Typ → List ℕ → List Typ
types_named ts = map (type_at ts)

-- a variable at the types of the list that has this number
abbrev pub name_of : List Typ → List (List ℕ) → ℕ × ℕ → Name
name_of ts lists c = copy_of c.0 (types_named ts (get_or lists c.1 []))

-- the lists name types of the table
abbrev pub AreHeld : ℕ → List (List ℕ) → Type 0
AreHeld n lists = (k : ℕ) (l : List ℕ) → slice_get lists k ≡ Some l → AllBelow n l

-- where each type and each list is there once, copies of one name are one
abbrev pub NamesAreOnce : Type 0
NamesAreOnce = (ts : List Typ) (lists : List (List ℕ)) (c d : ℕ × ℕ) → AllPairs (λ t u. t ≢ u) ts → AreOnce lists → AreHeld (length ts) lists
    → c.1 < length lists → d.1 < length lists → is_same (name_of ts lists c) (name_of ts lists d) ≡ true → c ≡ d
