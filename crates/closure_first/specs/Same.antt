-- What is claimed of strings that come after those of a program.
use Rattle.std.specs.Prelude.{◌≡◌, ℕ, List}
use Rattle.ir_tables.specs.Tables.{string_at}
use Rattle.ir_mono.specs.Types as table
use Rattle.plain_tree.specs.declared.tree.Exp.{Exp}
use Rattle.mono_bound.specs.Reads.{mono_of}

-- a tree reads the same by strings that have the same numbers
abbrev pub TreesReadSame : Type 0
TreesReadSame =
    (types : List table.Row) (strings others : List (List ℕ)) → ((k : ℕ) → string_at others k ≡ string_at strings k)
    → (e : Exp) → mono_of types others e ≡ mono_of types strings e
