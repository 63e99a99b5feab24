-- What the numbers of a tree with simple types stand for: themselves; and what is in scope, as the typing has it.
use Rattle.std.specs.Prelude.{ℕ, List, ◌++◌, map, ⊤}
use Rattle.ir_mono.specs.Mono.{mono}
use Rattle.ir_mono.specs.Typing.{Sort, of_type, exception, Sorts}
use Rattle.ir_known.specs.declared.known.Known.{Known}
use Rattle.ir_known.specs.declared.known.Known.TheVariants as known
use Rattle.plain_tree.specs.TreeOf.{Reading}
use Rattle.mono_operations.specs.declared.tables.Tables.{Tables}

abbrev pub strings_of : Tables → List (List ℕ)
strings_of t = map (λ s. s.items) t.strings.items

-- a use takes no types, and nothing is generalised
abbrev pub reading : (t : Tables) → Reading (mono t.types)
reading t = record {
  binder = λ x. x;
  atom = λ x. x;
  use_at = λ x ts. x;
  type = λ n. n;
  parameters = λ ps. tt;
  strings = strings_of t;
}

abbrev pub sort_in : Known → Sort
sort_in (known.OfType t) = of_type t
sort_in (known.General ps t) = of_type t
sort_in (known.Own t) = of_type t
sort_in (known.Exception a) = exception a

abbrev pub sorts_of : List (ℕ × Known) → Sorts
sorts_of = map (λ k. (k.0, sort_in k.1))

-- variables of the same function, then those around it
abbrev pub Names : Type 0
Names = List (ℕ × Known) × List (ℕ × Known)

abbrev pub local : Names → Sorts
local s = sorts_of s.0

abbrev pub all : Names → Sorts
all s = sorts_of (s.0 ++ s.1)
