-- What is claimed of going along words.
use Rattle.std.specs.Prelude.{◌≡◌, ℕ, List, []}
use Rattle.ty_core.specs.Types.{Typ}
use Rattle.ir_plain.specs.Tree.{Exp}
use Rattle.ir_mono.specs.Types as table
use Rattle.monomorphise.specs.Monomorphise.{Named}
use Rattle.monomorphise.specs.Number.{none_given, number}
use Rattle.mono_read.specs.of_mono_words.Words as named
use Rattle.mono_read.specs.Words as made
use Rattle.mono_number.specs.Walking.{at, along}

-- the words of copies become those of the copies with numbers
abbrev pub WordsAreNumbered : Type 0
WordsAreNumbered = (types : List table.Row) (index : Typ → ℕ) (e : Exp Named) (b : ℕ)
    → along types index (named.spell e []) (at none_given b []) ≡ made.spell (number types index none_given b e) []
