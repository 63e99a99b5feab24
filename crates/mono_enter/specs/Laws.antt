-- What is claimed of what words want.
use Rattle.std.specs.Prelude.{◌≡◌, [], false}
use Rattle.ir_plain.specs.Tree.{Exp}
use Rattle.monomorphise.specs.Monomorphise.{Named}
use Rattle.monomorphise.specs.Table.{wanted}
use Rattle.mono_words.specs.Words.{spell}
use Rattle.mono_enter.specs.Scanning.{around, scan}

-- the words of copies want what the copies do, in the same order
abbrev pub WordsAreWanted : Type 0
WordsAreWanted = (e : Exp Named) → scan (spell e []) (around [] [] false) ≡ wanted e
