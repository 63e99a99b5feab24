-- What is claimed of the form of conversions.
use Rattle.std.specs.Prelude.{ℕ, List, []}
use Rattle.ir_mono.specs.Mono.{Program}
use Rattle.ir_mono.specs.Explicit.{IsExplicit}
use Rattle.ir_mono.specs.WellFormed as mono
use Rattle.ir_first.specs.WellFormed as first
use Rattle.flow_sets.specs.Flow.{Flow}
use Rattle.closure_convert.specs.Capture.{table_of}
use Rattle.closure_meaning.specs.Convert.{program}
use Rattle.closure_whole.specs.Constants.{AreHeld}
use Rattle.closure_whole.specs.Rising.{rising}
use Rattle.closure_whole.specs.Converted.{numbering}
use Rattle.closure_whole.specs.Whole.{without_functions}
use Rattle.closure_formed.specs.Tables.{AreRows, AreBytes, AreOrderly}

-- of a program with no function by itself, by any orderly sets
abbrev pub ConvertedWellFormed : Type 0
ConvertedWellFormed =
    (strings : List (List ℕ)) (F : Flow) (p : Program) → mono.IsWellFormed p → IsExplicit p.types [] p.body → AreHeld strings p.body
    → AreRows p.types → AreBytes strings → AreOrderly p F → first.IsWellFormed (program (numbering strings F p) strings F (table_of p.types p.body) p)

-- all functions of each type, in rising order, are
abbrev pub RisingAreOrderly : Type 0
RisingAreOrderly = (p : Program) → mono.IsWellFormed p → AreOrderly p (rising p)

-- of any program
abbrev pub WithoutFunctionsWellFormed : Type 0
WithoutFunctionsWellFormed =
    (strings : List (List ℕ)) (p : Program) → mono.IsWellFormed p → AreHeld strings p.body → AreRows p.types → AreBytes strings
    → first.IsWellFormed (without_functions strings p)
