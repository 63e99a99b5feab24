-- What is claimed of the conversion of whole programs.
use Rattle.std.specs.Prelude.{◌≡◌, ℕ, true, List, [], map}
use Rattle.std.specs.List.{concat}
use Rattle.ir_mono.specs.Mono.{Program}
use Rattle.ir_mono.specs.Mono as mono
use Rattle.ir_mono.specs.Explicit.{IsExplicit}
use Rattle.ir_mono.specs.WellFormed.{IsWellFormed}
use Rattle.ir_first.specs.Meaning as first
use Rattle.flow_sets.specs.Flow.{Flow, SolvesProgram}
use Rattle.closure_meaning.specs.Convert.{set_of}
use Rattle.closure_meaning.specs.Laws.{TagsApart}
use Rattle.closure_whole.specs.Rising.{rising}
use Rattle.closure_whole.specs.Constants.{AreHeld}
use Rattle.closure_whole.specs.Tags.{stand_once, AreDense}
use Rattle.closure_whole.specs.Converted.{numbering, converted}
use Rattle.closure_whole.specs.Whole.{without_functions}

-- all functions of each type, in rising order, are a solution
abbrev pub RisingSolve : Type 0
RisingSolve = (p : Program) → IsWellFormed p → SolvesProgram p.types (rising p) p.body

-- one outcome, of a well formed program with no function by itself, beside a table of its strings
abbrev pub ConvertedSame : Type 0
ConvertedSame =
    (strings : List (List ℕ)) (p : Program) → IsWellFormed p → IsExplicit p.types [] p.body → AreHeld strings p.body → (m : ℕ)
    → first.meaning (converted strings p) m ≡ mono.meaning p m

-- one outcome, of any well formed program, beside a table of its strings
abbrev pub WithoutFunctionsSame : Type 0
WithoutFunctionsSame =
    (strings : List (List ℕ)) (p : Program) → IsWellFormed p → AreHeld strings p.body → (m : ℕ)
    → first.meaning (without_functions strings p) m ≡ mono.meaning p m

-- functions of one set have tags of their own, whatever the sets are
abbrev pub TagsAreApart : Type 0
TagsAreApart = (strings : List (List ℕ)) (F : Flow) (p : Program) → TagsApart (numbering strings F p) F

-- and 0, 1, 2 and so on in each, where no function stands twice in them
abbrev pub TagsAreDense : Type 0
TagsAreDense = (strings : List (List ℕ)) (F : Flow) (p : Program) → stand_once (concat F.sets) ≡ true → AreDense (map (set_of (numbering strings F p)) F.sets)

-- so in any program's conversion by type
abbrev pub WithoutFunctionsDense : Type 0
WithoutFunctionsDense = (strings : List (List ℕ)) (p : Program) → AreDense (without_functions strings p).tables.sets
