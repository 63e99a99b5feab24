-- What is claimed of the conversion.
use Rattle.std.specs.Prelude.{◌≡◌, ℕ, suc, true, List, [], Some, get_or, slice_get}
use Rattle.mlc_runs.specs.Outcome.{wrong}
use Rattle.ir_explicit.specs.of_ir_mono.Types as table
use Rattle.ir_explicit.specs.of_ir_mono.Types.{IsTable}
use Rattle.ir_explicit.specs.of_ir_mono.Mono.{Mono, Program}
use Rattle.ir_explicit.specs.of_ir_mono.Mono as mono
use Rattle.ir_explicit.specs.of_ir_mono.Explicit.{IsExplicit}
use Rattle.ir_explicit.specs.of_ir_mono.WellFormed.{IsWellFormed}
use Rattle.ir_explicit.specs.Explicit as source
use Rattle.ir_first.specs.Meaning as first
use Rattle.closure_convert.specs.of_flow_sets.Member.{is_in}
use Rattle.closure_convert.specs.of_flow_sets.Flow.{Flow, SolvesProgram}
use Rattle.closure_convert.specs.of_flow_sets.ByType.{by_type}
use Rattle.closure_convert.specs.Scope.{Table, top}
use Rattle.closure_convert.specs.Closed.{IsClosed}
use Rattle.closure_convert.specs.Capture.{table_of}
use Rattle.closure_meaning.specs.Convert.{Numbering, numbers_in, program}
use Rattle.closure_meaning.specs.Fits.{Setting, Fits}

-- functions have the numbers after the program itself, in the order of their codes
abbrev pub IsNumbered : (types : List table.Row) → Numbering → Mono types → Type 0
IsNumbered types n e = (i k : ℕ) → slice_get (numbers_in types e []) i ≡ Some k → n.function k ≡ suc i

-- functions of one set that have the same tag are the same
abbrev pub TagsApart : Numbering → Flow → Type 0
TagsApart n flow = (set j k : ℕ) → is_in j (get_or flow.sets set []) ≡ true → is_in k (get_or flow.sets set []) ≡ true → n.tag j ≡ n.tag k → j ≡ k

abbrev pub setting : Numbering → List (List ℕ) → Flow → Table → Program → Setting
setting n strings flow captures p = record { types = p.types; initial = p.initial; strings = strings; numbering = n; flow = flow; captures = captures }

-- what a conversion asks of a program and of all that it is made with
pub record MayConvert (n : Numbering) (strings : List (List ℕ)) (flow : Flow) (captures : Table) (p : Program) : Type 0 where
  pub table : IsTable p.types
  pub fits : Fits (setting n strings flow captures p) p.body
  pub solves : SolvesProgram p.types flow p.body
  pub closed : IsClosed p.types captures top p.body
  pub numbered : IsNumbered p.types n p.body
  pub apart : TagsApart n flow

-- one outcome, for any sets that solve and any right table of captures
abbrev pub ConversionKeeps : Type 0
ConversionKeeps =
    (n : Numbering) (strings : List (List ℕ)) (flow : Flow) (captures : Table) (p : Program) → MayConvert n strings flow captures p → (m : ℕ)
    → ((source.meaning p m).end ≡ wrong → ⊥) → first.meaning (program n strings flow captures p) m ≡ source.meaning p m

-- of a well formed program with no function by itself, whatever it does
abbrev pub ConversionSame : Type 0
ConversionSame =
    (n : Numbering) (strings : List (List ℕ)) (flow : Flow) (captures : Table) (p : Program) → IsWellFormed p → IsExplicit p.types [] p.body
    → MayConvert n strings flow captures p → (m : ℕ) → first.meaning (program n strings flow captures p) m ≡ mono.meaning p m

-- so with all functions of each type, and captures in the order of binding
abbrev pub ConversionByType : Type 0
ConversionByType =
    (n : Numbering) (strings : List (List ℕ)) (p : Program) → IsWellFormed p → IsExplicit p.types [] p.body
    → Fits (setting n strings (by_type p) (table_of p.types p.body) p) p.body → IsNumbered p.types n p.body → TagsApart n (by_type p) → (m : ℕ)
    → first.meaning (program n strings (by_type p) (table_of p.types p.body) p) m ≡ mono.meaning p m
