-- Targets, and how a switch finds its arm, by the tags of its arms alone.
use Rattle.std.specs.Prelude.{ℕ, suc, ◌*◌, max, List, [], ◌∷◌, length, Bool, true, false, ◌&&◌, nat_lt, nat_le, if◌then◌else◌}
use Rattle.machine_routines.specs.FindCode as find
use Rattle.emit_rows.specs.of_machine_code.Code as code
use Rattle.emit_code.specs.declared.choice.Target.{Target}
use Rattle.emit_code.specs.declared.choice.Choice.{Choice}
use Rattle.emit_code.specs.declared.choice.Choice.TheVariants as choice

abbrev pub target_of : Target → find.Target
target_of t = record { tag = t.tag; place = t.place }

abbrev pub choice_of : Choice → code.Choice
choice_of choice.Table = code.by_table
choice_of choice.Search = code.by_search
choice_of choice.Tests = code.by_tests

-- all tags are below this
abbrev pub end_of : List ℕ → ℕ
end_of [] = 0
end_of (t ∷ ts) = max (suc t) (end_of ts)

-- whether tags rise, from this one on
abbrev pub rise_from : ℕ → List ℕ → Bool
rise_from t [] = true
rise_from t (i ∷ ts) = nat_le t i && rise_from (suc i) ts

abbrev pub choice_for : List ℕ → code.Choice
choice_for ts =
    if nat_le (end_of ts) (2 * length ts) then code.by_table else (if nat_lt 4 (length ts) && rise_from 0 ts then code.by_search else code.by_tests)

-- how many instructions a target adds to a search, with a test at the end or without
abbrev pub each : Bool → ℕ
each true = 7
each false = 4
