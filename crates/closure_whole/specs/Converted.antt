-- The conversion of a program: functions are numbered in the order of their codes, and have tags by their sets; a string is numbered by its place, and names of
-- exceptions are what is bound as one.
use Rattle.std.specs.Prelude.{ℕ, zero, suc, Bool, true, false, List, [], ◌∷◌, Option, Some, None, if◌then◌else◌}
use Rattle.std.specs.Str.{bytes_eq}
use Rattle.ir_mono.specs.Mono.{Program}
use Rattle.ir_first.specs.Tree as out
use Rattle.flow_sets.specs.Flow.{Flow}
use Rattle.flow_sets.specs.ByType.{What, value, name, parameter, Bound, bound_in, bound}
use Rattle.closure_convert.specs.Scope.{index_of}
use Rattle.closure_convert.specs.Capture.{table_of}
use Rattle.closure_meaning.specs.Convert.{Numbering, numbers_in, program}
use Rattle.closure_whole.specs.Rising.{rising}
use Rattle.closure_whole.specs.Tags.{tag_by}

-- the place of a string
abbrev pub text_index : List ℕ → List (List ℕ) → ℕ
text_index s [] = zero
text_index s (t ∷ ts) = if bytes_eq s t then zero else suc (text_index s ts)

abbrev pub names_exception : What → Bool
names_exception (value t) = false
names_exception name = true
names_exception (parameter f) = false

abbrev pub bound_as_name : Option Bound → Bool
bound_as_name None = false
bound_as_name (Some b) = names_exception b.what

-- function 0 is the program itself; tags are by these sets
abbrev pub numbering : List (List ℕ) → Flow → Program → Numbering
numbering strings F p = record {
  function = λ k. suc (index_of k (numbers_in p.types p.body []));
  tag = λ k. tag_by F.sets k;
  text = λ s. text_index s strings;
  is_name = λ x. bound_as_name (bound_in x (bound p.types p.body));
}

-- with all functions of each type, and captures in the order of binding
abbrev pub converted : List (List ℕ) → Program → out.Program
converted strings p = program (numbering strings (rising p) p) strings (rising p) (table_of p.types p.body) p
